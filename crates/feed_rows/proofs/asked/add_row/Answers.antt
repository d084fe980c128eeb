use Rattle.std.proofs.Common.{◌≡◌, ◌∙◌, false, sym, ap, refl, map, Option}
use Rattle.sg_history.specs.declared.row.Row.{Row}
use Rattle.sg_history.specs.Feed.{bits_of, keeps}
use Rattle.feed_rows.specs.declared.document.Change.{Change}
use Rattle.feed_rows.specs.Known.{row_in, view_when}
use Rattle.feed_rows.specs.Latest.{changed_in}
use Rattle.feed_rows.specs.inner.Ordered.{insert_asked, under_key}
use Rattle.feed_rows.proofs.Ordered.{not_asked}
use Rattle.feed_rows.proofs.Settled.{shown_some}
use Rattle.feed_rows.proofs.asked.add_row.Goals as goal

pub returns-then-not-keeps : goal.returns-then-not-keeps
returns-then-not-keeps c = λ before h.
    let change = c.in-Some.change in
    let winner = changed_in change in
    let options = c.args.options.now in
    let since = c.args.since.now in
    let row : Row = record {
      key = record { by = change.by; seq = change.seq };
      doc = c.args.name.now;
      rev = change.winner.now.rev;
      bits = bits_of (view_when change.is_shown winner) change.wrote change.winner.now.deleted;
    } in
    let out : keeps options since row ≡ false = sym (c.keeps.ensures row refl (sym (c.bits_of-bits.ensures (view_when change.is_shown winner) (shown_some change.is_shown winner)))) ∙ c.if-not-keeps.true in
    h
    ∙ ap (map under_key) (sym (not_asked options since row before out))
    ∙ ap (λ (o : Option Change). map under_key (insert_asked options since (row_in c.args.name.now o) before)) (sym c.in-Some.is)
