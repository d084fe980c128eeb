use Rattle.std.proofs.Common.{◌≡◌, ◌∙◌, ℕ, List, sym, ap}
use Rattle.feed_rows.specs.Known.{Known, from_on, row_in}
use Rattle.feed_rows.specs.PassAt.{IsKnown}
use Rattle.feed_rows.proofs.Renewals.{row_now, since_now, viewer_before}
use Rattle.feed_rows.proofs.document.bring_up.Goals as goal

known_path : (a b : Known) → a.name ≡ b.name → a.current ≡ b.current → a.since ≡ b.since → a.row ≡ b.row → a ≡ b
known_path a b n c s r = λ i. record { name = n i; current = c i; since = s i; row = r i }

pub returns : goal.returns
returns c = λ e es doc renewed was.
    let viewer = c.args.viewer.now in
    let before : IsKnown viewer c.args.from es doc c.args.document.now.latest c.args.document.now.change = record {
      is_viewer = viewer_before viewer e es doc c.args.latest renewed;
      state = ap (λ (k : Known). k.current) was;
      since = ap (λ (k : Known). k.since) was;
      row =
          ap (λ (n : List ℕ). row_in n c.args.document.now.change) (sym (ap (λ (k : Known). k.name) was))
          ∙ ap (λ (k : Known). k.row) was;
    } in
    let name = ap (λ (k : Known). k.name) was in
    let row =
    ap (λ (n : List ℕ). row_in n c.change_by_renewal-document.result) name
    ∙ c.change_by_renewal-document.ensures e es doc renewed before
    ∙ sym (ap (from_on c.args.from) (row_now viewer e es doc c.args.latest renewed)) in
    known_path _ _ name renewed.state (since_now viewer e es doc c.args.latest renewed) row
