use Rattle.std.proofs.Common.{◌∙◌, ◌<◌, sym, ap, arith, reverse}
use Rattle.std.specs.Option.{option_copied}
use Rattle.sg_history.specs.History.{as_sync}
use Rattle.log_index.specs.Marks.{mark_in_place}
use Rattle.log_views.proofs.Looked.{had, mark_read, no_mark}
use Rattle.log_views.proofs.effects.mark_at.Goals as goal

pub returns-then-marked-eq0 : goal.returns-then-marked-eq0
returns-then-marked-eq0 c = no_mark (reverse c.args.entries.now) c.args.marked (omega (arith, c.if-marked-eq0.true))

pub returns-in-None : goal.returns-in-None
returns-in-None c =
    let low : 0 < c.args.marked.sync = omega (arith, c.if-marked-eq0.false) in
    ap (had (λ e. mark_in_place (as_sync e) c.args.marked.mark)) (sym (ap option_copied c.in-None.is) ∙ c.entry_at.ensures)
    ∙ mark_read c.args.entries.now c.args.marked low

pub returns-in-Some : goal.returns-in-Some
returns-in-Some c =
    let low : 0 < c.args.marked.sync = omega (arith, c.if-marked-eq0.false) in
    c.mark_in.ensures
    ∙ ap (had (λ e. mark_in_place (as_sync e) c.args.marked.mark)) (sym (ap option_copied c.in-Some.is) ∙ c.entry_at.ensures)
    ∙ mark_read c.args.entries.now c.args.marked low
