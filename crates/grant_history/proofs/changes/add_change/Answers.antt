use Rattle.std.proofs.Common.{◌≡◌, ◌∙◌, sym, ap, ◌++◌, Option, None, Some}
use Rattle.std.proofs.lemmas.List.{append-nil}
use Rattle.std.specs.Option.{option_copied}
use Rattle.sg_history.specs.declared.entries.Mark.{Mark}
use Rattle.grant_history.specs.inner.Changes.{change_by, facts_in_changes, mark_among, others}
use Rattle.grant_history.specs.Ledger.{kept_of}
use Rattle.grant_tracks.proofs.Tracked.{on_ok}
use Rattle.grant_history.proofs.changes.add_change.Goals as goal

pub returns-in-None : goal.returns-in-None
returns-in-None c =
    let old = facts_in_changes c.args.changes.now.items in
    let none : mark_among c.args.marks.now c.args.state.now.marked ≡ None = sym c.mark_of.ensures ∙ ap option_copied c.in-None.is in
    sym (ap (λ (o : Option Mark). old ++ others (kept_of c.args.ledger.now) (change_by o)) none ∙ append-nil old)

pub returns-in-Some : goal.returns-in-Some
returns-in-Some c =
    let old = facts_in_changes c.args.changes.now.items in
    let some : mark_among c.args.marks.now c.args.state.now.marked ≡ Some c.in-Some.mark.now = sym c.mark_of.ensures ∙ ap option_copied c.in-Some.is in
    on_ok c.add_mark.result _ _ (λ is. is ∙ ap (λ (o : Option Mark). old ++ others (kept_of c.args.ledger.now) (change_by o)) (sym some)) c.add_mark.ensures
