use Rattle.std.proofs.Common.{◌∙◌, ◌+◌, ◌++◌, sym, ap, arith, drop, get_or, List, None, append_assoc}
use Rattle.std.proofs.lemmas.List.{append-nil, drop_all, get_or_default}
use Rattle.grant_history.specs.declared.states.NewState.{NewState}
use Rattle.grant_history.specs.inner.Changes.{DocumentFacts, change_by, changes_by, facts_in_changes, mark_among, others}
use Rattle.grant_history.specs.Ledger.{kept_of}
use Rattle.grant_history.proofs.Others.{others_append}
use Rattle.grant_tracks.proofs.Gathered.{split}
use Rattle.grant_history.proofs.changes.changes_of.Goals as goal

pub loop-state-preserved : goal.loop-state-preserved
loop-state-preserved c =
    let marks = c.args.marks.now in
    let states = c.args.states.now in
    let gives = kept_of c.args.ledger.now in
    let i = c.loop-state.state-index in
    let s : NewState = get_or states i (record { winning = 0; marked = None }) in
    let before = facts_in_changes c.loop-state.changes.items in
    let here = change_by (mark_among marks s.marked) in
    ap (λ (l : List DocumentFacts). l ++ others gives (changes_by marks (drop (i + 1) states))) c.in_ok-add_change.ensures
    ∙ append_assoc before (others gives here) (others gives (changes_by marks (drop (i + 1) states)))
    ∙ ap (λ (l : List DocumentFacts). before ++ l) (sym (others_append gives here (changes_by marks (drop (i + 1) states))))
    ∙ ap (λ (l : List NewState). before ++ others gives (changes_by marks l)) (split states i s (omega arith) (get_or_default states i _ _ (omega arith)))
    ∙ c.loop-state.invariant

pub returns : goal.returns
returns c =
    let marks = c.args.marks.now in
    let gives = kept_of c.args.ledger.now in
    let built = facts_in_changes c.loop-state.changes.items in
    sym (ap (λ (l : List NewState). built ++ others gives (changes_by marks l)) (drop_all c.loop-state.state-index c.args.states.now (omega (arith, c.loop-state-test.false))) ∙ append-nil built)
    ∙ c.loop-state.invariant
