use Rattle.std.proofs.Common.{◌≡◌, ◌∙◌, sym, subst, List}
use Rattle.grant_history.specs.declared.states.NewState.{NewState}
use Rattle.grant_history.specs.inner.Changes.{IsMarking}
use Rattle.grant_history.specs.NewStates.{by_marks}
use Rattle.grant_tracks.proofs.Tracked.{on_ok}
use Rattle.grant_history.proofs.history.take_replacement.Goals as goal

pub take_marked-requires : goal.take_marked-requires
take_marked-requires c =
    let same : c.as_slice.result.now ≡ by_marks c.args.index.now c.args.marks.now 0 = c.as_slice.ensures.value ∙ c.in_ok-states.ensures in
    (c.requires.0, c.requires.1, subst (λ (l : List NewState). IsMarking c.args.ledger.now c.args.at c.args.marks.now l c.requires.0 c.requires.1) (sym same) c.requires.2)

pub returns-clause-ok : goal.returns-clause-ok
returns-clause-ok c =
    let same : c.as_slice.result.now ≡ by_marks c.args.index.now c.args.marks.now 0 = c.as_slice.ensures.value ∙ c.in_ok-states.ensures in
    on_ok c.take_marked.result _ _ (λ takes e es is. takes e es (subst (λ (l : List NewState). IsMarking c.args.ledger.now c.args.at c.args.marks.now l e es) (sym same) is)) c.take_marked.ensures.ok

pub returns-clause-same : goal.returns-clause-same
returns-clause-same c = λ e es is.
    let same : c.as_slice.result.now ≡ by_marks c.args.index.now c.args.marks.now 0 = c.as_slice.ensures.value ∙ c.in_ok-states.ensures in
    c.take_marked.ensures.same e es (subst (λ (l : List NewState). IsMarking c.args.ledger.now c.args.at c.args.marks.now l e es) (sym same) is)
