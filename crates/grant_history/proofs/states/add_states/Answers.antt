use Rattle.std.proofs.Common.{◌∙◌, ◌<◌, ◌∷◌, sym, ap, subst, List, Option}
use Rattle.std.specs.Prelude.{IfSome}
use Rattle.sg_history.specs.declared.entries.Entry.{Entry}
use Rattle.sg_history.specs.History.{as_write}
use Rattle.log_index.specs.declared.documents.Document.{Document}
use Rattle.log_index.specs.Places.{document_before}
use Rattle.grant_history.specs.declared.states.NewState.{NewState}
use Rattle.grant_history.specs.NewStates.{state_by}
use Rattle.grant_history.proofs.Standing.{written_low}
use Rattle.grant_history.proofs.states.add_states.Goals as goal

pub push_written-requires-clause-written : goal.push_written-requires-clause-written
push_written-requires-clause-written c =
    let e = c.args.entry.now in
    let es = e ∷ c.args.index.now in
    subst (λ (o : Option NewState). IfSome o (λ s. 0 < s.winning))
    (sym (c.state_by.ensures
    ∙ ap (λ (d : Option Document). state_by c.push.new.self d) c.in_ok-document.ensures.document
    ∙ ap (λ (l : List Entry). state_by l (document_before es (as_write e))) c.in_ok-document.ensures.ok))
    (written_low es (as_write e))
