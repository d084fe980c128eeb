use Rattle.sync_syntax.proofs.CompleteStatements.{given_complete}
use Rattle.sync_syntax.proofs.FaultTokens.{given_fault}
use Rattle.sync_syntax.proofs.program.tree_of.Goals as goal

pub returns-clause-complete : goal.returns-clause-complete
returns-clause-complete c =
    given_complete c.args.text.now c.in_ok-all.all.items c.as_slice.result.now c.lawful.result c.in_ok-all.ensures.spellable c.in_ok-all.ensures.exact c.as_slice.ensures.value c.lawful.ensures.exact

pub returns-clause-fault : goal.returns-clause-fault
returns-clause-fault c =
    given_fault c.tokens_rise.ensures c.args.text.now c.in_ok-all.all.items c.as_slice.result.now c.lawful.result c.utf8.text c.in_ok-all.ensures.spellable c.in_ok-all.ensures.exact c.as_slice.ensures.value c.lawful.ensures.exact
