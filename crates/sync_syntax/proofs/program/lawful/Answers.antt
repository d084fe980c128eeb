use Rattle.sync_syntax.proofs.SoundStatements.{given-is}
use Rattle.sync_syntax.proofs.program.lawful.Goals as goal

pub returns-clause-grammar : goal.returns-clause-grammar
returns-clause-grammar c = given-is c.args.all.now c.whole.result c.whole.ensures
