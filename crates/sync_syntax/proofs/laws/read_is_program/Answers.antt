use Rattle.sync_syntax.proofs.SoundStatements.{read-is}
use Rattle.sync_syntax.proofs.laws.read_is_program.Goals as goal

pub returns : goal.returns
returns c = read-is
