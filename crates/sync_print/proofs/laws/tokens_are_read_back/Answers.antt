use Rattle.sync_print.proofs.ReadBack.{read_back}
use Rattle.sync_print.proofs.laws.tokens_are_read_back.Goals as goal

pub returns : goal.returns
returns c = read_back
