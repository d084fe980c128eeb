use Rattle.repl_messages.proofs.WrittenRevs.{rev_is_read}
use Rattle.repl_messages.proofs.laws.revisions_read.Goals as goal

pub returns : goal.returns
returns c = rev_is_read
