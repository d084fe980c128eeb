use Rattle.std.proofs.Common.{arith}
use Rattle.std.proofs.lemmas.Bool.Decides.{nat_tests}
use Rattle.sg_lines.proofs.InputLemmas.{left_before}
use Rattle.sg_lines.proofs.inputs.is_read.Goals as goal

pub returns-in-Bytes-clause-unread : goal.returns-in-Bytes-clause-unread
returns-in-Bytes-clause-unread c = λ h. rw c.in-Bytes.is (left_before c.args.at c.in-Bytes.bytes (grind (arith, nat_tests, h)))
