use Rattle.std.proofs.Common.{refl}
use Rattle.repl_messages.proofs.revision.with_marks.Goals as goal

pub returns : goal.returns
returns c = rw (c.is_set.ensures, c.is_set-2.ensures, c.in_ok-body.ensures) refl
