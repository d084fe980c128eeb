use Rattle.std.proofs.Common.{◌≡◌, drop}
use Rattle.sg_history.specs.Book.{waiting_at}
use Rattle.sg_history.proofs.book.waiting_at.Given as goal

abbrev pub invariant-loop-first : goal.invariant-loop-first
invariant-loop-first l = waiting_at (drop l.first-index l.waiting) l.number ≡ waiting_at l.waiting l.number
