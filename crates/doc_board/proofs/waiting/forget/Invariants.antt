use Rattle.std.proofs.Common.{◌≡◌, ◌≤◌, ◌<◌, ◌+◌, ℕ, nat_eq}
use Rattle.std.specs.HashMap.{get, spare}
use Rattle.doc_board.proofs.waiting.forget.Given as goal

abbrev pub invariant-loop-i : goal.invariant-loop-i
invariant-loop-i l = record {
  others : (number : ℕ) → l.front + l.count < number → get nat_eq l.bases number ≡ get nat_eq l.fn.bases number;
  spare : spare l.fn.bases ≤ spare l.bases;
}
