use Rattle.std.proofs.Common.{◌≡◌, ◌^◌, ◌%◌, ℕ, []}
use Rattle.seq_gate.specs.Rule.{idle}
use Rattle.seq_gate.specs.Turns.{ticketed}
use Rattle.seq_gate.proofs.pass.Pass.enter.Given as goal

abbrev pub invariant-loop : goal.invariant-loop
invariant-loop g l =
    (goal.iterator-loop g).can_next l.iterator' × (goal.iterator-loop g).is_finite l.iterator'
    × (l.seat.table_id ≡ l.fn.self.gate) × ((n : ℕ) × (l.ticket ≡ n % 2 ^ 64) × (l.seat.me ≡ (ticketed (idle l.fn.self.knows) n, [])))
