-- How a turn lends its board.
use Rattle.std.specs.Borrow.{Lends, MutBor, Fml, RattleType}
use Rattle.seq_gate.specs.Views.{TurnView}
use Rattle.seq_gate.specs.contracts.turn.Turn.{the_row}

abbrev pub LendsBoard : (B : RattleType) → MutBor (TurnView B.Denot) → MutBor B.Denot → Fml
LendsBoard B t r = Lends (the_row B) B t r (λ board. record { gate = t.now.gate; knows = t.now.knows; found = t.now.found; board = board })
