-- What is seen of a pass and of a turn.
use Rattle.atomic_table.specs.Seated.{TableId}
use Rattle.sg_history.specs.Board.{BoardState}
use Rattle.seq_gate.specs.declared.known.Known.{Known}

-- a pass: the gate that it is of, and what it knows
pub record PassView : Type 0 where
  pub gate : TableId
  pub knows : Known

-- a pass in its turn, with the board as it was found, and the board in hand
pub record TurnView (B : Type 0) : Type 0 where
  pub gate : TableId
  pub knows : Known
  pub found : BoardState
  pub board : B
