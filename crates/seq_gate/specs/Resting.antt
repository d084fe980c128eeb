-- What a pass and a turn keep of their seats. Only proofs need this.
use Rattle.std.specs.Prelude.{◌≡◌, ◌≤◌, ◌^◌, ℕ, [], ◌∷◌, Option, Some, None}
use Rattle.atomic_table.specs.Table.{Me}
use Rattle.sg_history.specs.Board.{BoardState}
use Rattle.seq_gate.specs.Passes.{share}
use Rattle.seq_gate.specs.Rule.{idle}
use Rattle.seq_gate.specs.Turns.{ticketed, in_turn}
use Rattle.seq_gate.specs.declared.known.Known.{Known}
use Rattle.seq_gate.specs.declared.known.View.{View}

-- how many draws a pass has, and the number of those left that it counts itself
pub record HasDraws (p : Known) (count : ℕ) : Type 0 where
  pub least : 2 ^ 32 ≤ share p
  pub most : share p ≤ 2 ^ 62
  pub left : count ≡ p.left

-- out of turn, with no slot
pub record IsResting {B : Type 0} (seat : Me (Option B) View) (count : ℕ) : Type 0 where
  pub me : seat ≡ (idle seat.0.knows, [])
  pub draws : HasDraws seat.0.knows count

-- the board that was found, where one was
abbrev pub found_of : Option BoardState → BoardState
found_of None = record { limit = None; log = []; pending = []; rooms = []; bytes = 0; side = []; faults = 0 }
found_of (Some board) = board

-- in turn, with the slot, which is empty
pub record IsServed {B : Type 0} (seat : Me (Option B) View) (count : ℕ) : Type 0 where
  pub ticket : ℕ
  pub me : seat ≡ (in_turn (ticketed (idle seat.0.knows) ticket) (found_of seat.0.found), (0, None) ∷ [])
  pub draws : HasDraws seat.0.knows count
