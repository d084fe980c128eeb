-- Numbers at which an entry may be stored, and rooms that are alike. Tests hand this on from call to call.
use Rattle.std.specs.Prelude.{◌≡◌, ◌≢◌, ◌≤◌, ◌<◌, ℕ, List, [], ◌∷◌}
use Rattle.sg_history.specs.declared.room.RoomFor.{RoomFor}
use Rattle.pending_front.specs.Storing.{MayStore}
use Rattle.doc_board.specs.State.{State}

-- an entry may be stored at each number from this one on
abbrev pub AreFree : State → ℕ → Type 0
AreFree s low = (number : ℕ) → low ≤ number → 1 ≤ number → MayStore s.log s.pending number

-- at another number than this one an entry still may be stored where it might before
abbrev pub Stays : State → State → ℕ → Type 0
Stays before after number =
    (other : ℕ) → number ≢ other → MayStore before.log before.pending other → MayStore after.log after.pending other

-- below this number an entry still may be stored where it might before
abbrev pub StaysBelow : State → State → ℕ → Type 0
StaysBelow before after number =
    (other : ℕ) → other < number → MayStore before.log before.pending other → MayStore after.log after.pending other

-- each of these rooms is made for the same
abbrev pub AreAlike : RoomFor → List RoomFor → Type 0
AreAlike room [] = Unit {0}
AreAlike room (first ∷ others) = (first ≡ room) × AreAlike room others
