-- What the calls on checkpoints answer, and what a set leaves.
use Rattle.std.specs.Prelude.{◌≡◌, ◌≢◌, ◌+◌, ℕ, Bool, List, length, nat_eq, nat_le, nat_lt, Option, Some, None, if◌then◌else◌}
use Rattle.std.specs.Option.{unwrap_or}
use Rattle.sg_history.specs.Board.{SideEntry, SideValue, side_at}
use Rattle.checkpoint_store.specs.declared.answers.Kept0.{Kept0}
use Rattle.checkpoint_store.specs.declared.answers.Kept0.TheVariants.{Found, Absent404}
use Rattle.checkpoint_store.specs.declared.answers.SetAnswer.{SetAnswer}
use Rattle.checkpoint_store.specs.declared.answers.SetAnswer.TheVariants.{Set, Conflict409, TooLarge413, Full503, Memory}
use Rattle.checkpoint_store.specs.SideMaps.{side_number, IsPut}

-- what a get answers of what is kept
abbrev pub kept_of : Option SideValue → Kept0
kept_of None = Absent404
kept_of (Some value) = Found value.number value.bytes

-- what a get answers of a text
abbrev pub kept_at : List SideEntry → List ℕ → Kept0
kept_at side text = kept_of (side_at side text)

-- whether a set finds no room: for a new text where 100,000 are kept, or for a number past the last one
abbrev pub is_full : Option ℕ → ℕ → Bool
is_full None count = nat_le 100000 count
is_full (Some number) count = nat_eq number 18446744073709551615

-- what a set of a body that is not too large answers by the kept number, which is 0 where none is, and by how many are kept
abbrev pub answer_of : Option ℕ → ℕ → ℕ → SetAnswer
answer_of number count rev =
    if nat_eq rev (unwrap_or number 0) then (if is_full number count then Full503 else Set (unwrap_or number 0 + 1)) else Conflict409 (unwrap_or number 0)

-- what a set under a text answers
abbrev pub set_answer : List SideEntry → List ℕ → ℕ → List ℕ → SetAnswer
set_answer side text rev body =
    if nat_lt 4096 (length body) then TooLarge413 (length body) else answer_of (side_number side text) (length side) rev

-- where it is set, this holds of the number
abbrev pub IfSet : SetAnswer → (ℕ → Type 0) → Type 0
IfSet (Set rev) says = says rev
IfSet (Conflict409 current) says = Unit {0}
IfSet (TooLarge413 bytes) says = Unit {0}
IfSet Full503 says = Unit {0}
IfSet Memory says = Unit {0}

-- where it is not set, this holds
abbrev pub UnlessSet : SetAnswer → Type 0 → Type 0
UnlessSet (Set rev) holds = Unit {0}
UnlessSet (Conflict409 current) holds = holds
UnlessSet (TooLarge413 bytes) holds = holds
UnlessSet Full503 holds = holds
UnlessSet Memory holds = holds

-- a set of a body under a text, which names a number, answers as it must unless memory runs out; where it is set, the text has the
-- answered number and the body, and every other text has what it had; else all is as it was
pub record Sets (before : List SideEntry) (text : List ℕ) (rev : ℕ) (body : List ℕ) (result : SetAnswer) (after : List SideEntry) : Type 0 where
  pub answer : result ≢ Memory → result ≡ set_answer before text rev body
  pub put : IfSet result (λ number. IsPut before text (record { number = number; bytes = body }) after)
  pub same : UnlessSet result (after ≡ before)
