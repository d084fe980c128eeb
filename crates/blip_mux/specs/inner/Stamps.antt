-- The stamps of the messages that may send.
use Rattle.std.specs.Prelude.{◌≡◌, ◌<◌, ℕ, Bool, true, false, not, List, cond, ◌==◌}
use Rattle.std.specs.List.{sum_by}
use Rattle.std.specs.declared.cmp.Reverse.{Reverse}

-- how many times a stamp is among these
abbrev pub times : ℕ → List (Reverse ℕ) → ℕ
times q stamps = sum_by (λ x. cond (x.0 == q) 1 0) stamps

-- this stamp is among these, and none below it
abbrev pub IsLowest : ℕ → List (Reverse ℕ) → Type 0
IsLowest stamp stamps = (0 < times stamp stamps) × ((q : ℕ) → q < stamp → times q stamps ≡ 0)

-- whether two marks are the same
abbrev pub same_flag : Bool → Bool → Bool
same_flag true b = b
same_flag false b = not b
