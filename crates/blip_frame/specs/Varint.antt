-- Varints: a number as bytes of seven bits each, the lowest first, with the high bit set in all but the last.
use Rattle.std.specs.Prelude.{◌≡◌, ℕ, zero, suc, ◌+◌, ◌-◌, ◌*◌, ◌/◌, ◌%◌, ◌^◌, ◌<◌, ◌≤◌, List, [], ◌∷◌, ◌++◌, length, All, Result, Ok, Err, nat_lt, if◌then◌else◌}
use Rattle.blip_frame.specs.declared.varint.VarintFault.{VarintFault}
use Rattle.blip_frame.specs.declared.varint.VarintFault.TheVariants.{Short, BadVarint}

-- The bytes are a varint of the number. A byte below 128 is the last, and stands for itself; one from 128 on has the seven lowest bits, and the bytes after it stand for the rest.
abbrev pub IsVarint : List ℕ → ℕ → Type 0
IsVarint [] n = ⊥
IsVarint (b ∷ []) n = (b < 128) × (n ≡ b)
IsVarint (b ∷ c ∷ bs) n = (128 ≤ b) × (b < 256) × (high : ℕ) × (n + 128 ≡ b + 128 * high) × IsVarint (c ∷ bs) high

-- the most bytes of a varint that is read
abbrev pub most_bytes : ℕ
most_bytes = 10

-- a varint that is read, of the shortest form or a longer one
pub record IsRead (bytes : List ℕ) (n : ℕ) : Type 0 where
  pub varint : IsVarint bytes n
  pub size : length bytes ≤ most_bytes
  pub below : n < 2 ^ 64

-- a varint of which no other form has fewer bytes
pub record IsShortest (bytes : List ℕ) (n : ℕ) : Type 0 where
  pub varint : IsVarint bytes n
  pub least : (other : List ℕ) → IsVarint other n → length bytes ≤ length other

-- the bytes end before the varint does, and more of them could end it
abbrev pub EndsInside : List ℕ → Type 0
EndsInside bytes = All (λ b. 128 ≤ b) bytes × (length bytes < most_bytes)

-- ---- reading, from the front

-- the seven lowest bits, before a number that was read from the bytes after them
abbrev pub with_low : ℕ → Result (ℕ × List ℕ) VarintFault → Result (ℕ × List ℕ) VarintFault
with_low low (Ok high) = Ok (low + 128 * high.0, high.1)
with_low low (Err fault) = Err fault

-- the number at the front, where it has at most so many bytes, and the bytes after it
unfoldable pub varint_at : ℕ → List ℕ → Result (ℕ × List ℕ) VarintFault
varint_at zero bytes = Err BadVarint
varint_at (suc k) [] = Err Short
varint_at (suc k) (b ∷ bs) = if nat_lt b 128 then Ok (b, bs) else with_low (b - 128) (varint_at k bs)

-- a number that fits 64 bits
abbrev pub fitting : Result (ℕ × List ℕ) VarintFault → Result (ℕ × List ℕ) VarintFault
fitting (Ok found) = if nat_lt found.0 (2 ^ 64) then Ok found else Err BadVarint
fitting (Err fault) = Err fault

-- the number at the front and the bytes after it, or the first fault
unfoldable pub number_at : List ℕ → Result (ℕ × List ℕ) VarintFault
number_at bytes = fitting (varint_at most_bytes bytes)

-- ---- writing

-- the shortest varint of a number, of at most so many bytes and one
unfoldable pub varint_within : ℕ → ℕ → List ℕ
varint_within zero n = n ∷ []
varint_within (suc k) n = if nat_lt n 128 then n ∷ [] else (n % 128 + 128) ∷ varint_within k (n / 128)

-- the shortest varint of a number below 2 ^ 64
unfoldable pub varint : ℕ → List ℕ
varint n = varint_within 9 n

-- bytes were put at the end
abbrev pub AddsSome : List ℕ → List ℕ → Type 0
AddsSome old new = (part : List ℕ) × (new ≡ old ++ part)
