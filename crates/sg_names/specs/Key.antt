-- keys of rows, their order and their texts
use Rattle.std.specs.Prelude.{◌≡◌, Bool, ◌&&◌, ◌||◌, nat_eq, nat_le, nat_lt, if◌then◌else◌, ℕ, List, ◌∷◌, ◌++◌, decimal, IsTrue, ◌⊎◌}
use Rattle.std.specs.Ordering.{nat_cmp, ordering_then}
use Rattle.std.specs.declared.cmp.Ordering.{Ordering}
use Rattle.sg_names.specs.Decimal.{is_decimal, is_empty}
use Rattle.sg_names.specs.declared.key.Key.{Key}

-- by the first number, then by the second
abbrev pub key_cmp : Key → Key → Ordering
key_cmp a b = ordering_then (nat_cmp a.by b.by) (nat_cmp a.seq b.seq)

-- a key in the grammar: the first number is at least the second, which is at least 1 unless both are 0
abbrev pub is_key : Key → Bool
is_key k = nat_le k.seq k.by && (nat_le 1 k.seq || nat_eq k.by 0) && nat_lt k.by 18446744073709551616

-- the text `T:S` of both numbers
abbrev pub pair_text : Key → List ℕ
pair_text k = decimal k.by ++ 58 ∷ decimal k.seq

-- the text as it is written: `S` where both numbers are equal, else `T:S`
abbrev pub key_text : Key → List ℕ
key_text k = if nat_eq k.by k.seq then decimal k.seq else pair_text k

-- the text is read as the key: it is the key's written text, or `T:S` with S at least 1
abbrev pub ReadsKey : List ℕ → Key → Type 0
ReadsKey text k = IsTrue (is_key k) × ((text ≡ key_text k) ⊎ (IsTrue (nat_le 1 k.seq) × (text ≡ pair_text k)))

-- decimals of any length, of which the middle one may be absent
abbrev pub are_low_parts : List ℕ → List ℕ → List ℕ → Bool
are_low_parts low by seq = is_decimal low && (is_empty by || is_decimal by) && is_decimal seq

-- the text is `L::S` or `L:T:S`, of decimals of any length
pub record IsLowForm (text : List ℕ) : Type 0 where
  pub low : List ℕ
  pub by : List ℕ
  pub seq : List ℕ
  pub decimals : IsTrue (are_low_parts low by seq)
  pub spelled : text ≡ low ++ 58 ∷ by ++ 58 ∷ seq

-- the text is read as no key, and is no low form
abbrev pub IsBadKey : List ℕ → Type 0
IsBadKey text = ((k : Key) → ¬ (ReadsKey text k)) × ¬ (IsLowForm text)
