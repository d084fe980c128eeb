-- Spells of one thing: from a place on, up to before another or without an end.
use Rattle.std.specs.Prelude.{◌≡◌, ◌<◌, ◌≤◌, ◌+◌, ℕ, Bool, true, false, ◌&&◌, ◌||◌, is_some, nat_le, nat_lt, List, [], ◌∷◌, Option, Some, None}
use Rattle.std.specs.List.{list_any}
use Rattle.grant_tracks.specs.declared.spells.Spell.{Spell}
use Rattle.grant_tracks.specs.declared.spells.Sweep.{Sweep}

-- whether an end is after a place
abbrev pub ends_after : Option ℕ → ℕ → Bool
ends_after None k = true
ends_after (Some to) k = nat_lt k to

-- whether a spell has a place
abbrev pub spell_has : ℕ → Spell → Bool
spell_has k s = nat_le s.from k && ends_after s.to k

-- whether one of these has a place
abbrev pub spells_have : List Spell → ℕ → Bool
spells_have list k = list_any (spell_has k) list

-- a spell ends before a place, or at it
abbrev pub EndsBefore : Option ℕ → ℕ → Type 0
EndsBefore end place = (to : ℕ) × (end ≡ Some to) × (to < place)

-- each begins, and ends, before a place
abbrev pub AllEndBefore : List Spell → ℕ → Type 0
AllEndBefore [] place = Unit {0}
AllEndBefore (s ∷ ss) place = EndsBefore s.to place × (s.from < place) × AllEndBefore ss place

-- a spell begins, and ends, before each of these begins
abbrev pub IsBeforeAll : Spell → List Spell → Type 0
IsBeforeAll s [] = Unit {0}
IsBeforeAll s (t ∷ ts) = EndsBefore s.to t.from × (s.from < t.from) × IsBeforeAll s ts

-- each has a place, and ends before the later ones begin: they neither touch nor overlap
abbrev pub AreApart : List Spell → Type 0
AreApart [] = Unit {0}
AreApart (s ∷ ss) = (ends_after s.to s.from ≡ true) × IsBeforeAll s ss × AreApart ss

-- a test does not change from a place on, up to before another
abbrev pub Stays : (ℕ → Bool) → ℕ → ℕ → Type 0
Stays test n k = (j : ℕ) → n ≤ j → j < k → test j ≡ test n

-- whether a spell that has begun has a place
abbrev pub open_has : Option ℕ → ℕ → Bool
open_has None k = false
open_has (Some from) k = nat_le from k

-- the spells of a test up to a place, the last one begun where it holds there
pub record Swept (sweep : Sweep) (test : ℕ → Bool) (n : ℕ) : Type 0 where
  pub says : (j : ℕ) → j ≤ n → (spells_have sweep.list.items j || open_has sweep.begun j) ≡ test j
  pub now : is_some sweep.begun ≡ test n
  pub ended : AllEndBefore sweep.list.items (n + 1)
  pub begun : (from : ℕ) → sweep.begun ≡ Some from → (from ≤ n) × AllEndBefore sweep.list.items from
  pub apart : AreApart sweep.list.items
