-- Where spells begin and where they end, counted up to a place.
use Rattle.std.specs.Prelude.{◌≡◌, ℕ, ◌+◌, Bool, List, cond, nat_le, nat_lt}
use Rattle.std.specs.List.{count_by}
use Rattle.grant_tracks.specs.declared.spells.Spell.{Spell}
use Rattle.grant_tracks.specs.Spells.{spell_has}

-- how many of these places are at most this one
abbrev pub up_to : List ℕ → ℕ → ℕ
up_to places k = count_by (λ p. nat_le p k) places

-- whether more have begun than have ended
abbrev pub open_at : List ℕ → List ℕ → ℕ → Bool
open_at begins ends k = nat_lt (up_to ends k) (up_to begins k)

-- one spell more is open where it has the place
abbrev pub AddsSpell : List ℕ → List ℕ → List ℕ → List ℕ → Spell → Type 0
AddsSpell begins ends new_begins new_ends s = (k : ℕ) → up_to new_begins k + up_to ends k ≡ up_to new_ends k + (up_to begins k + cond (spell_has k s) 1 0)
