-- What is kept of users and roles: for each, what it has or had, with its track.
use Rattle.std.specs.Prelude.{◌≡◌, ◌≤◌, ℕ, ◌+◌, ◌-◌, Bool, false, ◌&&◌, List, String, Option, Some, None, if◌then◌else◌}
use Rattle.std.specs.BTreeMap.{BTreeMap, get_by_text}
use Rattle.std.specs.Global.{Global}
use Rattle.std.specs.Str.{bytes_eq}
use Rattle.grant_tracks.specs.declared.things.What.{What}
use Rattle.grant_tracks.specs.What.{same_what}
pub use Rattle.grant_tracks.specs.HeldLists.{place_of, count_in, held_in, AreUpTo}
use Rattle.grant_tracks.specs.Things.{Things}

abbrev pub Holders : Type 0
Holders = BTreeMap (String Global) Things

abbrev pub count_by_list : Option Things → What → ℕ
count_by_list None w = 0
count_by_list (Some list) w = count_in list.items w

abbrev pub held_by_list : Option Things → What → ℕ → Bool
held_by_list None w k = false
held_by_list (Some list) w k = held_in list.items w k

-- how many sources give it to the holder of a name
abbrev pub count_of : Holders → List ℕ × What → ℕ
count_of holders x = count_by_list (get_by_text holders x.0) x.1

-- whether the holder of a name has it at a place
abbrev pub held_of : Holders → List ℕ × What → ℕ → Bool
held_of holders x k = held_by_list (get_by_text holders x.0) x.1 k

abbrev pub AreAllUpTo : Holders → ℕ → Type 0
AreAllUpTo holders n = (name : List ℕ) (list : Things) → get_by_text holders name ≡ Some list → AreUpTo list.items n × (list.since ≤ n) × (list.changed ≤ n)

-- the counts with one more
abbrev pub one_more : (What → ℕ) → What → What → ℕ
one_more count w x = if same_what w x then count x + 1 else count x

-- the counts with one less
abbrev pub one_less : (What → ℕ) → What → What → ℕ
one_less count w x = if same_what w x then count x - 1 else count x

-- the counts with one more, or one less, for the holder of a name
abbrev pub more_of : (List ℕ × What → ℕ) → List ℕ → What → List ℕ × What → ℕ
more_of count name w x = if bytes_eq name x.0 && same_what w x.1 then count x + 1 else count x

abbrev pub less_of : (List ℕ × What → ℕ) → List ℕ → What → List ℕ × What → ℕ
less_of count name w x = if bytes_eq name x.0 && same_what w x.1 then count x - 1 else count x
