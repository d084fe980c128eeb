-- Places at which a test of places may change.
use Rattle.std.specs.Prelude.{◌≡◌, ◌≤◌, ◌<◌, ◌+◌, ℕ, Bool, false, List, length, nat_eq}
use Rattle.std.specs.List.{list_any, slice_index_or}

-- whether a place is among these
abbrev pub is_cut : List ℕ → ℕ → Bool
is_cut cuts k = list_any (nat_eq k) cuts

-- at each place that is not among these a test is as it was at the place before
abbrev pub IsSteady : List ℕ → (ℕ → Bool) → Type 0
IsSteady cuts test = (k : ℕ) → is_cut cuts (k + 1) ≡ false → test (k + 1) ≡ test k

-- all of the old ones are there, and those at which a test may change
pub record Covers (old new : List ℕ) (test : ℕ → Bool) : Type 0 where
  pub kept : (k : ℕ) → is_cut new k ≡ false → is_cut old k ≡ false
  pub steady : IsSteady new test

-- each is at most the next
abbrev pub Rise : List ℕ → Type 0
Rise cuts = (i j : ℕ) (d : ℕ) → i ≤ j → j < length cuts → slice_index_or cuts i d ≤ slice_index_or cuts j d
