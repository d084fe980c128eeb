-- How new states are kept entry by entry. Only proofs need it.
use Rattle.std.specs.Prelude.{◌≡◌, ◌<◌, ◌≤◌, ◌+◌, ℕ, List, length, Option, None}
use Rattle.std.specs.BTreeMap.{is_at}
use Rattle.std.specs.Map.{lookup}
use Rattle.std.specs.Ordering.{nat_cmp}
use Rattle.grant_history.specs.declared.states.NewState.{NewState}
use Rattle.grant_history.specs.NewStates.{KeptStates, marked_in, written_in}

-- nothing is kept by a place at the end of the winners, or past it
abbrev pub HasNoneAbove : KeptStates → Type 0
HasNoneAbove kept =
    (i : ℕ) → length kept.winners ≤ i → (lookup (is_at (nat_cmp i)) kept.marks ≡ None) × (lookup (is_at (nat_cmp i)) kept.lists ≡ None)

-- what is kept has the state that one entry more writes, if it writes one, and those of the documents that it marks
pub record IsOneMore (old new : KeptStates) (state : Option NewState) (list : List NewState) : Type 0 where
  pub above : HasNoneAbove new
  pub count : length new.winners ≡ length old.winners + 1
  pub written : written_in new (length old.winners) ≡ state
  pub marked : marked_in new (length old.winners) ≡ list
  pub written_before : (i : ℕ) → i < length old.winners → written_in new i ≡ written_in old i
  pub marked_before : (i : ℕ) → i < length old.winners → marked_in new i ≡ marked_in old i
