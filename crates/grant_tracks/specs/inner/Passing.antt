-- Tests of what is held at a place. Only proofs need this.
use Rattle.std.specs.Prelude.{ℕ, Bool, false, ◌&&◌, nat_eq, nat_lt, List, Option, Some, None, slice_get}
use Rattle.std.specs.List.{list_any}
use Rattle.grant_tracks.specs.declared.held.Held.{Held}
use Rattle.grant_tracks.specs.Tracks.{held_at}

-- whether something is held at a place and passes a test
abbrev pub passes : ℕ → (Held → Bool) → Option Held → Bool
passes k test None = false
passes k test (Some h) = held_at h.track k && test h

-- whether what stands at a place of a list does
abbrev pub passes_at : List Held → ℕ → (Held → Bool) → ℕ → Bool
passes_at list k test i = passes k test (slice_get list i)

-- whether there is something that passes a test
abbrev pub fits : (Held → Bool) → Option Held → Bool
fits test None = false
fits test (Some h) = test h

-- whether a source gives something
abbrev pub is_given : Option Held → Bool
is_given None = false
is_given (Some h) = nat_lt 0 h.track.count

-- whether a source gives what stands at a place of a list
abbrev pub is_given_at : List Held → ℕ → Bool
is_given_at list i = is_given (slice_get list i)

-- whether a number is among these, and what stands there is given
abbrev pub given_in : List Held → List ℕ → ℕ → Bool
given_in all list x = list_any (λ i. nat_eq x i && is_given_at all i) list
