-- How many sources give one thing, and the spans of places in which any does or did.
use Rattle.std.specs.Prelude.{◌≡◌, ◌<◌, ◌≤◌, ◌+◌, ℕ, [], length, slice_index_or, Bool, ◌&&◌, ◌||◌, nat_le, nat_lt}
use Rattle.std.specs.List.{list_any}
use Rattle.grant_tracks.specs.declared.track.Span.{Span}
pub use Rattle.grant_tracks.specs.Spans.{has_place, closed_with}
use Rattle.grant_tracks.specs.declared.track.Track.{Track}

-- whether a span before the last has a place
abbrev pub was_held : Track → ℕ → Bool
was_held t k = list_any (has_place k) t.closed.items

-- whether the last span has a place: it goes on while there is a source
abbrev pub held_last : Track → ℕ → Bool
held_last t k = nat_le t.opened k && (nat_lt 0 t.count || nat_lt k t.until)

-- whether any source gives it at a place
abbrev pub held_at : Track → ℕ → Bool
held_at t k = was_held t k || held_last t k

-- each span began at this place or before it, and where it has ended it ended so
pub record IsTrack (t : Track) (n : ℕ) : Type 0 where
  pub ended : (i : ℕ) (d : Span) → i < length t.closed.items → (slice_index_or t.closed.items i d).to ≤ n
  pub opened : t.opened ≤ n
  pub until : t.count ≡ 0 → t.until ≤ n

-- a step at a place leaves this count, and what was held before that place as it was
pub record Moves (old new : Track) (at sources : ℕ) : Type 0 where
  pub count : new.count ≡ sources
  pub before : (k : ℕ) → k < at → held_at new k ≡ held_at old k
  pub up_to : (n : ℕ) → n ≤ at → IsTrack old n → IsTrack new at

-- a track of what no source gives or gave
pub record IsFresh (t : Track) : Type 0 where
  pub none : t.count ≡ 0
  pub opened : t.opened ≡ 0
  pub until : t.until ≡ 0
  pub empty : t.closed.items ≡ []

-- a track of what was never given before, of which one source gives it from a place on
pub record BeginsAt (t : Track) (at : ℕ) : Type 0 where
  pub fresh : Track
  pub is_fresh : IsFresh fresh
  pub moves : Moves fresh t at (fresh.count + 1)
