-- Spans of places.
use Rattle.std.specs.Prelude.{ℕ, Bool, ◌&&◌, nat_le, nat_lt, List, [], ◌∷◌, ◌++◌, if◌then◌else◌}
use Rattle.grant_tracks.specs.declared.track.Span.{Span}

-- whether a span has a place
abbrev pub has_place : ℕ → Span → Bool
has_place k s = nat_le s.from k && nat_lt k s.to

-- spans with one more behind them, where that has a place
abbrev pub closed_with : List Span → ℕ → ℕ → List Span
closed_with closed from to = if nat_lt from to then closed ++ (record { from = from; to = to }) ∷ [] else closed
