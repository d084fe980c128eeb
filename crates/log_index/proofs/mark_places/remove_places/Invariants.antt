use Rattle.std.proofs.Common.{◌≡◌, ◌&&◌, ℕ, None, drop, nat_eq, if◌then◌else◌}
use Rattle.log_index.specs.Representation.{has_seq, place_at}
use Rattle.log_index.proofs.mark_places.remove_places.Given as goal

-- what is left to take away leaves what is to be left of all
abbrev pub invariant-loop-first : goal.invariant-loop-first
invariant-loop-first l = (f s : ℕ)
    → (if nat_eq l.sync s && has_seq (drop l.first-index l.firsts) f then None else place_at l.places f s)
    ≡ (if nat_eq l.sync s && has_seq l.firsts f then None else place_at l.fn.places f s)
