use Rattle.std.proofs.Common.{◌≡◌, ◌≤◌, ◌+◌, ℕ, drop, false}
use Rattle.grant_tracks.specs.inner.Cuts.{is_cut}
use Rattle.grant_tracks.specs.Spells.{Swept}
use Rattle.grant_tracks.specs.Ways.{ways_have}
use Rattle.grant_tracks.proofs.sweeps.spells_by.Given as goal

-- the spells are right up to here, and what is left has each later place at which they may change
abbrev pub invariant-loop-k : goal.invariant-loop-k
invariant-loop-k l = record {
  swept : Swept l.sweep (ways_have l.ways) l.at;
  rest : (j : ℕ) → l.at ≤ j → is_cut (drop l.k-index l.cuts) (j + 1) ≡ false → ways_have l.ways (j + 1) ≡ ways_have l.ways j;
}
