use Rattle.std.proofs.Common.{◌≡◌, ◌≤◌, ℕ, max}
use Rattle.grant_tracks.specs.Changed.{AreNamesSettled, names_changed}
use Rattle.grant_tracks.proofs.changed.changed_roles.Given as goal

-- the greatest so far, with those that are left, is that of all
abbrev pub invariant-loop-name : goal.invariant-loop-name
invariant-loop-name l = record {
  last : max l.last (names_changed l.roles l.name-iterator) ≡ names_changed l.roles l.names.entries;
  settled : (m : ℕ) → l.last ≤ m → AreNamesSettled l.roles l.name-iterator m → AreNamesSettled l.roles l.names.entries m;
}
