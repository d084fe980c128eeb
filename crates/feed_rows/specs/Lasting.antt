-- Whether a user has a channel at a place, by the periods of the user's channels, and what lasts up to a place.
use Rattle.std.specs.Prelude.{◌≡◌, ◌≤◌, ℕ, Bool, true, false, nat_le, List}
use Rattle.std.specs.Ordering.{nat_cmp}
use Rattle.std.specs.declared.cmp.Ordering.{Ordering}
use Rattle.std.specs.declared.cmp.Ordering.TheVariants.{Less, Equal, Greater}
use Rattle.std.specs.Cmp.Lexicographic.{slice_cmp}
use Rattle.grant_history.specs.declared.periods.Period.{Period}
use Rattle.grant_history.specs.Periods.{AreInOrder, ArePeriodsApart, HavePlaces}
use Rattle.feed_rows.specs.declared.lasting.Lasting.{Lasting}

-- by the order of its channel and another one, whether a period is of an earlier channel, or is of it and begins at a place or before
abbrev pub begun_by : Ordering → ℕ → ℕ → Bool
begun_by Less from k = true
begun_by Equal from k = nat_le from k
begun_by Greater from k = false

abbrev pub is_begun : List ℕ → ℕ → Period → Bool
is_begun c k p = begun_by (slice_cmp nat_cmp p.channel c) p.from k

-- periods that can be searched by halves: they rise, each has a place, and those of a channel are apart
pub record AreToSearch (periods : List Period) : Type 0 where
  pub in_order : AreInOrder periods
  pub have_places : HavePlaces periods
  pub apart : ArePeriodsApart periods

-- the answer of a test at a place, which it gives at each place since the one that is named
pub record Lasts (test : ℕ → Bool) (k : ℕ) (lasting : Lasting) : Type 0 where
  pub now : lasting.holds ≡ test k
  pub past : lasting.since ≤ k
  pub same : (j : ℕ) → lasting.since ≤ j → j ≤ k → test j ≡ test k
