-- What is kept for looks at feeds, and when it is that of a log.
use Rattle.std.specs.Prelude.{ℕ, ◌≤◌, List, length, map, String, string_bytes}
use Rattle.std.specs.Global.{Global}
use Rattle.std.specs.List.{All}
use Rattle.sg_history.specs.declared.entries.Entry.{Entry}
use Rattle.grant_history.specs.declared.history.GrantHistory.{GrantHistory}
use Rattle.grant_history.specs.declared.periods.Period.{Period}
use Rattle.grant_history.specs.Periods.{AreInOrder, ArePeriods}
use Rattle.grant_history.specs.Stands as grants
use Rattle.channel_cache.specs.Kept.{KeptLists}
use Rattle.channel_cache.specs.Stands as lists
use Rattle.changes_feed.specs.Switches.{has_at}
use Rattle.changes_feed.specs.declared.periods.TakenPeriods.{TakenPeriods}

-- the periods of a user's channels, as they were taken up to a place
pub record UserPeriods : Type 0 where
  pub user : List ℕ
  pub place : ℕ
  pub periods : List Period

-- the lists of channels, a history of grants, and the periods of the users that looked last
pub record FeedsKept : Type 0 where
  pub lists : KeptLists
  pub history : GrantHistory
  pub periods : List UserPeriods

-- the periods are those of the user's channels in a log up to their place
pub record ArePeriodsOf (entries : List Entry) (kept : UserPeriods) : Type 0 where
  pub within : kept.place ≤ length entries
  pub periods : ArePeriods kept.periods (has_at entries kept.user) kept.place
  pub in_order : AreInOrder kept.periods

-- all of it is that of a log
pub record FeedsStandFor (kept : FeedsKept) (entries : List Entry) : Type 0 where
  pub lists : lists.StandsFor kept.lists entries
  pub history : grants.StandsFor kept.history entries
  pub periods : All (ArePeriodsOf entries) kept.periods

-- what the code keeps of a user
abbrev pub of_user : List ℕ → TakenPeriods → UserPeriods
of_user user taken = record { user = user; place = taken.place; periods = taken.periods }

-- what it keeps of users
abbrev pub of_users : List (String Global × TakenPeriods) → List UserPeriods
of_users kept = map (λ e. of_user (string_bytes e.0) e.1) kept
