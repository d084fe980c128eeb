-- the words of `replay`
use Rattle.std.specs.Prelude.{◌≡◌, ◌≤◌, ℕ, List, Some, codes, length}
use Rattle.clap.specs.Words.{Row, all_of, first_of, matches_of}
use Rattle.command_line.specs.CommandLines.{replay_app}
use Rattle.command_line.specs.Matches.{TakesWords}

-- the paths of a configuration, a script and recorded sessions
pub record ReplayWords : Type 0 where
  pub config : List ℕ
  pub admin : List ℕ
  pub sessions : List (List ℕ)

-- what the matches give: each path, and at most 1,000 recorded sessions
pub record HasReplayValues (rows : List Row) (r : ReplayWords) : Type 0 where
  pub config : first_of (codes "config") rows ≡ Some r.config
  pub admin : first_of (codes "admin") rows ≡ Some r.admin
  pub sessions : all_of (codes "files") rows ≡ Some r.sessions
  pub few : length r.sessions ≤ 1000

-- the words of `replay` are taken, and ask for this
abbrev pub IsReplayWords : List (List ℕ) → ReplayWords → Type 0
IsReplayWords words r = TakesWords replay_app words × HasReplayValues (matches_of replay_app words) r
