-- the words of `serve`
use Rattle.std.specs.Prelude.{◌≡◌, ℕ, List, Some, codes}
use Rattle.clap.specs.Words.{Row, first_of, matches_of}
use Rattle.command_line.specs.CommandLines.{serve_app}
use Rattle.command_line.specs.Matches.{TakesWords}

-- what the matches give: the path of a configuration
abbrev pub HasServeValue : List Row → List ℕ → Type 0
HasServeValue rows config = first_of (codes "config") rows ≡ Some config

-- the words of `serve` are taken, and ask for this configuration
abbrev pub IsServeWords : List (List ℕ) → List ℕ → Type 0
IsServeWords words config = TakesWords serve_app words × HasServeValue (matches_of serve_app words) config
