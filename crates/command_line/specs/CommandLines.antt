-- the command lines, as commands whose matches are a function of the words
use Rattle.std.specs.Prelude.{ℕ, List, Some, true, codes}
use Rattle.clap.specs.Lexer.{usize_max}
use Rattle.clap.specs.Walk.{Rule}
use Rattle.clap.specs.Simple.{App, new_app, new_rule, on_top, with_rule}
use Rattle.clap.specs.declared.builder.action.ArgAction.TheVariants.{SetTrue}

-- a word that is needed
abbrev pub needed : List ℕ → Rule
needed id = record (new_rule id) { required = true }

-- a flag, `--NAME`, whose value is `true` where it stands and else `false`
abbrev pub flag : List ℕ → Rule
flag name = record (new_rule name) { long = Some name; action = Some SetTrue }

-- an option with one value, `--NAME VALUE` or `--NAME=VALUE`
abbrev pub option : List ℕ → Rule
option name = record (new_rule name) { long = Some name }

-- one word or more
abbrev pub several : List ℕ → Rule
several id = record (new_rule id) { required = true; range = Some (record { start_inclusive = 1; end_inclusive = usize_max }) }

-- a command that answers to no request for help or a version
abbrev pub plain_app : List ℕ → App
plain_app name = on_top (λ s. record s { disable_help_flag = true; disable_version_flag = true }) (new_app name)

-- feed [--active-only] [--no-revocations] [--channels LIST] JOURNAL USER SINCE
unfoldable pub feed_app : App
feed_app =
    with_rule (with_rule (with_rule (with_rule (with_rule (with_rule (plain_app (codes "feed"))
    (flag (codes "active-only"))) (flag (codes "no-revocations"))) (option (codes "channels")))
    (needed (codes "journal"))) (needed (codes "user"))) (needed (codes "since"))

-- replay CONFIG ADMIN FILE..
unfoldable pub replay_app : App
replay_app =
    with_rule (with_rule (with_rule (plain_app (codes "replay")) (needed (codes "config"))) (needed (codes "admin")))
    (several (codes "files"))

-- serve CONFIG
unfoldable pub serve_app : App
serve_app = with_rule (plain_app (codes "serve")) (needed (codes "config"))
