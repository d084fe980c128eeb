-- What is said of a configuration.
use Rattle.std.specs.Prelude.{◌≡◌, ℕ, ◌≤◌, ◌<◌, List, length, codes, Option, Some, None}
use Rattle.serde_json.specs.Data.{Data}
use Rattle.serde_json.specs.Find.{as_str, get}
use Rattle.sg_outside.specs.Files.{largest_file}
use Rattle.sg_history.specs.declared.config_fault.ConfigWhy.{ConfigWhy}
use Rattle.sg_history.specs.declared.config_fault.ConfigWhy.TheVariants as why
use Rattle.sync_syntax.specs.Statements.{parsed}
use Rattle.gateway_config.specs.Faults.{config_fault}
use Rattle.gateway_config.specs.Members.{config_json, read_or}
use Rattle.gateway_config.specs.Values.{default_sync}
use Rattle.config_check.specs.declared.function.FunctionFault.{FunctionFault}
use Rattle.config_check.specs.declared.verdict.Refusal.{Refusal}
use Rattle.config_check.specs.declared.verdict.Verdict.{Verdict}
use Rattle.config_check.specs.declared.verdict.Verdict.TheVariants.{Good, Long, Bad}
use Rattle.config_check.specs.Function.{IsRefusedAt}

-- the text of the sync function of a configuration
abbrev pub function_text : Data → List ℕ
function_text d = read_or as_str default_sync (get (codes "sync") d)

-- where the text of the sync function is refused and why, of a configuration with this first fault: that and no more where it is the text
abbrev pub IsPlaced : List ℕ → ConfigWhy → Option FunctionFault → Type 0
IsPlaced bytes why.Sync None = ⊥
IsPlaced bytes why.Sync (Some fault) = (d : Data) × (config_json bytes ≡ Some d) × IsRefusedAt (parsed (function_text d)) fault.place fault.why
IsPlaced bytes why.NotJson function = function ≡ None
IsPlaced bytes why.NotObject function = function ≡ None
IsPlaced bytes why.Missing function = function ≡ None
IsPlaced bytes why.Unknown function = function ≡ None
IsPlaced bytes why.Value function = function ≡ None
IsPlaced bytes why.Twice function = function ≡ None

-- the first fault of a configuration's bytes, and where it is
pub record IsRefusalOf (bytes : List ℕ) (r : Refusal) : Type 0 where
  pub first : config_fault bytes ≡ Some (record { path = r.path; why = r.why })
  pub placed : IsPlaced bytes r.why r.function

-- what is said of the bytes of a file: the gateway takes them, they are more than a file may have, or this is wrong with them
abbrev pub IsVerdict : List ℕ → Verdict → Type 0
IsVerdict bytes Good = (length bytes ≤ largest_file) × (config_fault bytes ≡ None)
IsVerdict bytes Long = largest_file < length bytes
IsVerdict bytes (Bad r) = (length bytes ≤ largest_file) × IsRefusalOf bytes r
