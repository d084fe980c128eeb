-- The files of a replay: what they hold, and what is first wrong with them.
use Rattle.std.specs.Prelude.{◌≡◌, ◌⊎◌, ◌≤◌, ◌<◌, ◌+◌, ℕ, zero, suc, List, [], ◌∷◌, ◌++◌, length, Option, Some, None}
use Rattle.sg_outside.specs.Files.{Load, largest_file}
use Rattle.sg_history.specs.declared.fault.Why.{Why}
use Rattle.sg_history.specs.declared.fault.Why.TheVariants as whys
use Rattle.gateway_config.specs.declared.config.Config.{Config}
use Rattle.gateway_config.specs.Faults.{Fault, config_fault}
use Rattle.gateway_config.specs.Values.{IsTextOf}
use Rattle.principals.specs.declared.admin_line.AdminLine.{AdminLine}
use Rattle.principals.specs.Script as script
use Rattle.principals.specs.Faults.{IsBadScript}
use Rattle.record_file.specs.declared.record.Recorded.{Recorded}
use Rattle.record_file.specs.Record as record_file
use Rattle.record_file.specs.Lines.{IsBadRecord}
use Rattle.command_line.specs.Run.{HasFile}
use Rattle.command_line.specs.declared.status.Status.{Status}
use Rattle.command_line.specs.Loads.{EndsLoads}
use Rattle.command_line.specs.ReplayWords.{ReplayWords}

-- ---- the files

-- the bytes of the files
pub record Contents : Type 0 where
  pub config : List ℕ
  pub admin : List ℕ
  pub sessions : List (List ℕ)

-- files that record what they hold have these bytes under these names, one after another
abbrev pub HaveFiles : Option (List ℕ → Option (List ℕ)) → List (List ℕ) → List (List ℕ) → Type 0
HaveFiles recorded [] [] = Unit {0}
HaveFiles recorded (name ∷ names) (bytes ∷ contents) = HasFile recorded name bytes × HaveFiles recorded names contents
HaveFiles recorded names contents = ⊥

-- the same of a replay's words
abbrev pub HaveContents : Option (List ℕ → Option (List ℕ)) → ReplayWords → Contents → Type 0
HaveContents recorded r contents =
    HasFile recorded r.config contents.config × HasFile recorded r.admin contents.admin × HaveFiles recorded r.sessions contents.sessions

-- a replay's files in the order of the words
abbrev pub paths_of : ReplayWords → List (List ℕ)
paths_of r = r.config ∷ r.admin ∷ r.sessions

-- ---- what they hold

-- what the files of a replay hold
pub record Inputs : Type 0 where
  pub config : Config
  pub lines : List AdminLine
  pub records : List Recorded

-- no more bytes than a file may have, which have no fault and say the configuration
abbrev pub IsConfigIn : List ℕ → Config → Type 0
IsConfigIn bytes config = (length bytes ≤ largest_file) × (config_fault bytes ≡ None) × IsTextOf bytes config

-- no more bytes than a file may have, which spell the lines
abbrev pub IsScriptIn : List ℕ → List AdminLine → Type 0
IsScriptIn bytes lines = (length bytes ≤ largest_file) × script.SpellsScript bytes lines

-- no more bytes than a file may have, which spell the recorded session
abbrev pub IsSessionIn : List ℕ → Recorded → Type 0
IsSessionIn bytes recorded = (length bytes ≤ largest_file) × record_file.SpellsRecord bytes recorded

abbrev pub AreSessionsIn : List (List ℕ) → List Recorded → Type 0
AreSessionsIn [] [] = Unit {0}
AreSessionsIn (bytes ∷ contents) (recorded ∷ records) = IsSessionIn bytes recorded × AreSessionsIn contents records
AreSessionsIn contents records = ⊥

pub record AreInputs (contents : Contents) (i : Inputs) : Type 0 where
  pub config : IsConfigIn contents.config i.config
  pub script : IsScriptIn contents.admin i.lines
  pub sessions : AreSessionsIn contents.sessions i.records

-- ---- what is wrong with them

-- the bytes are more than a file may have, at place 0, or else this is wrong with them
abbrev pub IsBadInputFile : List ℕ → Type 0 → ℕ → Why → Type 0
IsBadInputFile bytes IsBad place why = ((largest_file < length bytes) × (place ≡ 0) × (why ≡ whys.Long)) ⊎ ((length bytes ≤ largest_file) × IsBad)

-- the configuration's first bad member, at place 0
abbrev pub IsBadConfig : List ℕ → ℕ → Why → Type 0
IsBadConfig bytes place why =
    IsBadInputFile bytes ((fault : Fault) × (config_fault bytes ≡ Some fault) × (place ≡ 0) × (why ≡ whys.Config fault.path fault.why)) place why

-- the script's first bad line
abbrev pub IsBadAdmin : List ℕ → ℕ → Why → Type 0
IsBadAdmin bytes place why = IsBadInputFile bytes (IsBadScript bytes (record { place = place; why = why })) place why

-- the recorded session's first bad line
abbrev pub IsBadSession : List ℕ → ℕ → Why → Type 0
IsBadSession bytes place why = IsBadInputFile bytes (IsBadRecord bytes (record { place = place; why = why })) place why

-- the first bad one of recorded sessions, of which the first has this number among the files
abbrev pub IsBadSessionAmong : ℕ → List (List ℕ) → ℕ → ℕ → Why → Type 0
IsBadSessionAmong number [] file place why = ⊥
IsBadSessionAmong number (bytes ∷ contents) file place why =
    ((file ≡ number) × IsBadSession bytes place why)
    ⊎ (((recorded : Recorded) × IsSessionIn bytes recorded) × IsBadSessionAmong (number + 1) contents file place why)

-- The first bad file, by its number among the command's words, counted from 1: the configuration, or else the script, or else a recorded
-- session; with the place and what is wrong there.
abbrev pub IsFirstBadFile : Contents → ℕ → ℕ → Why → Type 0
IsFirstBadFile contents file place why =
    ((file ≡ 1) × IsBadConfig contents.config place why)
    ⊎ (((config : Config) × IsConfigIn contents.config config)
    × (((file ≡ 2) × IsBadAdmin contents.admin place why)
    ⊎ (((lines : List AdminLine) × IsScriptIn contents.admin lines) × IsBadSessionAmong 3 contents.sessions file place why)))

-- ---- each of them by its number

-- the file with this number among the words is a configuration, a script, or else a recorded session
abbrev pub IsGoodFile : ℕ → List ℕ → Type 0
IsGoodFile zero bytes = ⊥
IsGoodFile (suc zero) bytes = (config : Config) × IsConfigIn bytes config
IsGoodFile (suc (suc zero)) bytes = (lines : List AdminLine) × IsScriptIn bytes lines
IsGoodFile (suc (suc (suc n))) bytes = (recorded : Recorded) × IsSessionIn bytes recorded

-- and this is first wrong with it, at this place
abbrev pub IsBadFileAt : ℕ → List ℕ → ℕ → Why → Type 0
IsBadFileAt zero bytes place why = ⊥
IsBadFileAt (suc zero) bytes place why = IsBadConfig bytes place why
IsBadFileAt (suc (suc zero)) bytes place why = IsBadAdmin bytes place why
IsBadFileAt (suc (suc (suc n))) bytes place why = IsBadSession bytes place why

-- what a run loaded of a replay's files, and how it ended by them
abbrev pub LoadsInputs : Option (List ℕ → Option (List ℕ)) → ReplayWords → List Load → List Load → Status → Type 0
LoadsInputs recorded r before after s =
    (done : List Load) × (after ≡ before ++ done) × EndsLoads recorded IsGoodFile IsBadFileAt 1 (paths_of r) done s
