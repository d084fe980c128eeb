-- how what was read of a replay's files makes the whole
use Rattle.std.proofs.Common.{◌≡◌, ◌≤◌, ◌<◌, ◌+◌, ℕ, zero, suc, List, [], ◌∷◌, ◌++◌, Option, None, Some, Err, length, take, get_or, refl, sym, ap, ◌∙◌, subst, arith, inl, inr}
use Rattle.std.proofs.lemmas.Option.{none-some}
use Rattle.sg_outside.specs.Files.{largest_file}
use Rattle.sg_history.specs.BadLine.{NamesLine}
use Rattle.sg_history.specs.Refusal.{RefusesLog}
use Rattle.sg_history.specs.declared.fault.ReadLog.{ReadLog}
use Rattle.sg_history.specs.declared.fault.ReadLog.TheVariants as read
use Rattle.sg_history.specs.declared.fault.Why.{Why}
use Rattle.sg_history.specs.declared.fault.Why.TheVariants as whys
use Rattle.gateway_config.specs.declared.config.Config.{Config}
use Rattle.gateway_config.specs.declared.fault.ConfigFault.{ConfigFault}
use Rattle.gateway_config.specs.declared.fault.ConfigFault.TheVariants as config
use Rattle.gateway_config.specs.Faults.{Fault, NamesFault, config_fault}
use Rattle.gateway_config.specs.Values.{IsTextOf}
use Rattle.principals.specs.declared.admin_line.AdminLine.{AdminLine}
use Rattle.principals.specs.Script as script
use Rattle.principals.specs.Faults.{IsBadScript}
use Rattle.record_file.specs.declared.record.Recorded.{Recorded}
use Rattle.record_file.specs.Record as record_file
use Rattle.record_file.specs.Lines.{IsBadRecord}
use Rattle.command_line.specs.declared.status.Status.{Status}
use Rattle.command_line.specs.declared.status.Status.TheVariants as status
use Rattle.replay_command.specs.Inputs.{AreSessionsIn, Contents, HaveFiles, IsBadAdmin, IsBadSessionAmong, IsBadConfig, IsBadSession, IsConfigIn, IsScriptIn, IsSessionIn}
use Rattle.replay_command.specs.Loading.{AreInputsRead, AreSessionsRead, IsConfigRead, IsRead, IsRefused, IsScriptRead, IsSessionRead, config_status}
use Rattle.command_line.specs.Run.{HasFile, IsLoaded}

-- ---- one file

-- a file that was not loaded was not read: where it is too long, that is what is wrong with it
not_loaded_read : {X Y : Type 0} (view : X → Y) (Is : Y → Type 0) (IsBad : ℕ → ℕ → Why → Type 0) (number : ℕ) (bytes : List ℕ) (s : Status) → (largest_file < length bytes → IsBad number 0 whys.Long × ((y : Y) → ¬ Is y)) → IsLoaded number bytes (Err s) → IsRead view Is IsBad (Err s)
not_loaded_read view Is IsBad number bytes status.Ok long loaded = absurd loaded
not_loaded_read view Is IsBad number bytes status.BadWords long loaded = absurd loaded
not_loaded_read view Is IsBad number bytes (status.BadInput file place why) long loaded = (
  subst (λ (f : ℕ). IsBad f place why) (sym loaded.0)
      (subst (λ (p : ℕ). IsBad number p why) (sym loaded.2)
      (subst (λ (w : Why). IsBad number 0 w) (sym loaded.3) (long loaded.1).0)),
  (long loaded.1).1,
)
not_loaded_read view Is IsBad number bytes status.ReadFault long loaded = tt
not_loaded_read view Is IsBad number bytes status.WriteFault long loaded = absurd loaded
not_loaded_read view Is IsBad number bytes status.DoorFault long loaded = absurd loaded
not_loaded_read view Is IsBad number bytes status.Memory long loaded = tt

long_config : (bytes : List ℕ) → largest_file < length bytes → (◌≡◌ {A = ℕ} 1 1 × IsBadConfig bytes 0 whys.Long) × ((c : Config) → ¬ IsConfigIn bytes c)
long_config bytes more = ((refl, inl (more, refl, refl)), λ c is. omega (arith, more, is.0))

long_script : (bytes : List ℕ) → largest_file < length bytes → (◌≡◌ {A = ℕ} 2 2 × IsBadAdmin bytes 0 whys.Long) × ((ls : List AdminLine) → ¬ IsScriptIn bytes ls)
long_script bytes more = ((refl, inl (more, refl, refl)), λ c is. omega (arith, more, is.0))

long_session : (number : ℕ) (bytes : List ℕ) → largest_file < length bytes → ((number ≡ number) × IsBadSession bytes 0 whys.Long) × ((r : Recorded) → ¬ IsSessionIn bytes r)
long_session number bytes more = ((refl, inl (more, refl, refl)), λ c is. omega (arith, more, is.0))

pub config_not_loaded : (bytes : List ℕ) (s : Status) → IsLoaded 1 bytes (Err s) → IsConfigRead bytes (Err s)
config_not_loaded bytes s loaded = not_loaded_read (λ (c : Config). c) (IsConfigIn bytes) (λ file place why. (file ≡ 1) × IsBadConfig bytes place why) 1 bytes s (long_config bytes) loaded

pub script_not_loaded : (bytes : List ℕ) (s : Status) → IsLoaded 2 bytes (Err s) → IsScriptRead bytes (Err s)
script_not_loaded bytes s loaded = not_loaded_read (λ (ls : List AdminLine). ls) (IsScriptIn bytes) (λ file place why. (file ≡ 2) × IsBadAdmin bytes place why) 2 bytes s (long_script bytes) loaded

pub session_not_loaded : (number : ℕ) (bytes : List ℕ) (s : Status) → IsLoaded number bytes (Err s) → IsSessionRead number bytes (Err s)
session_not_loaded number bytes s loaded = not_loaded_read (λ (r : Recorded). r) (IsSessionIn bytes) (λ file place why. (file ≡ number) × IsBadSession bytes place why) number bytes s (long_session number bytes) loaded

-- what was read of the bytes that were loaded is so of the bytes that the files record
pub is_config : (bytes loaded : List ℕ) (c : Config) → loaded ≡ bytes → length bytes ≤ largest_file → (config_fault loaded ≡ None) × IsTextOf loaded c → IsConfigIn bytes c
is_config bytes loaded c same fits is = (
  fits,
  subst (λ (b : List ℕ). config_fault b ≡ None) same is.0,
  subst (λ (b : List ℕ). IsTextOf b c) same is.1,
)

pub is_script : (bytes loaded : List ℕ) (ls : List AdminLine) → loaded ≡ bytes → length bytes ≤ largest_file → script.SpellsScript loaded ls → IsScriptIn bytes ls
is_script bytes loaded ls same fits is = (fits, subst (λ (b : List ℕ). script.SpellsScript b ls) same is)

pub is_session : (bytes loaded : List ℕ) (r : Recorded) → loaded ≡ bytes → length bytes ≤ largest_file → record_file.SpellsRecord loaded r → IsSessionIn bytes r
is_session bytes loaded r same fits is = (fits, subst (λ (b : List ℕ). record_file.SpellsRecord b r) same is)

-- bytes with a fault are no configuration
no_config : (bytes loaded : List ℕ) (fault : Fault) → loaded ≡ bytes → length bytes ≤ largest_file → config_fault loaded ≡ Some fault → IsBadConfig bytes 0 (whys.Config fault.path fault.why) × ((c : Config) → ¬ IsConfigIn bytes c)
no_config bytes loaded fault same fits found =
    let here : config_fault bytes ≡ Some fault = subst (λ (b : List ℕ). config_fault b ≡ Some fault) same found in
    (inr (fits, (fault, here, refl, refl)), λ c is. none-some fault (sym is.1 ∙ here))

pub refused_config : (bytes loaded : List ℕ) (fault : ConfigFault) (s : Status) → loaded ≡ bytes → length bytes ≤ largest_file → s ≡ config_status fault → NamesFault (config_fault loaded) fault → IsConfigRead bytes (Err s)
refused_config bytes loaded (config.Bad path why) s same fits is named =
    let no = no_config bytes loaded (record { path = path; why = why }) same fits named in
    subst (λ (t : Status). IsConfigRead bytes (Err t)) (sym is) ((refl, no.0), no.1)
refused_config bytes loaded config.Memory s same fits is named = subst (λ (t : Status). IsConfigRead bytes (Err t)) (sym is) tt

no_script : (bytes loaded : List ℕ) (place : ℕ) (why : Why) → loaded ≡ bytes → length bytes ≤ largest_file → IsBadScript loaded (record { place = place; why = why }) → ((ls : List AdminLine) → ¬ script.SpellsScript loaded ls) → IsBadAdmin bytes place why × ((ls : List AdminLine) → ¬ IsScriptIn bytes ls)
no_script bytes loaded place why same fits bad none = (
  inr (fits, subst (λ (b : List ℕ). IsBadScript b (record { place = place; why = why })) same bad),
  λ ls is. none ls (subst (λ (b : List ℕ). script.SpellsScript b ls) (sym same) is.1),
)

no_session : (bytes loaded : List ℕ) (place : ℕ) (why : Why) → loaded ≡ bytes → length bytes ≤ largest_file → IsBadRecord loaded (record { place = place; why = why }) → ((r : Recorded) → ¬ record_file.SpellsRecord loaded r) → IsBadSession bytes place why × ((r : Recorded) → ¬ IsSessionIn bytes r)
no_session bytes loaded place why same fits bad none = (
  inr (fits, subst (λ (b : List ℕ). IsBadRecord b (record { place = place; why = why })) same bad),
  λ r is. none r (subst (λ (b : List ℕ). record_file.SpellsRecord b r) (sym same) is.1),
)

-- a file that was refused was not read: what is wrong with it is what the refusal names
refused_read : {X Y : Type 0} (view : X → Y) (Is : Y → Type 0) (IsBad : ℕ → Why → Type 0) (number : ℕ) (fault : ReadLog) (s : Status) → IsRefused number fault s → ((place : ℕ) (why : Why) → fault ≡ read.Bad (record { place = place; why = why }) → IsBad place why × ((y : Y) → ¬ Is y)) → IsRead view Is (λ file place why. (file ≡ number) × IsBad place why) (Err s)
refused_read view Is IsBad number (read.Bad bad) (status.BadInput file place why) refused named =
    let found = named place why (ap read.Bad refused.1) in
    ((refused.0, found.0), found.1)
refused_read view Is IsBad number (read.Bad bad) status.Ok refused named = absurd refused
refused_read view Is IsBad number (read.Bad bad) status.BadWords refused named = absurd refused
refused_read view Is IsBad number (read.Bad bad) status.ReadFault refused named = absurd refused
refused_read view Is IsBad number (read.Bad bad) status.WriteFault refused named = absurd refused
refused_read view Is IsBad number (read.Bad bad) status.DoorFault refused named = absurd refused
refused_read view Is IsBad number (read.Bad bad) status.Memory refused named = absurd refused
refused_read view Is IsBad number read.Memory (status.BadInput file place why) refused named = absurd refused
refused_read view Is IsBad number read.Memory status.Ok refused named = absurd refused
refused_read view Is IsBad number read.Memory status.BadWords refused named = absurd refused
refused_read view Is IsBad number read.Memory status.ReadFault refused named = absurd refused
refused_read view Is IsBad number read.Memory status.WriteFault refused named = absurd refused
refused_read view Is IsBad number read.Memory status.DoorFault refused named = absurd refused
refused_read view Is IsBad number read.Memory status.Memory refused named = tt

pub refused_script : (bytes loaded : List ℕ) (fault : ReadLog) (s : Status) → loaded ≡ bytes → length bytes ≤ largest_file → IsRefused 2 fault s → NamesLine (IsBadScript loaded) fault → RefusesLog fault ((ls : List AdminLine) → ¬ script.SpellsScript loaded ls) → IsScriptRead bytes (Err s)
refused_script bytes loaded fault s same fits refused line bad =
    refused_read (λ (ls : List AdminLine). ls) (IsScriptIn bytes) (IsBadAdmin bytes) 2 fault s refused
    (λ place why is.
    no_script bytes loaded place why same fits
    (subst (λ (f : ReadLog). NamesLine (IsBadScript loaded) f) is line)
    (subst (λ (f : ReadLog). RefusesLog f ((ls : List AdminLine) → ¬ script.SpellsScript loaded ls)) is bad))

pub refused_session : (number : ℕ) (bytes loaded : List ℕ) (fault : ReadLog) (s : Status) → loaded ≡ bytes → length bytes ≤ largest_file → IsRefused number fault s → NamesLine (IsBadRecord loaded) fault → RefusesLog fault ((r : Recorded) → ¬ record_file.SpellsRecord loaded r) → IsSessionRead number bytes (Err s)
refused_session number bytes loaded fault s same fits refused line bad =
    refused_read (λ (r : Recorded). r) (IsSessionIn bytes) (IsBadSession bytes) number fault s refused
    (λ place why is.
    no_session bytes loaded place why same fits
    (subst (λ (f : ReadLog). NamesLine (IsBadRecord loaded) f) is line)
    (subst (λ (f : ReadLog). RefusesLog f ((r : Recorded) → ¬ record_file.SpellsRecord loaded r)) is bad))

-- ---- the recorded sessions

-- the bytes of the file at a place
pub file_at : (recorded : Option (List ℕ → Option (List ℕ))) (names : List (List ℕ)) (contents : List (List ℕ)) (i : ℕ) (name : List ℕ) → HaveFiles recorded names contents → i < length names → name ≡ get_or names i name → HasFile recorded name (get_or contents i [])
file_at recorded [] contents i name have low at = absurd (omega (arith, low))
file_at recorded (n ∷ names) [] i name have low at = absurd have
file_at recorded (n ∷ names) (bytes ∷ contents) zero name have low at = subst (λ (x : List ℕ). HasFile recorded x bytes) (sym at) have.0
file_at recorded (n ∷ names) (bytes ∷ contents) (suc i) name have low at = file_at recorded names contents i name have.1 (omega (arith, low)) at

pub as_many : (recorded : Option (List ℕ → Option (List ℕ))) (names : List (List ℕ)) (contents : List (List ℕ)) → HaveFiles recorded names contents → length contents ≡ length names
as_many recorded [] [] have = refl
as_many recorded [] (bytes ∷ contents) have = absurd have
as_many recorded (n ∷ names) [] have = absurd have
as_many recorded (n ∷ names) (bytes ∷ contents) have = omega (arith, as_many recorded names contents have.1)

-- one more that was read
pub one_more : (contents : List (List ℕ)) (i : ℕ) (records : List Recorded) (r : Recorded) → i < length contents → AreSessionsIn (take i contents) records → IsSessionIn (get_or contents i []) r → AreSessionsIn (take (suc i) contents) (records ++ r ∷ [])
one_more [] i records r low are is = absurd (omega (arith, low))
one_more (bytes ∷ contents) zero [] r low are is = (is, tt)
one_more (bytes ∷ contents) zero (x ∷ records) r low are is = absurd are
one_more (bytes ∷ contents) (suc i) [] r low are is = absurd are
one_more (bytes ∷ contents) (suc i) (x ∷ records) r low are is = (are.0, one_more contents i records r (omega (arith, low)) are.1 is)

-- the first bad one stands behind those that were read
pub bad_behind : (number : ℕ) (contents : List (List ℕ)) (i : ℕ) (records : List Recorded) (place : ℕ) (why : Why) → i < length contents → AreSessionsIn (take i contents) records → IsBadSession (get_or contents i []) place why → IsBadSessionAmong number contents (number + i) place why
bad_behind number [] i records place why low are bad = absurd (omega (arith, low))
bad_behind number (bytes ∷ contents) zero records place why low are bad = inl (omega arith, bad)
bad_behind number (bytes ∷ contents) (suc i) [] place why low are bad = absurd are
bad_behind number (bytes ∷ contents) (suc i) (x ∷ records) place why low are bad =
    inr ((x, are.0), subst (λ (file : ℕ). IsBadSessionAmong (number + 1) contents file place why) (omega arith) (bad_behind (number + 1) contents i records place why (omega (arith, low)) are.1 bad))

-- where one is no recorded session, not all are
pub not_all : (contents : List (List ℕ)) (i : ℕ) → i < length contents → ((r : Recorded) → ¬ IsSessionIn (get_or contents i []) r) → (records : List Recorded) → ¬ AreSessionsIn contents records
not_all [] i low none records are = absurd (omega (arith, low))
not_all (bytes ∷ contents) zero low none [] are = absurd are
not_all (bytes ∷ contents) zero low none (r ∷ records) are = none r are.0
not_all (bytes ∷ contents) (suc i) low none [] are = absurd are
not_all (bytes ∷ contents) (suc i) low none (r ∷ records) are = not_all contents i (omega (arith, low)) none records are.1

-- a recorded session that was not read, behind those that were
pub session_failed : (contents : List (List ℕ)) (i : ℕ) (records : List Recorded) (s : Status) → i < length contents → AreSessionsIn (take i contents) records → IsSessionRead (i + 3) (get_or contents i []) (Err s) → AreSessionsRead contents (Err s)
session_failed contents i records status.Ok low are failed = absurd failed
session_failed contents i records status.BadWords low are failed = absurd failed
session_failed contents i records (status.BadInput file place why) low are failed =
    let number : 3 + i ≡ file = omega (arith, failed.0.0) in (
      subst (λ (f : ℕ). IsBadSessionAmong 3 contents f place why) number (bad_behind 3 contents i records place why low are failed.0.1),
      not_all contents i low failed.1,
    )
session_failed contents i records status.ReadFault low are failed = tt
session_failed contents i records status.WriteFault low are failed = absurd failed
session_failed contents i records status.DoorFault low are failed = absurd failed
session_failed contents i records status.Memory low are failed = tt

-- ---- the whole

pub config_failed : (contents : Contents) (s : Status) → IsConfigRead contents.config (Err s) → AreInputsRead contents (Err s)
config_failed contents status.Ok failed = absurd failed
config_failed contents status.BadWords failed = absurd failed
config_failed contents (status.BadInput file place why) failed = (inl failed.0, λ i are. failed.1 i.config are.config)
config_failed contents status.ReadFault failed = tt
config_failed contents status.WriteFault failed = absurd failed
config_failed contents status.DoorFault failed = absurd failed
config_failed contents status.Memory failed = tt

pub script_failed : (contents : Contents) (config : Config) (s : Status) → IsConfigIn contents.config config → IsScriptRead contents.admin (Err s) → AreInputsRead contents (Err s)
script_failed contents config status.Ok is failed = absurd failed
script_failed contents config status.BadWords is failed = absurd failed
script_failed contents config (status.BadInput file place why) is failed =
    (inr ((config, is), inl failed.0), λ i are. failed.1 i.lines are.script)
script_failed contents config status.ReadFault is failed = tt
script_failed contents config status.WriteFault is failed = absurd failed
script_failed contents config status.DoorFault is failed = absurd failed
script_failed contents config status.Memory is failed = tt

pub sessions_failed : (contents : Contents) (config : Config) (lines : List AdminLine) (s : Status) → IsConfigIn contents.config config → IsScriptIn contents.admin lines → AreSessionsRead contents.sessions (Err s) → AreInputsRead contents (Err s)
sessions_failed contents config lines status.Ok is spells failed = absurd failed
sessions_failed contents config lines status.BadWords is spells failed = absurd failed
sessions_failed contents config lines (status.BadInput file place why) is spells failed =
    (inr ((config, is), inr ((lines, spells), failed.0)), λ i are. failed.1 i.records are.sessions)
sessions_failed contents config lines status.ReadFault is spells failed = tt
sessions_failed contents config lines status.WriteFault is spells failed = absurd failed
sessions_failed contents config lines status.DoorFault is spells failed = absurd failed
sessions_failed contents config lines status.Memory is spells failed = tt
