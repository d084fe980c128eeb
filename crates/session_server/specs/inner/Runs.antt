-- What callers' jobs leave, and what is handed on until they are joined. Only proofs need this.
use Rattle.std.specs.Prelude.{◌≡◌, ◌⊎◌, ◌<◌, ◌≤◌, ◌+◌, ◌*◌, ◌^◌, ℕ, List, [], ◌∷◌, ◌++◌, length, Option, Some, None, not, slice_get}
use Rattle.std.specs.Arc.{arc_value}
use Rattle.atomic_table.specs.Seated.{TableId}
use Rattle.sg_outside.specs.declared.wire.Got.{Got}
use Rattle.sg_outside.specs.Wire.{LineRead, LinkRecord, Traffic, no_line}
use Rattle.sg_lines.specs.Line.{TraceRecord, new_socket}
use Rattle.sg_history.specs.declared.book.Waiting.{Waiting}
use Rattle.sg_history.specs.declared.entries.Entry.{Entry}
use Rattle.sg_history.specs.Board.{BoardState, IsAfterAll}
use Rattle.seq_gate.specs.Passes.{share}
use Rattle.seq_gate.specs.Views.{PassView}
use Rattle.seq_gate.specs.declared.known.Known.{Known}
use Rattle.gateway_config.specs.declared.config.Config.{Config}
use Rattle.ws_door.specs.declared.answer.Upgrade.{Upgrade}
use Rattle.write_path.specs.Reads.{IsLaterThanAll, IsOneOf}
use Rattle.write_path.specs.Shared.{Rests, Shared, shared_origin}
use Rattle.session_run.specs.declared.ended.End.TheVariants.{WireFault}
use Rattle.session_run.specs.declared.ended.Ended.{Ended}
use Rattle.session_run.specs.declared.serve.Setup.{Setup}
use Rattle.session_run.specs.Served.{IsServed}
use Rattle.session_threads.specs.Pairs.{AllPairs}
use Rattle.session_threads.specs.inner.Runs.{moment_at}
use Rattle.gateway_server.specs.declared.serve.NoJob.{NoJob}
use Rattle.gateway_server.specs.declared.serve.NoJob.TheVariants.{Spent}
use Rattle.session_server.specs.Callers.{HasNoSession, IsUpgraded}
use Rattle.session_server.specs.Served.{most_callers}

-- what a line has recorded of which these results were read, and which took nothing
abbrev pub read_line : List LineRead → LinkRecord
read_line results = record { read = results; taken = []; gave = [] }

-- ---- one caller

-- the socket of a line was served a session with a pass that knew this
pub record IsServedOver (line : LinkRecord) (coming : List Got) (setup : Setup) (before : Known) (trace : Option TraceRecord) (after : Known) : Type 0 where
  pub traffic : Traffic
  pub trace_is : trace ≡ Some (record { line = line; socket = Some traffic })
  pub ended : Ended
  pub served : IsServed setup (moment_at before) (moment_at after) (Some (new_socket line coming)) ended (Some traffic)
  pub faults : ℕ
  pub faults_after : ℕ
  pub fault : ended.end ≡ WireFault → faults < faults_after

-- the setup of the session of an upgrade
pub record IsSetupOf (config : Config) (upgrade : Upgrade) (setup : Setup) : Type 0 where
  pub user : setup.user ≡ upgrade.user
  pub version : setup.version ≡ upgrade.version
  pub strictness : setup.strict ≡ not config.conflicts
  pub judged_by : arc_value setup.program ≡ arc_value config.program

-- a caller that is let in, with the setup of its session, or is not
abbrev pub IsLetIn : Config → Option Setup → Option LinkRecord → Type 0
IsLetIn config (Some setup) recorded = (line : LinkRecord) × (upgrade : Upgrade) × (recorded ≡ Some line) × IsUpgraded config line upgrade × IsSetupOf config upgrade setup
IsLetIn config None recorded = (line : LinkRecord) × (recorded ≡ Some line) × HasNoSession config line

-- a caller whose session stored these
pub record IsServedCaller (config : Config) (before : Known) (trace : Option TraceRecord) (after : Known) (stored : List ℕ) : Type 0 where
  pub line : LinkRecord
  pub coming : List Got
  pub upgrade : Upgrade
  pub setup : Setup
  pub upgraded : IsUpgraded config line upgrade
  pub is_setup : IsSetupOf config upgrade setup
  pub over : IsServedOver line coming setup before trace after
  pub stored_are : over.ended.stored ≡ stored

-- a caller whose line has no socket
pub record IsShutCaller (config : Config) (before : Known) (trace : Option TraceRecord) (after : Known) (stored : List ℕ) : Type 0 where
  pub line : LinkRecord
  pub trace_is : trace ≡ Some (record { line = line; socket = None })
  pub none : HasNoSession config line
  pub same : after ≡ before
  pub stored_are : stored ≡ []

abbrev pub IsCaller : Config → Known → Option TraceRecord → Known → List ℕ → Type 0
IsCaller config before trace after stored = IsServedCaller config before trace after stored ⊎ IsShutCaller config before trace after stored

-- the same of a line that had recorded nothing
abbrev pub IsCallLeft : Config → Known → Option TraceRecord → Known → Type 0
IsCallLeft config before trace after = (stored : List ℕ) × IsCaller config before trace after stored

-- what a job gives, which had this ground
pub record IsCallerDone (config : Config) (before : Shared) (line : Option LinkRecord) (after : Shared) (trace : Option TraceRecord) : Type 0 where
  pub origin : shared_origin after ≡ shared_origin before
  pub left : line ≡ Some no_line → IsCallLeft config before.knows trace after.knows

-- ---- all callers

-- a pass that was split off behind a gate that was opened with this board
pub record IsSplit (opened : BoardState) (p : Known) : Type 0 where
  pub share_is : share p ≡ 2 ^ 32
  pub own : p.own ≡ []
  pub read : IsOneOf p.read opened

-- what a caller left: what its pass knew before and knows, and what it stored
pub record Call : Type 0 where
  pub before : Known
  pub knows : Known
  pub stored : List ℕ

pub record IsCall (opened : BoardState) (config : Config) (trace : Option TraceRecord) (call : Call) : Type 0 where
  pub split : IsSplit opened call.before
  pub left : IsCaller config call.before trace call.knows call.stored

-- the own entries of a pass that took them all in, the last first
abbrev pub own_of : List Call → List Waiting
own_of [] = []
own_of (c ∷ calls) = own_of calls ++ c.knows.own

-- what passes have read is earlier than what follows what one has read
abbrev pub AllLater : List Entry → List Call → Type 0
AllLater h [] = Unit {0}
AllLater h (c ∷ calls) = IsLaterThanAll c.knows.read h × AllLater h calls

abbrev pub AllAfter : BoardState → List Call → Type 0
AllAfter b [] = Unit {0}
AllAfter b (c ∷ calls) = IsAfterAll c.knows.read b × AllAfter b calls

-- these traces are of the callers whose passes a pass took in, the last first
pub record Holds (opened : BoardState) (config : Config) (now : Known) (traces : List (Option TraceRecord)) : Type 0 where
  pub calls : List Call
  pub are : AllPairs (IsCall opened config) traces calls
  pub own : now.own ≡ own_of calls
  pub later : (h : List Entry) → IsLaterThanAll now.read h → AllLater h calls
  pub after : (b : BoardState) → IsAfterAll now.read b → AllAfter b calls

-- ---- the server

-- a job of the server of a gate that was opened with this board; its line had recorded nothing if no line of a caller had
pub record IsMade (opened : BoardState) (gate : TableId) (config : Config) (Fresh : Type 0) (ground : Shared) (its_config : Config) (line : Option LinkRecord) : Type 0 where
  pub here : ground.gate ≡ gate
  pub split : IsSplit opened ground.knows
  pub config_is : its_config ≡ config
  pub fresh : Fresh → line ≡ Some no_line

-- the pass of the server of a gate that was opened with this board, once it made jobs for so many callers of which so many are out
pub record IsKept (opened : BoardState) (gate : TableId) (pass : PassView) (out : ℕ) (refused : Option NoJob) (callers : ℕ) : Type 0 where
  pub here : pass.gate ≡ gate
  pub rests : Rests pass.knows
  pub share_is : share pass.knows + 2 ^ 32 * out ≡ 2 ^ 62
  pub opening : pass.knows.opening ≡ length opened.log
  pub read : slice_get pass.knows.read 0 ≡ Some opened
  pub left : 2 ^ 62 ≤ pass.knows.left + 2 ^ 32 * callers
  pub spent : refused ≡ Some Spent → most_callers ≤ callers
