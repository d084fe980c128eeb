-- What jobs leave, and what is handed on until they are joined. Only proofs need this.
use Rattle.std.specs.Prelude.{◌≡◌, ◌<◌, ◌+◌, ◌*◌, ◌^◌, ℕ, Bool, List, [], ◌∷◌, Option, None, length, map}
use Rattle.atomic_table.specs.Seated.{TableId}
use Rattle.sg_outside.specs.Wire.{Traffic}
use Rattle.sg_history.specs.Board.{BoardState}
use Rattle.seq_gate.specs.Passes.{Closes, joined_passes, share, split_off}
use Rattle.seq_gate.specs.Views.{PassView}
use Rattle.seq_gate.specs.declared.known.Known.{Known}
use Rattle.principals.specs.declared.admin_line.AdminLine.{AdminLine}
use Rattle.principals.specs.declared.admin_line.AdminLine.TheVariants as line
use Rattle.principals.specs.Script.{entry_of}
use Rattle.sync_syntax.specs.declared.tree.Program.{Program}
use Rattle.doc_board.specs.declared.outcome.Outcome.{Outcome}
use Rattle.write_path.specs.Commands.{Commands}
use Rattle.write_path.specs.Proposals.{Stores}
use Rattle.write_path.specs.Shared.{Rests, Shared, shared_origin}
use Rattle.session_run.specs.declared.ended.End.TheVariants.{WireFault}
use Rattle.session_run.specs.declared.ended.Ended.{Ended}
use Rattle.session_run.specs.declared.serve.Setup.{Setup}
use Rattle.session_run.specs.Answered.{Moment, moment}
use Rattle.session_run.specs.Served.{IsServed}
use Rattle.session_threads.specs.declared.played.LineOutcome.{LineOutcome}
use Rattle.session_threads.specs.declared.played.LineOutcome.TheVariants.{Plain}
use Rattle.session_threads.specs.OwnRevisions.{own_revision}
use Rattle.session_threads.specs.Pairs.{AllPairs}
use Rattle.session_threads.specs.Played.{Device, IsSetup, Leaves}

-- what a ground records of a pass that knows this
abbrev pub moment_at : Known → Moment
moment_at p = moment p.read p.lowest_front None None p.own

-- ---- lines

-- a line was run at a ground
abbrev pub IsLineRun : Program → Bool → Moment → AdminLine → Outcome → Moment → Type 0
IsLineRun program strict before (line.Command c) answer after =
    Commands before.read after.read before.lowest after.lowest before.own after.own before.recorded (entry_of c) answer
IsLineRun program strict before (line.Doc doc parent deleted body) answer after =
    Stores before.read after.read before.lowest after.lowest before.own after.own before.recorded program strict None (own_revision doc parent deleted body) answer

-- lines were run one after another
abbrev pub AreLinesRun : Program → Bool → Moment → List AdminLine → List LineOutcome → Moment → Type 0
AreLinesRun program strict before [] [] after = after ≡ before
AreLinesRun program strict before (l ∷ lines) (Plain answer ∷ outcomes) after =
    (between : Moment) × IsLineRun program strict before l answer between × AreLinesRun program strict between lines outcomes after
AreLinesRun program strict before [] (o ∷ outcomes) after = ⊥
AreLinesRun program strict before (l ∷ lines) [] after = ⊥

-- ---- what jobs leave

-- a script was run with a pass of this gate that knew this
pub record IsScriptDone (gate : TableId) (before : Known) (program : Program) (strict : Bool) (lines : List AdminLine) (pass : PassView) (outcomes : List LineOutcome) : Type 0 where
  pub here : pass.gate ≡ gate
  pub rests : Rests pass.knows
  pub share_is : share pass.knows ≡ share before
  pub run : AreLinesRun program strict (moment_at before) lines outcomes (moment_at pass.knows)

-- a session was served at a ground of a gate
pub record IsSessionDone (before : Shared) (setup : Setup) (traffic : Option Traffic) (faults : ℕ) (after : Shared) (ended : Ended) (traffic_after : Option Traffic) (faults_after : ℕ) : Type 0 where
  pub origin : shared_origin after ≡ shared_origin before
  pub served : IsServed setup (moment_at before.knows) (moment_at after.knows) traffic ended traffic_after
  pub fault : ended.end ≡ WireFault → faults < faults_after

-- ---- passes that are split

-- a pass from which so many were split
pub record IsLessBy (before : Known) (n : ℕ) (after : Known) : Type 0 where
  pub left : after.left + 2 ^ 32 * n ≡ before.left
  pub made : after.made ≡ before.made
  pub others : split_off after ≡ split_off before
  pub rests : Rests before → Rests after
  pub own : after.own ≡ before.own
  pub opening : after.opening ≡ before.opening
  pub read : after.read ≡ before.read

-- the setup, the traffic and the count of failures with which a session of a device is begun
pub record IsReadyFor (program : Program) (strict : Bool) (device : Device) (setup : Setup) (traffic : Option Traffic) (faults : ℕ) : Type 0 where
  pub is_setup : IsSetup program strict device setup
  pub traffic_is : traffic ≡ device.traffic
  pub faults_is : faults ≡ device.faults

-- what a session is begun with
pub record Begun : Type 0 where
  pub setup : Setup
  pub traffic : Option Traffic
  pub faults : ℕ

-- what it gives back: what its pass knows, and what it leaves
pub record Gone : Type 0 where
  pub knows : Known
  pub leaves : Leaves

-- a pass that took in these, one after another
abbrev pub joined_all : Known → List Known → Known
joined_all p [] = p
joined_all p (q ∷ others) = joined_all (joined_passes p q) others

-- a session was served with a pass that knew this
pub record IsGone (before : Known) (begun : Begun) (gone : Gone) : Type 0 where
  pub rests : Rests gone.knows
  pub share_is : share gone.knows ≡ share before
  pub served : IsServed begun.setup (moment_at before) (moment_at gone.knows) begun.traffic gone.leaves.ended gone.leaves.traffic
  pub fault : gone.leaves.ended.end ≡ WireFault → begun.faults < gone.leaves.faults

-- A script and sessions were run in threads with passes that were split off from one that knew this, and all their passes were taken in.
pub record AreThreaded (gate : TableId) (first : Known) (program : Program) (strict : Bool) (lines : List AdminLine) (begun : List Begun) (pass : PassView) (outcomes : List LineOutcome) (leaves : List Leaves) : Type 0 where
  pub here : pass.gate ≡ gate
  pub script : PassView
  pub script_done : IsScriptDone gate (split_off first) program strict lines script outcomes
  pub gone : List Gone
  pub sessions : AllPairs (IsGone (split_off first)) begun gone
  pub leaves_are : leaves ≡ map (λ (g : Gone). g.leaves) gone
  pub rest : Known
  pub less : IsLessBy first (length begun + 1) rest
  pub joined_are : pass.knows ≡ joined_all (joined_passes rest script.knows) (map (λ (g : Gone). g.knows) gone)

-- The same behind a gate that was opened with a pass that knew this, and closed with a board.
pub record AreClosed (first : Known) (program : Program) (strict : Bool) (lines : List AdminLine) (begun : List Begun) (closed : BoardState) (outcomes : List LineOutcome) (leaves : List Leaves) : Type 0 where
  pub gate : TableId
  pub pass : PassView
  pub threaded : AreThreaded gate first program strict lines begun pass outcomes leaves
  pub closes : Closes pass.knows closed
