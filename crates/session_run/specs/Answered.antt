-- What a ground answers to a session, read by read.
use Rattle.std.specs.Prelude.{◌≡◌, ◌≤◌, ◌||◌, ℕ, Bool, List, [], ◌∷◌, ◌++◌, length, map, Option, Some, None, IfSome}
use Rattle.sg_history.specs.declared.book.Waiting.{Waiting}
use Rattle.sg_history.specs.Board.{BoardState, SideEntry}
use Rattle.checkpoint_store.specs.declared.answers.Kept0.{Kept0}
use Rattle.checkpoint_store.specs.declared.answers.SetAnswer.{SetAnswer}
use Rattle.checkpoint_store.specs.Answers.{kept_at, Sets}
use Rattle.checkpoint_store.specs.Checkpoints.{checkpoint_text}
use Rattle.repl_messages.specs.declared.revision.Revision.{Revision}
use Rattle.sync_syntax.specs.declared.tree.Program.{Program}
use Rattle.doc_board.specs.declared.outcome.Outcome.{Outcome}
use Rattle.session_core.specs.declared.act.Want.{Want}
use Rattle.session_core.specs.declared.act.Want.TheVariants as want
use Rattle.session_core.specs.declared.event.Event.{Event}
use Rattle.session_core.specs.declared.event.Event.TheVariants as event
use Rattle.session_core.specs.declared.look.Look.{Look}
use Rattle.session_core.specs.Fronts.{front_by}
use Rattle.session_core.specs.Steps.{SessionStep, wanted_after}
use Rattle.board_steps.specs.Asks.{AskedAt}
use Rattle.board_steps.specs.Bodies.{BodiesAt}
use Rattle.board_steps.specs.Feed.{FeedAt}
use Rattle.write_path.specs.Checkpoints.{HasCheckpoints, SetsCheckpoint}
use Rattle.write_path.specs.Proposals.{Stores, recorded_after}
use Rattle.write_path.specs.Reads.{Reads, WasRead, HasLength}

-- what a ground records at a moment: the boards that it has read, the newest first; its lowest front; the length of the log, where it
-- is recorded; the checkpoints, where they are recorded; and its own entries, the newest first
pub record Moment : Type 0 where
  pub read : List BoardState
  pub lowest : ℕ
  pub recorded : Option ℕ
  pub checkpoints : Option (List SideEntry)
  pub own : List Waiting

-- the same, one by one
abbrev pub moment : List BoardState → ℕ → Option ℕ → Option (List SideEntry) → List Waiting → Moment
moment read lowest recorded checkpoints own =
    record { read = read; lowest = lowest; recorded = recorded; checkpoints = checkpoints; own = own }

-- the ground has read, and nothing more
pub record HasReadGround (before after : Moment) : Type 0 where
  pub reads : Reads before.read after.read before.lowest after.lowest
  pub recorded : after.recorded ≡ before.recorded
  pub checkpoints : after.checkpoints ≡ before.checkpoints
  pub own : after.own ≡ before.own

-- a board was read in between, of the recorded length, of which this holds
abbrev pub Saw : Moment → Moment → (BoardState → Type 0) → Type 0
Saw before after Holds = (b : BoardState) × WasRead before.read after.read b × HasLength before.recorded b × Holds b

-- the length of the log was loaded, without a read
pub record IsFrontLoaded (before : Moment) (front : ℕ) (after : Moment) : Type 0 where
  pub read : after.read ≡ before.read
  pub rises : before.lowest ≤ front
  pub lowest : after.lowest ≡ front
  pub recorded : after.recorded ≡ before.recorded
  pub checkpoints : after.checkpoints ≡ before.checkpoints
  pub own : after.own ≡ before.own
  pub length : IfSome before.recorded (λ n. front ≡ n)

-- a revision was proposed, to be judged by this program
pub record IsProposalAnswered (before : Moment) (user : List ℕ) (program : Program) (strict : Bool) (r : Revision) (answer : Outcome) (after : Moment) : Type 0 where
  pub stores : Stores before.read after.read before.lowest after.lowest before.own after.own before.recorded program strict (Some user) r answer
  pub recorded : after.recorded ≡ recorded_after before.recorded answer
  pub checkpoints : after.checkpoints ≡ before.checkpoints

-- the checkpoint of the user's client was had of a board that was read in between, which has the recorded checkpoints
abbrev pub SawCheckpoint : Moment → Moment → List ℕ → List ℕ → Kept0 → Type 0
SawCheckpoint before after user client answer =
    (b : BoardState) × WasRead before.read after.read b × HasCheckpoints before.checkpoints b × (answer ≡ kept_at b.side (checkpoint_text user client))

-- the checkpoint of the user's client was set, or not, by what the answer says
pub record IsSet (before : Moment) (user client : List ℕ) (rev : ℕ) (body : List ℕ) (answer : SetAnswer) (after : Moment) : Type 0 where
  pub reads : Reads before.read after.read before.lowest after.lowest
  pub recorded : after.recorded ≡ before.recorded
  pub own : after.own ≡ before.own
  pub sets : SetsCheckpoint before.read after.read before.checkpoints after.checkpoints (checkpoint_text user client) rev body answer

-- What was wanted is answered by this event: by a board that was read for it, and for nothing else. Where nothing was wanted the event
-- is a message, or an idle moment at which the length of the log was loaded.
abbrev pub IsEventAnswered : Moment → List ℕ → Program → Bool → Option Want → Event → Moment → Type 0
IsEventAnswered before user program strict None (event.Whole message) after = after ≡ before
IsEventAnswered before user program strict None (event.Idle front) after = IsFrontLoaded before front after
IsEventAnswered before user program strict (Some (want.Feed since options)) (event.Fed answer) after =
    HasReadGround before after × Saw before after (λ b. FeedAt b.log user since options answer)
IsEventAnswered before user program strict (Some (want.Bodies options rows most)) (event.Bodies answer) after =
    HasReadGround before after × Saw before after (λ b. BodiesAt b user options rows most answer)
IsEventAnswered before user program strict (Some (want.Ask offers)) (event.Asked answer) after =
    HasReadGround before after × Saw before after (λ b. AskedAt b offers answer)
IsEventAnswered before user program strict (Some (want.Propose r)) (event.Judged answer) after =
    IsProposalAnswered before user program (strict || r.noconflicts) r answer after
IsEventAnswered before user program strict (Some (want.GetCheckpoint client)) (event.Got answer) after =
    HasReadGround before after × SawCheckpoint before after user client answer
IsEventAnswered before user program strict (Some (want.SetCheckpoint client rev body)) (event.Set answer) after =
    IsSet before user client rev body answer after
IsEventAnswered before user program strict wanted other after = ⊥

-- the events of steps were answered one after another, from one moment to another; the last step is the first of the list
abbrev pub AreAnswered : Moment → List ℕ → Program → Bool → List SessionStep → Moment → Type 0
AreAnswered start user program strict [] now = now ≡ start
AreAnswered start user program strict (s ∷ earlier) now =
    (between : Moment) × AreAnswered start user program strict earlier between × IsEventAnswered between user program strict (wanted_after earlier) s.event now

-- ---- the looks

-- each of these looks, one after another, is at the length of the log of a board that was read for it, in between those read before it
-- and those read after it
abbrev pub AreLooksAt : List BoardState → List Look → List BoardState → Type 0
AreLooksAt before [] after = (added : List BoardState) × (after ≡ added ++ before)
AreLooksAt before (l ∷ looks) after =
    (between : List BoardState) × (b : BoardState) × WasRead before between b × (l.front ≡ length b.log) × AreLooksAt between looks after

abbrev pub look_fronts : List Look → List ℕ
look_fronts looks = map (λ (l : Look). l.front) looks

-- ---- the recorded length

-- a length once an event has come: one more where a revision was stored
abbrev pub length_after : Option ℕ → Event → Option ℕ
length_after n (event.Judged answer) = recorded_after n answer
length_after n other = n

-- a recorded length once steps were made
abbrev pub recorded_by : Option ℕ → List SessionStep → Option ℕ
recorded_by n [] = n
recorded_by n (s ∷ earlier) = length_after (recorded_by n earlier) s.event

-- each of these fronts is the length, where one is recorded
abbrev pub AreLength : Option ℕ → List ℕ → Type 0
AreLength None fronts = Unit {0}
AreLength (Some n) [] = Unit {0}
AreLength (Some n) (front ∷ fronts) = (front ≡ n) × AreLength (Some n) fronts

-- where a length is recorded at the start, each look and each load is at that length and the entries stored by then
abbrev pub AreAtLength : Option ℕ → List SessionStep → Type 0
AreAtLength n [] = Unit {0}
AreAtLength n (s ∷ earlier) = AreLength (recorded_by n earlier) (front_by s.event) × AreAtLength n earlier

-- ---- the checkpoints of one store

-- what was wanted of the checkpoints of a user's clients is answered by these, and leaves those; everything else leaves them as they are
abbrev pub IsOfStore : List ℕ → List SideEntry → Option Want → Event → List SideEntry → Type 0
IsOfStore user before (Some (want.GetCheckpoint client)) (event.Got answer) after =
    (answer ≡ kept_at before (checkpoint_text user client)) × (after ≡ before)
IsOfStore user before (Some (want.SetCheckpoint client rev body)) (event.Set answer) after =
    Sets before (checkpoint_text user client) rev body answer after
IsOfStore user before wanted other after = after ≡ before

-- what was wanted of the checkpoints in steps is answered by one store, which has these at first and those then
abbrev pub AreOfStore : List ℕ → List SideEntry → List SessionStep → List SideEntry → Type 0
AreOfStore user start [] now = now ≡ start
AreOfStore user start (s ∷ earlier) now =
    (between : List SideEntry) × AreOfStore user start earlier between × IsOfStore user between (wanted_after earlier) s.event now
