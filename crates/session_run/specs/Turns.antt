-- A session, turn by turn: a frame or an idle moment, what was done for it, and what was sent.
use Rattle.std.specs.Prelude.{◌≡◌, ℕ, Bool, true, false, ◌&&◌, not, List, [], ◌∷◌, ◌++◌, map, Option, Some, None, Ok, if◌then◌else◌}
use Rattle.sg_outside.specs.declared.wire.Got.{Got}
use Rattle.sg_outside.specs.declared.wire.Got.TheVariants as got
use Rattle.blip_frame.specs.Frame.{FrameParts}
use Rattle.blip_mux.specs.declared.message.Message.{Message}
use Rattle.blip_mux.specs.declared.inbox.Taken.{Taken}
use Rattle.blip_mux.specs.declared.inbox.Taken.TheVariants as takens
use Rattle.blip_mux.specs.Between.{waiting_of}
use Rattle.blip_mux.specs.Cutting.{OutboxStep, puts, after_outbox_steps, ArePicked}
use Rattle.blip_mux.specs.Joining.{Event, came, expected, is_request, answer_in}
use Rattle.blip_mux.specs.Sending.{Sending, new_sending, picked}
use Rattle.session_core.specs.declared.event.Event as session
use Rattle.session_core.specs.declared.event.Event.TheVariants as event
use Rattle.session_core.specs.Conduct.{is_answer}
use Rattle.session_core.specs.Running.{waits}
use Rattle.session_core.specs.State.{Machine}
use Rattle.session_core.specs.Steps.{SessionStep, Leads, put_by}
use Rattle.session_mux.specs.Muxed.{acknowledged_by, IsNoBadAck}

-- a frame that was taken and what it gave, or an idle moment, which gave nothing; and the steps that the session made for it, the last
-- of which is the first of the list
pub record SessionTurn : Type 0 where
  pub frame : Option FrameParts
  pub given : Taken
  pub steps : List SessionStep

-- all steps, the last of which is the first of the list, as of the turns
abbrev pub steps_of : List SessionTurn → List SessionStep
steps_of [] = []
steps_of (t ∷ earlier) = t.steps ++ steps_of earlier

abbrev pub frame_in : Option FrameParts → List FrameParts
frame_in None = []
frame_in (Some f) = f ∷ []

-- the frames that were taken, in order
abbrev pub turn_frames : List SessionTurn → List FrameParts
turn_frames [] = []
turn_frames (t ∷ earlier) = turn_frames earlier ++ frame_in t.frame

-- ---- which turns are idle

abbrev pub is_frame : Option FrameParts → Bool
is_frame None = false
is_frame (Some f) = true

-- of each turn whether it is a frame's, in order
abbrev pub framed : List SessionTurn → List Bool
framed [] = []
framed (t ∷ earlier) = framed earlier ++ is_frame t.frame ∷ []

-- the same of the results that were received
abbrev pub framed_by : List Got → List Bool
framed_by [] = []
framed_by (got.Frame bytes ∷ results) = true ∷ framed_by results
framed_by (result ∷ results) = false ∷ framed_by results

-- ---- what a turn calls for

-- the first step is by this event, and all later ones are by answers
abbrev pub IsExchange : session.Event → List SessionStep → Type 0
IsExchange first [] = ⊥
IsExchange first (s ∷ []) = s.event ≡ first
IsExchange first (s ∷ t ∷ earlier) = (is_answer s.event ≡ true) × IsExchange first (t ∷ earlier)

-- a frame that gave a message calls for an exchange by it; every other frame for nothing
abbrev pub IsForTaken : Taken → List SessionStep → Type 0
IsForTaken takens.Nothing steps = steps ≡ []
IsForTaken (takens.Ack kind number bytes) steps = steps ≡ []
IsForTaken (takens.Owed kind number bytes) steps = steps ≡ []
IsForTaken (takens.Whole message) steps = IsExchange (event.Whole message) steps

-- an idle moment calls for one by the loaded front where a feed waits, else for nothing
abbrev pub IsForIdle : Bool → List SessionStep → Type 0
IsForIdle true steps = (front : ℕ) × IsExchange (event.Idle front) steps
IsForIdle false steps = steps ≡ []

abbrev pub IsFor : Machine → Option FrameParts → Taken → List SessionStep → Type 0
IsFor m (Some f) given steps = IsForTaken given steps
IsFor m None given steps = (given ≡ takens.Nothing) × IsForIdle (waits m.feed) steps

-- an event that came last, for which nothing was put and nothing wanted, as memory ran out
abbrev pub undone : Option session.Event → List SessionStep
undone None = []
undone (Some e) = record { event = e; puts = []; want = None } ∷ []

-- The turns lead the machine from one state to another, each by what it calls for; but in the last turn, where memory ran out, nothing
-- was done for this last event, if there is one.
abbrev pub AreLed : Machine → Option session.Event → List SessionTurn → Machine → Type 0
AreLed start halted [] m = (m ≡ start) × (halted ≡ None)
AreLed start halted (t ∷ earlier) m =
    (before : Machine) × AreLed start None earlier before × Leads before t.steps m × IsFor before t.frame t.given (undone halted ++ t.steps)

-- ---- what came

-- the reply to a request that is put is expected from then on, where it wants one; the last event is the first of the list
abbrev pub put_after : Message → List Event → List Event
put_after m before = if is_request m.kind && not m.no_reply then expected m.number ∷ before else before

abbrev pub all_put_after : List Message → List Event → List Event
all_put_after [] before = before
all_put_after (m ∷ messages) before = all_put_after messages (put_after m before)

abbrev pub came_after : Option FrameParts → List Event → List Event
came_after None before = before
came_after (Some f) before = came f ∷ before

-- what has come, and which replies are expected; the last event is the first of the list
abbrev pub events_of : List SessionTurn → List Event
events_of [] = []
events_of (t ∷ earlier) = all_put_after (put_by t.steps) (came_after t.frame (events_of earlier))

abbrev pub IsJoined : Option FrameParts → Taken → List Event → Type 0
IsJoined None given before = given ≡ takens.Nothing
IsJoined (Some f) given before = answer_in before f ≡ Ok given

-- each frame gave what joining says, by all that came before it
abbrev pub AreJoined : List SessionTurn → Type 0
AreJoined [] = Unit {0}
AreJoined (t ∷ earlier) = IsJoined t.frame t.given (events_of earlier) × AreJoined earlier

-- ---- what went

-- what all of a turn does to what is to be sent: the acknowledgement of its frame, and what is put
abbrev pub puts_all : List Message → List OutboxStep
puts_all messages = map (λ m. puts (waiting_of m)) messages

abbrev pub done_in : SessionTurn → List OutboxStep
done_in t = acknowledged_by t.given ++ puts_all (put_by t.steps)

-- The frames that went: after each turn those that are picked, one after another, until there is none; but for the last turn, after
-- which this is left.
abbrev pub AreSent : List SessionTurn → List FrameParts → Sending → Type 0
AreSent [] frames left = (frames ≡ []) × (left ≡ new_sending)
AreSent (t ∷ earlier) frames left =
    (before : List FrameParts) × (last : List FrameParts) × (s : Sending) × (frames ≡ before ++ last)
    × AreSent earlier before s × (picked s ≡ None) × IsNoBadAck t.given s × ArePicked (after_outbox_steps s (done_in t)) last left
