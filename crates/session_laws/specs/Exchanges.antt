-- What passes between a device and a session: requests and their replies, empty offers, and idle moments.
use Rattle.std.specs.Prelude.{◌≡◌, ℕ, ◌+◌, ◌<◌, Bool, true, ◌&&◌, List, [], ◌∷◌, ◌++◌, codes, Option, Some, None, unwrap_or, if◌then◌else◌}
use Rattle.std.specs.Str.{bytes_eq}
use Rattle.blip_frame.specs.Props.{value_at}
use Rattle.blip_mux.specs.declared.message.Message.{Message}
use Rattle.blip_mux.specs.Joining.{is_request, is_reply}
use Rattle.sg_history.specs.Device.{plain}
use Rattle.session_core.specs.declared.act.Want.{Want}
use Rattle.session_core.specs.declared.act.Want.TheVariants as want
use Rattle.session_core.specs.declared.event.Event.{Event}
use Rattle.session_core.specs.declared.event.Event.TheVariants as event
use Rattle.session_core.specs.declared.machine.Pending.{Pending}
use Rattle.session_core.specs.declared.machine.Pending.TheVariants as pending
use Rattle.session_core.specs.Running.{Running}
use Rattle.session_core.specs.Steps.{SessionStep}

-- ---- requests and their replies

-- the number of a request, unless it wants no reply
abbrev pub wanting : ℕ → Bool → List ℕ
wanting number no_reply = if no_reply then [] else number ∷ []

-- the number of a message that is a request and wants a reply
abbrev pub asked_in : Message → List ℕ
asked_in m = if is_request m.kind then wanting m.number m.no_reply else []

-- the same of the message that became whole at an event
abbrev pub asked_at : Event → List ℕ
asked_at (event.Whole message) = asked_in message
asked_at other = []

-- the numbers of the requests that want a reply, in the order in which they became whole; the last step is the first of the list
abbrev pub asked_by : List SessionStep → List ℕ
asked_by [] = []
asked_by (s ∷ earlier) = asked_by earlier ++ asked_at s.event

-- the numbers of the replies among messages, in order
abbrev pub replied : List Message → List ℕ
replied [] = []
replied (m ∷ messages) = (if is_reply m.kind then m.number ∷ [] else []) ++ replied messages

-- the number of the request whose reply waits for an answer of the ground
abbrev pub owed : Pending → List ℕ
owed pending.Nothing = []
owed (pending.Feed asked) = wanting asked.asker.number asked.asker.no_reply
owed pending.More = []
owed (pending.Bodies rows) = []
owed (pending.Reply asker to) = wanting asker.number asker.no_reply

-- ---- idle moments

-- the front is above that of the last of these looks, the last of which is the first of the list
abbrev pub IsAboveLast : List ℕ → ℕ → Type 0
IsAboveLast [] front = ⊥
IsAboveLast (last ∷ earlier) front = last < front

-- if anything is wanted, it is a feed from the plain key of the front of the last of these looks
abbrev pub IsFromLast : List ℕ → Option Want → Type 0
IsFromLast fronts None = Unit {0}
IsFromLast (last ∷ earlier) (Some (want.Feed since options)) = since ≡ plain last
IsFromLast fronts wanted = ⊥

-- ---- empty offers

-- whether a message is a request that offers no rows
abbrev pub is_empty_offer : Message → Bool
is_empty_offer m =
    is_request m.kind
    && (bytes_eq (unwrap_or (value_at m.payload.props (codes "Profile")) []) (codes "changes") && bytes_eq m.payload.body (codes "[]"))

-- how many of the messages are such
abbrev pub empty_offers : List Message → ℕ
empty_offers [] = 0
empty_offers (m ∷ messages) = (if is_empty_offer m then 1 else 0) + empty_offers messages

-- whether the device was informed that it had all rows: its feed has ended, or once caught up
abbrev pub has_caught_up : Option Running → Bool
has_caught_up None = true
has_caught_up (Some r) = r.caught_up
