-- A session, event by event.
use Rattle.std.specs.Prelude.{◌≡◌, ◌+◌, List, [], ◌∷◌, ◌++◌, Option, None}
use Rattle.blip_mux.specs.declared.message.Message.{Message}
use Rattle.session_core.specs.declared.act.Want.{Want}
use Rattle.session_core.specs.declared.event.Event.{Event}
use Rattle.session_core.specs.Acts.{messages_from}
use Rattle.session_core.specs.State.{Machine, Awaits}
use Rattle.session_core.specs.Transitions.{Done, DoesForEvent}

-- an event, the messages that were put for it, and what was then wanted of the history
pub record SessionStep : Type 0 where
  pub event : Event
  pub puts : List Message
  pub want : Option Want

-- a step from one state to another: its event was awaited, and all that was done is what the session does for it
pub record Steps (m : Machine) (s : SessionStep) (after : Machine) : Type 0 where
  pub awaited : Awaits m s.event
  pub done : Done
  pub does : DoesForEvent m s.event done
  pub leads : after ≡ done.after
  pub puts : s.puts ≡ messages_from (m.requests + 1) done.acts
  pub want : s.want ≡ done.want

-- the steps, the last of which is the first of the list, lead from one state to another
abbrev pub Leads : Machine → List SessionStep → Machine → Type 0
Leads start [] after = after ≡ start
Leads start (s ∷ earlier) after = (before : Machine) × Leads start earlier before × Steps before s after

-- what is wanted after these steps
abbrev pub wanted_after : List SessionStep → Option Want
wanted_after [] = None
wanted_after (s ∷ earlier) = s.want

-- all that was put, in order
abbrev pub put_by : List SessionStep → List Message
put_by [] = []
put_by (s ∷ earlier) = put_by earlier ++ s.puts
