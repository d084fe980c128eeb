-- The state of a session.
use Rattle.std.specs.Prelude.{◌≡◌, ◌<◌, ◌≤◌, ℕ, Bool, true, List, length, Option, None, IsSome}
use Rattle.repl_messages.specs.declared.request.Version.{Version}
use Rattle.repl_messages.specs.declared.looks.Fed.TheVariants as fed
use Rattle.checkpoint_store.specs.declared.answers.SetAnswer.TheVariants as set
use Rattle.session_core.specs.declared.event.Event.{Event}
use Rattle.session_core.specs.declared.event.Event.TheVariants as event
use Rattle.session_core.specs.declared.machine.Pending.{Pending}
use Rattle.session_core.specs.declared.machine.Pending.TheVariants as pending
use Rattle.session_core.specs.declared.replies.Awaited.{Awaited}
use Rattle.session_core.specs.declared.replies.Awaited.TheVariants as awaited
use Rattle.session_core.specs.Running.{Running, waits}

-- the user; the version; whether conflicts are off; how many requests the gateway has put; the feed that runs; and which answer is
-- awaited
pub record Machine : Type 0 where
  pub user : List ℕ
  pub version : Version
  pub strict : Bool
  pub requests : ℕ
  pub feed : Option Running
  pub pending : Pending

-- a session to which nothing has happened
abbrev pub new_machine : List ℕ → Version → Bool → Machine
new_machine user version strict =
    record { user = user; version = version; strict = strict; requests = 0; feed = None; pending = pending.Nothing }

-- ---- how many requests

-- how many requests are put at an event at most: the bodies of a batch of rows, and the next offer
abbrev pub most_puts : ℕ
most_puts = 10001

-- how many requests have been put at most where an event is taken
abbrev pub most_requests : ℕ
most_requests = 9223372036854775808

-- ---- which event may come

-- a request is answered by this event; memory that ran out as a checkpoint was set is no answer, and ends the session
abbrev pub IsAwaited : Event → Awaited → Type 0
IsAwaited (event.Asked answer) (awaited.Asked proposed) = Unit {0}
IsAwaited (event.Judged outcome) awaited.Pushed = Unit {0}
IsAwaited (event.Got kept) awaited.Got = Unit {0}
IsAwaited (event.Set set.Memory) to = ⊥
IsAwaited (event.Set answer) awaited.Set = Unit {0}
IsAwaited other to = ⊥

-- While no answer is awaited it is a message, or, where a feed waits, an idle moment. Else it is the answer that is awaited: for the
-- next look of a feed one at which its since key is not past the front, for bodies one body for each row.
abbrev pub AwaitsBy : Option Running → Pending → Event → Type 0
AwaitsBy feed pending.Nothing (event.Whole message) = Unit {0}
AwaitsBy feed pending.Nothing (event.Idle front) = waits feed ≡ true
AwaitsBy feed (pending.Feed asked) (event.Fed answer) = Unit {0}
AwaitsBy feed pending.More (event.Fed (fed.Rows front rows)) = Unit {0}
AwaitsBy feed (pending.Bodies rows) (event.Bodies b) = length b.answers ≡ length rows
AwaitsBy feed (pending.Reply asker to) event = IsAwaited event to
AwaitsBy feed pending other = ⊥

abbrev pub Awaits : Machine → Event → Type 0
Awaits m event = AwaitsBy m.feed m.pending event

-- the answer is awaited to which a request is then replied
abbrev pub IsReply : Pending → Type 0
IsReply (pending.Reply asker to) = Unit {0}
IsReply other = ⊥

-- ---- what always holds

-- a batch is from 1 to 10,000; bodies are awaited only of rows on offer, and the next look only for a feed that runs
abbrev pub IsSound : Option Running → Pending → Type 0
IsSound feed (pending.Feed asked) = (0 < asked.batch) × (asked.batch ≤ 10000)
IsSound feed pending.More = IsSome feed
IsSound feed (pending.Bodies rows) = IsSome feed × (length rows ≤ 10000)
IsSound feed other = Unit {0}
