-- What always holds of what a session does, for those who conduct it.
use Rattle.std.specs.Prelude.{◌≡◌, ◌⊎◌, ◌≤◌, ℕ, ◌+◌, Bool, true, false, List, [], ◌∷◌, take, Option, Some, None, if◌then◌else◌}
use Rattle.blip_mux.specs.Joining.{is_request, is_reply}
use Rattle.sg_names.specs.declared.key.Key.{Key}
use Rattle.sg_history.specs.declared.row.Options.{Options}
use Rattle.sg_history.specs.declared.row.Row.{Row}
use Rattle.session_core.specs.declared.act.Act.{Act}
use Rattle.session_core.specs.declared.act.Act.TheVariants as act
use Rattle.session_core.specs.declared.act.Want.{Want}
use Rattle.session_core.specs.declared.act.Want.TheVariants as want
use Rattle.session_core.specs.declared.event.Event.{Event}
use Rattle.session_core.specs.declared.event.Event.TheVariants as event
use Rattle.session_core.specs.declared.machine.Pending.{Pending}
use Rattle.session_core.specs.declared.machine.Pending.TheVariants as pending
use Rattle.session_core.specs.declared.replies.Awaited.{Awaited}
use Rattle.session_core.specs.declared.replies.Awaited.TheVariants as awaited
use Rattle.session_core.specs.Acts.{flagged_rows}
use Rattle.session_core.specs.Fronts.{front_by}
use Rattle.session_core.specs.Running.{Running, next_since}
use Rattle.session_core.specs.State.{Machine}
use Rattle.session_core.specs.Transitions.{Done}

-- ---- what is put

-- how many requests are among acts
abbrev pub requests_among : List Act → ℕ
requests_among [] = 0
requests_among (act.Reply to kind urgent payload ∷ acts) = requests_among acts
requests_among (act.Request payload no_reply ∷ acts) = 1 + requests_among acts
requests_among (act.Want want ∷ acts) = requests_among acts

-- whether all are requests
abbrev pub are_requests : List Act → Bool
are_requests [] = true
are_requests (act.Reply to kind urgent payload ∷ acts) = false
are_requests (act.Request payload no_reply ∷ acts) = are_requests acts
are_requests (act.Want want ∷ acts) = false

-- the first may be the reply that is due, if one is, and all others are requests
abbrev pub AreAnswers : Option ℕ → List Act → Type 0
AreAnswers due [] = Unit {0}
AreAnswers due (act.Reply to kind urgent payload ∷ acts) = (due ≡ Some to) × (is_reply kind ≡ true) × (are_requests acts ≡ true)
AreAnswers due (act.Request payload no_reply ∷ acts) = are_requests acts ≡ true
AreAnswers due (act.Want want ∷ acts) = ⊥

-- the number of the request whose reply is due once the awaited answer comes
abbrev pub due_with : Pending → Option ℕ
due_with pending.Nothing = None
due_with (pending.Feed asked) = Some asked.asker.number
due_with pending.More = None
due_with (pending.Bodies rows) = None
due_with (pending.Reply asker to) = Some asker.number

-- the number of the request whose reply is due at an event
abbrev pub due_at : Pending → Event → Option ℕ
due_at awaited (event.Whole message) = if is_request message.kind then Some message.number else None
due_at awaited (event.Idle front) = None
due_at awaited other = due_with awaited

-- a reply that is due stays due where an answer is awaited for it, and then nothing is put; else none is due
abbrev pub IsStillDue : Option ℕ → Done → Type 0
IsStillDue due done = (due_with done.after.pending ≡ None) ⊎ ((due_with done.after.pending ≡ due) × (done.acts ≡ []))

-- ---- what is wanted

-- the front of a feed's last look
abbrev pub feed_front : Option Running → ℕ
feed_front None = 0
feed_front (Some r) = r.front

-- the next look of a feed is from the front of its last one, by the feed's own options
abbrev pub IsNextLook : Option Running → Key → Options → Type 0
IsNextLook None since options = ⊥
IsNextLook (Some r) since options = (since ≡ next_since r) × (options ≡ r.options)

-- these rows are some of those that a feed has on offer, and these are its options
abbrev pub AreOnOffer : Option Running → Options → List Row → Type 0
AreOnOffer None options rows = ⊥
AreOnOffer (Some r) options rows = (options ≡ r.options) × ((flags : List Bool) × (rows ≡ flagged_rows (take r.batch r.rows) flags))

-- this is wanted for a request
abbrev pub IsWanted : Awaited → Want → Type 0
IsWanted (awaited.Asked proposed) (want.Ask offers) = Unit {0}
IsWanted awaited.Pushed (want.Propose revision) = Unit {0}
IsWanted awaited.Got (want.GetCheckpoint client) = Unit {0}
IsWanted awaited.Set (want.SetCheckpoint client rev body) = Unit {0}
IsWanted to other = ⊥

-- what is wanted is what is then awaited
abbrev pub WantsFor : Option Running → Pending → Option Want → Type 0
WantsFor feed pending.Nothing None = Unit {0}
WantsFor feed (pending.Feed asked) (Some (want.Feed since options)) = (since ≡ asked.since) × (options ≡ asked.options)
WantsFor feed pending.More (Some (want.Feed since options)) = IsNextLook feed since options
WantsFor feed (pending.Bodies rows) (Some (want.Bodies options wanted most)) = (wanted ≡ rows) × AreOnOffer feed options rows
WantsFor feed (pending.Reply asker to) (Some wanted) = IsWanted to wanted
WantsFor feed awaited wanted = ⊥

-- how many answers may still come before a message does
abbrev pub most_answers : Pending → ℕ
most_answers pending.Nothing = 0
most_answers (pending.Feed asked) = 1
most_answers pending.More = 1
most_answers (pending.Bodies rows) = 2
most_answers (pending.Reply asker to) = 1

-- whether an event is an answer
abbrev pub is_answer : Event → Bool
is_answer (event.Whole message) = false
is_answer (event.Idle front) = false
is_answer other = true

-- ---- what stays

-- no front is above this one
abbrev pub AreWithin : ℕ → List ℕ → Type 0
AreWithin most [] = Unit {0}
AreWithin most (front ∷ fronts) = (front ≤ most) × AreWithin most fronts

-- the user, the version and whether conflicts are off stay; the requests are counted; and no feed's look is past all fronts seen
pub record IsKept (m : Machine) (event : Event) (done : Done) : Type 0 where
  pub user : done.after.user ≡ m.user
  pub version : done.after.version ≡ m.version
  pub strict : done.after.strict ≡ m.strict
  pub requests : done.after.requests ≡ m.requests + requests_among done.acts
  pub front : (most : ℕ) → feed_front m.feed ≤ most → AreWithin most (front_by event) → feed_front done.after.feed ≤ most
