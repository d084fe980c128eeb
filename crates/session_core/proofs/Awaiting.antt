-- An answer to which a request is replied is awaited for that alone.
use Rattle.std.proofs.Common.{◌≡◌, Bool, true, false, Option}
use Rattle.std.proofs.lemmas.Bool.{false≢true}
use Rattle.session_core.specs.declared.event.Event.{Event}
use Rattle.session_core.specs.declared.event.Event.TheVariants as event
use Rattle.session_core.specs.declared.machine.Pending.{Pending}
use Rattle.session_core.specs.declared.machine.Pending.TheVariants as pending
use Rattle.session_core.specs.Running.{Running}
use Rattle.session_core.specs.State.{AwaitsBy, IsReply}

-- whether a request is replied to by an event
abbrev pub is_replied : Event → Bool
is_replied (event.Asked answer) = true
is_replied (event.Judged outcome) = true
is_replied (event.Got kept) = true
is_replied (event.Set answer) = true
is_replied other = false

pub awaits_reply : (feed : Option Running) (p : Pending) (e : Event) → is_replied e ≡ true → AwaitsBy feed p e → IsReply p
awaits_reply feed pending.Nothing (event.Asked answer) is a = absurd a
awaits_reply feed (pending.Feed asked) (event.Asked answer) is a = absurd a
awaits_reply feed pending.More (event.Asked answer) is a = absurd a
awaits_reply feed (pending.Bodies rows) (event.Asked answer) is a = absurd a
awaits_reply feed (pending.Reply asker to) (event.Asked answer) is a = tt
awaits_reply feed pending.Nothing (event.Judged outcome) is a = absurd a
awaits_reply feed (pending.Feed asked) (event.Judged outcome) is a = absurd a
awaits_reply feed pending.More (event.Judged outcome) is a = absurd a
awaits_reply feed (pending.Bodies rows) (event.Judged outcome) is a = absurd a
awaits_reply feed (pending.Reply asker to) (event.Judged outcome) is a = tt
awaits_reply feed pending.Nothing (event.Got kept) is a = absurd a
awaits_reply feed (pending.Feed asked) (event.Got kept) is a = absurd a
awaits_reply feed pending.More (event.Got kept) is a = absurd a
awaits_reply feed (pending.Bodies rows) (event.Got kept) is a = absurd a
awaits_reply feed (pending.Reply asker to) (event.Got kept) is a = tt
awaits_reply feed pending.Nothing (event.Set answer) is a = absurd a
awaits_reply feed (pending.Feed asked) (event.Set answer) is a = absurd a
awaits_reply feed pending.More (event.Set answer) is a = absurd a
awaits_reply feed (pending.Bodies rows) (event.Set answer) is a = absurd a
awaits_reply feed (pending.Reply asker to) (event.Set answer) is a = tt
awaits_reply feed p (event.Whole message) is a = absurd (false≢true is)
awaits_reply feed p (event.Idle front) is a = absurd (false≢true is)
awaits_reply feed p (event.Fed fed) is a = absurd (false≢true is)
awaits_reply feed p (event.Bodies bodies) is a = absurd (false≢true is)
