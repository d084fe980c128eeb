-- What an inbox remembers of the frames that came.
use Rattle.std.specs.Prelude.{◌≡◌, ℕ, ◌+◌, ◌-◌, max, Option, List, ◌∷◌, [], Result, Some, None, if◌then◌else◌}
use Rattle.std.specs.Ordering.{nat_cmp}
use Rattle.std.specs.FinSet as set
use Rattle.std.specs.FinMap as map
use Rattle.blip_frame.specs.Frame.{FrameParts}
use Rattle.blip_mux.specs.declared.inbox.Taken.{Taken}
use Rattle.blip_mux.specs.declared.inbox.TakeFault.{TakeFault}
use Rattle.blip_mux.specs.Begun.{Begun}
use Rattle.blip_mux.specs.Remembered.{InboxState}
use Rattle.blip_mux.specs.Joining.{Event, came, expected, Joined, answer_to, followed_by, is_request, is_reply, begun_or, with_frame, held_by, brought_by, frames_of, requests_in, is_awaited, held_in}

-- the state of an inbox to which nothing has come
abbrev pub new_inbox : InboxState
new_inbox = record { requests = 0; expected = set.empty; requests_begun = map.empty; replies_begun = map.empty; held = 0 }

-- a reply to the request of this number is expected from now on
abbrev pub expecting : InboxState → ℕ → InboxState
expecting s number = record s { expected = set.insert s.expected number }

-- messages that are not whole, once a frame of one of them was taken
abbrev pub begun_after : map.FinMap nat_cmp Begun → FrameParts → map.FinMap nat_cmp Begun
begun_after begun f = if f.more then map.insert begun f.number (with_frame (begun_or (map.get begun f.number) f) f) else map.remove begun f.number

-- what has arrived of the message that a frame is part of
abbrev pub so_far_at : InboxState → FrameParts → Option Begun
so_far_at s f = if is_request f.kind then map.get s.requests_begun f.number else map.get s.replies_begun f.number

-- what an inbox answers to a frame
abbrev pub answer_at : InboxState → FrameParts → Result Taken TakeFault
answer_at s f = answer_to s.requests (set.contains s.expected f.number) s.held (so_far_at s f) f

-- what messages that are not whole hold, once a frame was taken of one of which so much had come
abbrev pub held_after : ℕ → Option Begun → FrameParts → ℕ
held_after held so_far f = held - held_by so_far + (if f.more then held_by (Some (with_frame (begun_or so_far f) f)) else 0)

-- the state once a frame was taken
abbrev pub taken_after : InboxState → FrameParts → InboxState
taken_after s f =
    if is_request f.kind then record s { requests = max f.number s.requests; requests_begun = begun_after s.requests_begun f; held = held_after s.held (so_far_at s f) f }
    else if is_reply f.kind then record s { expected = (if f.more then s.expected else set.remove s.expected f.number); replies_begun = begun_after s.replies_begun f; held = held_after s.held (so_far_at s f) f }
    else s

-- what an inbox answers to events, one after another, up to the first fault
abbrev pub taken_from : InboxState → List Event → Joined
taken_from s [] = ([], None)
taken_from s (came f ∷ events) = followed_by (answer_at s f) (taken_from (taken_after s f) events)
taken_from s (expected number ∷ events) = taken_from (expecting s number) events

-- a state says what the events before it gave
pub record StandsFor (s : InboxState) (before : List Event) : Type 0 where
  pub requests : s.requests ≡ requests_in before
  pub awaited : (number : ℕ) → set.contains s.expected number ≡ is_awaited before number
  pub requests_begun : (number : ℕ) → map.get s.requests_begun number ≡ brought_by (frames_of is_request number before)
  pub replies_begun : (number : ℕ) → map.get s.replies_begun number ≡ brought_by (frames_of is_reply number before)
  pub held : s.held ≡ held_in before
