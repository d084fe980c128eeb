-- The frames that go out.
use Rattle.std.specs.Prelude.{◌≡◌, ℕ, ◌&&◌, not, List, [], ◌∷◌, ◌++◌, map, Option, Some, None, if◌then◌else◌}
use Rattle.sg_outside.specs.Wire.{Traffic, next_of, after_next}
use Rattle.sg_outside.specs.declared.sink.Gave.{Gave}
use Rattle.sg_outside.specs.declared.sink.Gave.TheVariants as gave
use Rattle.sg_outside.specs.declared.wire.Got.{Got}
use Rattle.blip_frame.specs.Checksum.{checksum}
use Rattle.blip_frame.specs.Frame.{FrameParts, AreWrittenAfter, all_sent}
use Rattle.blip_mux.specs.declared.message.Message.{Message}
use Rattle.blip_mux.specs.Joining.{is_request}
use Rattle.blip_mux.specs.Remembered.{InboxState}
use Rattle.blip_mux.specs.InboxStates.{expecting}

-- the texts are these frames, one after another, in a direction whose checksum goes from the one to the other
abbrev pub AreWrittenFrom : ℕ → List FrameParts → List (List ℕ) → ℕ → Type 0
AreWrittenFrom before frames texts after =
    (sent : List ℕ) → before ≡ checksum sent → AreWrittenAfter sent texts frames × (after ≡ checksum (all_sent sent frames))

-- these results come next, one after another, from what is still to come, of which this is left
abbrev pub AreNext : List Got → List Got → List Got → Type 0
AreNext coming [] left = left ≡ coming
AreNext coming (g ∷ got) left = (g ≡ next_of coming) × AreNext (after_next coming) got left

-- what sending answered: for each frame that was sent that it was, and then these failures
abbrev pub answered : List (List ℕ) → List Gave → List Gave
answered sent failed = map (λ _. gave.Done) sent ++ failed

-- the wire, where it records, records these further results, which came next, these further frames, and that after them so many sendings failed; what its line recorded stays
abbrev pub Records : Option Traffic → List Got → List (List ℕ) → List Gave → Option Traffic → Type 0
Records None got sent failed after = after ≡ None
Records (Some before) got sent failed after =
    (t : Traffic) × (after ≡ Some t) × (t.got ≡ before.got ++ got) × (t.sent ≡ before.sent ++ sent)
    × (t.gave ≡ before.gave ++ answered sent failed) × (t.line ≡ before.line) × AreNext before.coming got t.coming

-- an inbox once messages were put: the reply to each request that wants one is expected
abbrev pub expecting_by : Message → InboxState → InboxState
expecting_by m s = if is_request m.kind && not m.no_reply then expecting s m.number else s

abbrev pub expecting_all : List Message → InboxState → InboxState
expecting_all [] s = s
expecting_all (m ∷ messages) s = expecting_all messages (expecting_by m s)
