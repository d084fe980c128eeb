-- Frames that have room, and frames that have none.
use Rattle.std.proofs.Common.{◌≡◌, ℕ, ◌+◌, ◌-◌, Bool, true, false, ◌&&◌, cond, ltb, List, ◌++◌, length, Result, Ok, Err, Some, None, refl, sym, ap, ◌∙◌, arith}
use Rattle.std.specs.Prelude.{Option}
use Rattle.std.specs.FinSet as set
use Rattle.std.proofs.lemmas.List.{length-append}
use Rattle.blip_frame.specs.Frame.{FrameParts, has_checksum}
use Rattle.blip_frame.specs.Payload.{payload_at}
use Rattle.blip_frame.specs.Props.{Pair}
use Rattle.blip_frame.specs.Varint.{number_at}
use Rattle.blip_frame.specs.declared.payload.PayloadFault.{PayloadFault}
use Rattle.blip_mux.specs.declared.inbox.Taken.{Taken}
use Rattle.blip_mux.specs.declared.inbox.TakeFault.{TakeFault}
use Rattle.blip_mux.specs.declared.inbox.TakeFault.TheVariants as faults
use Rattle.blip_mux.specs.Begun.{Begun}
use Rattle.blip_mux.specs.Remembered.{InboxState}
use Rattle.blip_mux.specs.InboxStates.{held_after, so_far_at, answer_at}
use Rattle.blip_mux.specs.Joining.{longest_message, most_held, begun_or, with_frame, held_by, with_fault, read_as, part_by, whole, given_by, within, may_come, acknowledged, count_in, IsEarly}
use Rattle.blip_mux.specs.inner.Room.{bytes_come, held_for, with_payload, room_for}

-- a frame that gives something gives what one does that has room
pub inside : (held : ℕ) (o : Option Begun) (f : FrameParts) (taken : Taken) → within held o f ≡ Ok taken → given_by (begun_or o f) f ≡ Ok taken
inside held o f taken =
    go (ltb longest_message (length ((begun_or o f).bytes ++ f.payload))) (f.more && ltb most_held (held - held_by o + held_by (Some (with_frame (begun_or o f) f)))) where
      go : (long full : Bool) → cond long (Err (faults.TooLong f.number)) (cond full (Err (faults.Full f.number)) (given_by (begun_or o f) f)) ≡ Ok taken → given_by (begun_or o f) f ≡ Ok taken
      go true full e = absurd cc
      go false true e = absurd cc
      go false false e = e

-- ---- by the numbers alone

bytes_or : (o : Option Begun) (f : FrameParts) → length ((begun_or o f).bytes ++ f.payload) ≡ with_payload (bytes_come o) f
bytes_or None f = omega arith
bytes_or (Some b) f = length-append b.bytes f.payload

held_is : (o : Option Begun) → held_by o ≡ held_for (bytes_come o)
held_is None = refl
held_is (Some b) = refl

-- what is held by a message that has more to come
then_held : (o : Option Begun) (f : FrameParts) → held_by (Some (with_frame (begun_or o f) f)) ≡ with_payload (bytes_come o) f + 64
then_held o f = ap (λ (n : ℕ). n + 64) (bytes_or o f)

abbrev within_so : Bool → Bool → Begun → FrameParts → Result Taken TakeFault
within_so long full b f = cond long (Err (faults.TooLong f.number)) (cond (f.more && full) (Err (faults.Full f.number)) (given_by b f))

abbrev is_long : Option Begun → FrameParts → Bool
is_long o f = ltb longest_message (with_payload (bytes_come o) f)

abbrev is_full : ℕ → Option Begun → FrameParts → Bool
is_full held o f = ltb most_held (held - held_for (bytes_come o) + (with_payload (bytes_come o) f + 64))

within_is : (held : ℕ) (o : Option Begun) (f : FrameParts) → within held o f ≡ within_so (is_long o f) (is_full held o f) (begun_or o f) f
within_is held o f =
    ap (λ (n : ℕ). within_so (ltb longest_message n) (ltb most_held (held - held_by o + held_by (Some (with_frame (begun_or o f) f)))) (begun_or o f) f) (bytes_or o f)
    ∙ ap (λ (n : ℕ). within_so (is_long o f) (ltb most_held (held - n + held_by (Some (with_frame (begun_or o f) f)))) (begun_or o f) f) (held_is o)
    ∙ ap (λ (n : ℕ). within_so (is_long o f) (ltb most_held (held - held_for (bytes_come o) + n)) (begun_or o f) f) (then_held o f)

then_is : (held : ℕ) (o : Option Begun) (f : FrameParts) → held_after held o f ≡ held - held_for (bytes_come o) + cond f.more (with_payload (bytes_come o) f + 64) 0
then_is held o f =
    ap (λ (n : ℕ). held - n + cond f.more (held_by (Some (with_frame (begun_or o f) f))) 0) (held_is o)
    ∙ ap (λ (n : ℕ). held - held_for (bytes_come o) + cond f.more n 0) (then_held o f)

so_room : (long full : Bool) (first second : TakeFault) (given : Result Taken TakeFault) (n h : ℕ) (answer : Result Taken TakeFault) → answer ≡ cond long (Err first) (cond full (Err second) given)
    → cond long (Err first) (cond full (Err second) (Ok n)) ≡ Ok h → (answer ≡ given) × (h ≡ n)
so_room true full first second given n h answer is e = absurd cc
so_room false true first second given n h answer is e = absurd cc
so_room false false first second given n h answer is e = let same : h ≡ n = cc in (is, same)

so_none : (long full : Bool) (first second : TakeFault) (given : Result Taken TakeFault) (n : ℕ) (fault : TakeFault) (answer : Result Taken TakeFault) → answer ≡ cond long (Err first) (cond full (Err second) given)
    → cond long (Err first) (cond full (Err second) (Ok n)) ≡ Err fault → answer ≡ Err fault
so_none true full first second given n fault answer is e = let same : first ≡ fault = cc in is ∙ ap (λ (x : TakeFault). Err x) same
so_none false true first second given n fault answer is e = let same : second ≡ fault = cc in is ∙ ap (λ (x : TakeFault). Err x) same
so_none false false first second given n fault answer is e = absurd cc

-- where there is room
pub has_room : (held : ℕ) (o : Option Begun) (f : FrameParts) (h : ℕ) → room_for held (bytes_come o) f ≡ Ok h → (within held o f ≡ given_by (begun_or o f) f) × (h ≡ held_after held o f)
has_room held o f h e =
    let so = so_room (is_long o f) (f.more && is_full held o f) (faults.TooLong f.number) (faults.Full f.number) (given_by (begun_or o f) f) (held - held_for (bytes_come o) + cond f.more (with_payload (bytes_come o) f + 64) 0) h
    (within held o f) (within_is held o f) e in
    (so.0, so.1 ∙ sym (then_is held o f))

-- where there is none
pub has_none : (held : ℕ) (o : Option Begun) (f : FrameParts) (fault : TakeFault) → room_for held (bytes_come o) f ≡ Err fault → within held o f ≡ Err fault
has_none held o f fault e =
    so_none (is_long o f) (f.more && is_full held o f) (faults.TooLong f.number) (faults.Full f.number) (given_by (begun_or o f) f) (held - held_for (bytes_come o) + cond f.more (with_payload (bytes_come o) f + 64) 0) fault
    (within held o f) (within_is held o f) e

-- ---- what a frame gives that has room is never an early fault

late : (fault : TakeFault) (why : PayloadFault) → IsEarly fault → faults.Payload why ≡ fault → ⊥
late (faults.OutOfOrder number) why early e = absurd cc
late (faults.TooLong number) why early e = absurd cc
late (faults.Full number) why early e = absurd cc
late (faults.Payload other) why early e = early
late faults.BadAckPayload why early e = early
late faults.Memory why early e = early

given_so : (more : Bool) (b : Begun) (f : FrameParts) (fault : TakeFault) (read : Result (List Pair × List ℕ) PayloadFault) → IsEarly fault
    → cond more (Ok (part_by b f)) (whole (read_as f.number b (with_fault read))) ≡ Err fault → ⊥
given_so true b f fault read early e = absurd cc
given_so false b f fault (Ok read) early e = absurd cc
given_so false b f fault (Err why) early e = late fault why early cc

pub given_late : (b : Begun) (f : FrameParts) (fault : TakeFault) → IsEarly fault → given_by b f ≡ Err fault → ⊥
given_late b f fault early e = given_so f.more b f fault (payload_at (b.bytes ++ f.payload)) early e

-- a frame that may come and has room has no early fault
pub no_early : (s : InboxState) (f : FrameParts) (fault : TakeFault) (h : ℕ) → has_checksum f.kind ≡ true → may_come s.requests (set.contains s.expected f.number) (so_far_at s f) f ≡ true
    → room_for s.held (bytes_come (so_far_at s f)) f ≡ Ok h → IsEarly fault → answer_at s f ≡ Err fault → ⊥
no_early s f fault h carried may room early e =
    let o = so_far_at s f in
    let is : answer_at s f ≡ given_by (begun_or o f) f =
    ap (λ (b : Bool). cond b (cond (may_come s.requests (set.contains s.expected f.number) o f) (within s.held o f) (Err (faults.OutOfOrder f.number))) (acknowledged f (count_in (number_at f.payload)))) carried
    ∙ ap (λ (b : Bool). cond b (within s.held o f) (Err (faults.OutOfOrder f.number))) may
    ∙ (has_room s.held o f h room).0 in
    given_late (begun_or o f) f fault early (sym is ∙ e)
