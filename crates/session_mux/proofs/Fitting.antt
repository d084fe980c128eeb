-- How many bytes a frame that is sent has.
use Rattle.std.proofs.Common.{◌≡◌, ◌≤◌, ◌<◌, ℕ, zero, suc, ◌+◌, ◌/◌, Bool, true, false, List, [], ◌∷◌, ◌++◌, length, Option, Some, None, Result, Ok, Err, refl, sym, ◌∙◌, subst, if◌then◌else◌, arith, inl, inr}
use Rattle.std.specs.Prelude.{option_map, IfOk, OnErr}
use Rattle.std.proofs.lemmas.Bool.{cases_lt, le-ltb, lt-ltb}
use Rattle.std.proofs.lemmas.List.{length-append, length-take}
use Rattle.blip_frame.specs.Varint.{varint_within, varint}
use Rattle.blip_frame.specs.Frame.{FrameParts, kind_number, flags_of, trailer, largest_written, spelling, value_after}
use Rattle.blip_frame.specs.declared.frame.Kind.{Kind}
use Rattle.blip_frame.specs.declared.frame.Kind.TheVariants as kinds
use Rattle.blip_mux.specs.Acknowledgements.{Acknowledgement}
use Rattle.blip_mux.specs.Sending.{Waiting, Sending, first_piece, chosen, picked_of, picked, Sends}
use Rattle.blip_mux.specs.declared.outbox.Next.{Next}
use Rattle.blip_mux.specs.declared.outbox.Next.TheVariants as nexts

within_fits : (k n : ℕ) → length (varint_within k n) ≤ k + 1
unfolding varint_within
within_fits zero n = omega arith
within_fits (suc k) n =
    elim (cases_lt n 128) [
      | inl small ↦ rw (lt-ltb n 128 small) (omega arith)
      | inr large ↦ rw (le-ltb n 128 large) (omega (arith, within_fits k (n / 128)))
    ]

varint_fits : (n : ℕ) → length (varint n) ≤ 10
unfolding varint
varint_fits n = within_fits 9 n

one_byte : (n : ℕ) → n < 128 → length (varint n) ≡ 1
unfolding varint varint_within
one_byte n small = rw (lt-ltb n 128 small) refl

kind_fits : (k : Kind) → kind_number k ≤ 5
kind_fits kinds.Msg = omega arith
kind_fits kinds.Rpy = omega arith
kind_fits kinds.Err = omega arith
kind_fits kinds.AckMsg = omega arith
kind_fits kinds.AckRpy = omega arith

mark_fits : (b : Bool) (n : ℕ) → (if b then n else 0) ≤ n
mark_fits true n = omega arith
mark_fits false n = omega arith

flags_fit : (f : FrameParts) → flags_of f < 128
flags_fit f = omega (arith, kind_fits f.kind, mark_fits f.urgent 16, mark_fits f.no_reply 32, mark_fits f.more 64)

trailer_fits : (k : Kind) (kept : ℕ) → length (trailer k kept) ≤ 4
trailer_fits kinds.Msg kept = omega arith
trailer_fits kinds.Rpy kept = omega arith
trailer_fits kinds.Err kept = omega arith
trailer_fits kinds.AckMsg kept = omega arith
trailer_fits kinds.AckRpy kept = omega arith

spelling_fits : (kept : ℕ) (f : FrameParts) → length f.payload ≤ largest_written → length (spelling kept f) ≤ 16399
spelling_fits kept f fits =
    omega (
      arith,
      fits,
      varint_fits f.number,
      one_byte (flags_of f) (flags_fit f),
      trailer_fits f.kind kept,
      length-append (varint f.number) (varint (flags_of f) ++ (f.payload ++ trailer f.kind kept)),
      length-append (varint (flags_of f)) (f.payload ++ trailer f.kind kept),
      length-append f.payload (trailer f.kind kept),
    )

-- the payload of the frame, where there is one, is of the size that is written
abbrev IsSmall : Option FrameParts → Type 0
IsSmall None = Unit {0}
IsSmall (Some f) = length f.payload ≤ largest_written

piece_small : (o : Option (Waiting × List Waiting)) → IsSmall (option_map (λ found. first_piece found.0) o)
piece_small None = tt
piece_small (Some found) = omega (arith, length-take largest_written found.0.rest)

picked_small : (acknowledgements : List Acknowledgement) (ws : List Waiting) → IsSmall (picked_of acknowledgements ws)
picked_small [] ws = piece_small (chosen ws)
picked_small (a ∷ acknowledgements) ws = omega (arith, varint_fits a.bytes)

sent_fits : (p : Option FrameParts) (next : Next) (before after : ℕ) (new : List ℕ) → IsSmall p → Sends p next before after [] new → length new ≤ 16399
sent_fits None nexts.Idle before after new small sends = rw sends.1 (omega arith)
sent_fits None nexts.Frame before after new small sends = absurd sends
sent_fits (Some f) nexts.Idle before after new small sends = absurd sends
sent_fits (Some f) nexts.Frame before after new small sends = subst (λ b. length b ≤ 16399) (sym sends.1) (spelling_fits (value_after before f) f small)

-- what a call for the next frame leaves in an empty buffer
fits : (s : Sending) (next : Next) (before after : ℕ) (new : List ℕ) → Sends (picked s) next before after [] new → length new ≤ 16399
fits s next before after new sends = sent_fits (picked s) next before after new (picked_small s.acknowledgements s.waiting) sends

-- the same whatever the call answers
pub fits_after : {E : Type 0} (A B : Type 0) (s : Sending) (r : Result Next E) (before after : ℕ) (old new : List ℕ) → old ≡ [] → IfOk r (λ next. Sends (picked s) next before after old new) → OnErr r (A × B × (new ≡ old))
    → length new ≤ 16399
fits_after A B s (Ok next) before after old new empty sends err = fits s next before after new (subst (λ o. Sends (picked s) next before after o new) empty sends)
fits_after A B s (Err e) before after old new empty sends err = subst (λ b. length b ≤ 16399) (sym (err.2 ∙ empty)) (omega arith)
