-- Frames read and written.
use Rattle.std.proofs.Common.{◌≡◌, ℕ, zero, suc, ◌+◌, ◌-◌, ◌*◌, ◌/◌, ◌%◌, ◌^◌, ◌<◌, ◌≤◌, Bool, true, false, cond, ltb, eqb, List, [], ◌∷◌, ◌++◌, length, take, drop, Option, Some, None, Result, Ok, Err, refl, sym, ap, subst, ◌∙◌, append_assoc, arith, inl, inr, ◌⊎◌}
use Rattle.std.specs.Int.{w32, bit_at, to_be_bytes, from_be_bytes}
use Rattle.std.specs.Int.Bits.{bit_xor, xor_lt}
use Rattle.std.specs.List.{flat_map}
use Rattle.std.proofs.lemmas.Bool.{ltb-false, le-ltb, eqb-true, eq-eqb, ne_eqb}
use Rattle.std.proofs.lemmas.List.{take_at, drop_at, take-append-drop, length-append, length-drop, append-nil}
use Rattle.std.proofs.lemmas.Nat.{be_bytes_4, from_be_bytes-to_be_bytes_4}
use Rattle.blip_frame.specs.declared.frame.Kind.{Kind}
use Rattle.blip_frame.specs.declared.frame.Kind.TheVariants as kinds
use Rattle.blip_frame.specs.declared.frame.FrameFault.{FrameFault}
use Rattle.blip_frame.specs.declared.frame.FrameFault.TheVariants as faults
use Rattle.blip_frame.specs.declared.varint.VarintFault.{VarintFault}
use Rattle.blip_frame.specs.Checksum.{polynomial, all_ones, after_bit, after_bits, byte_bits, checksum, checksum_after}
use Rattle.blip_frame.specs.Varint.{IsRead, number_at, varint}
use Rattle.blip_frame.specs.Frame.{FrameParts, kind_number, has_checksum, flags_of, trailer, largest_read, largest_written, IsMarkedAsKind, IsWritten, spelling, IsFrame, IsFrameFrom, IsFrameAfter, payload_sent_after, value_after, ◌>>=◌, header, kind_at, is_set, content_at, checksum_at, checked_at, frame_at, AreWrittenAfter, all_sent, with_first, with_front, frames_at}
use Rattle.blip_frame.proofs.Register.{checksum_after-checksum}
use Rattle.blip_frame.proofs.Varints.{IsBytes, IsBytes-drop, IsBytes-after, number_taken, number_again, varint_shortest, shortest_one, varint_read, numbers_apart}

-- ---- the value of a step that did not fail

bind_ok : {A B : Type 0} (r : Result A FrameFault) (f : A → Result B FrameFault) (y : B) → (r >>= f) ≡ Ok y → (x : A) × (r ≡ Ok x) × (f x ≡ Ok y)
bind_ok (Ok x) f y e = (x, refl, e)
bind_ok (Err d) f y e = absurd cc

-- a test that did not fail
guard_ok : {A : Type 0} (b : Bool) (d : FrameFault) (r : Result A FrameFault) (y : A) → cond b (Err d) r ≡ Ok y → (b ≡ false) × (r ≡ Ok y)
guard_ok true d r y e = absurd cc
guard_ok false d r y e = (refl, e)

-- which way a test went
chosen : {A : Type 0} (b : Bool) (x y z : A) → cond b x y ≡ z → ((b ≡ true) × (x ≡ z)) ⊎ ((b ≡ false) × (y ≡ z))
chosen true x y z e = inl (refl, e)
chosen false x y z e = inr (refl, e)

header_ok : (r : Result (ℕ × List ℕ) VarintFault) (n : ℕ) (rest : List ℕ) → header r ≡ Ok (n, rest) → r ≡ Ok (n, rest)
header_ok (Ok x) n rest e = let p : ◌≡◌ {A = ℕ × List ℕ} x (n, rest) = cc in ap (λ (y : ℕ × List ℕ). Ok y) p
header_ok (Err fault) n rest e = absurd cc

-- ---- the checksum fits

bit_below : (r bit : ℕ) → r < 2 ^ 32 → after_bit r bit < 2 ^ 32
bit_below r bit h = xor_lt 32 (r / 2) (polynomial * ((r + bit) % 2)) (omega arith) (odd ((r + bit) % 2) (omega arith)) where
  odd : (d : ℕ) → d < 2 → polynomial * d < 2 ^ 32
  odd zero lt = omega arith
  odd (suc zero) lt = omega arith
  odd (suc (suc d)) lt = absurd (omega arith)

bits_below : (r : ℕ) (bits : List ℕ) → r < 2 ^ 32 → after_bits r bits < 2 ^ 32
unfolding after_bits
bits_below r [] h = h
bits_below r (bit ∷ bits) h = bits_below (after_bit r bit) bits (bit_below r bit h)

pub checksum_after-below : (value : ℕ) (bytes : List ℕ) → value < 2 ^ 32 → checksum_after value bytes < 2 ^ 32
unfolding checksum_after
checksum_after-below value bytes h =
    xor_lt 32 all_ones (after_bits (bit_xor all_ones value) (flat_map byte_bits bytes)) (omega arith) (bits_below (bit_xor all_ones value) (flat_map byte_bits bytes) (xor_lt 32 all_ones value (omega arith) h))

pub checksum-below : (bytes : List ℕ) → checksum bytes < 2 ^ 32
unfolding checksum
checksum-below bytes = xor_lt 32 all_ones (after_bits all_ones (flat_map byte_bits bytes)) (omega arith) (bits_below all_ones (flat_map byte_bits bytes) (omega arith))

-- ---- flags

-- the flags of a kind with its marks
abbrev flags : Kind → Bool → Bool → Bool → ℕ
flags k u n m = kind_number k + cond u 16 0 + cond n 32 0 + cond m 64 0

abbrev Back : Kind → Bool → Bool → Bool → Type 0
Back k u n m = (kind_at (flags k u n m) ≡ Ok k) × (is_set (flags k u n m) 3 ≡ false) × (is_set (flags k u n m) 4 ≡ u) × (is_set (flags k u n m) 5 ≡ n) × (is_set (flags k u n m) 6 ≡ m)

each : (P : Bool → Bool → Bool → Type 0) → P true true true → P true true false → P true false true → P true false false → P false true true → P false true false → P false false true → P false false false → (u n m : Bool) → P u n m
each P a b c d e f g h true true true = a
each P a b c d e f g h true true false = b
each P a b c d e f g h true false true = c
each P a b c d e f g h true false false = d
each P a b c d e f g h false true true = e
each P a b c d e f g h false true false = f
each P a b c d e f g h false false true = g
each P a b c d e f g h false false false = h

-- flags that are written name the kind and the marks
flags_back : (k : Kind) (u n m : Bool) → Back k u n m
flags_back kinds.Msg u n m = each (Back kinds.Msg) (refl, refl, refl, refl, refl) (refl, refl, refl, refl, refl) (refl, refl, refl, refl, refl) (refl, refl, refl, refl, refl) (refl, refl, refl, refl, refl) (refl, refl, refl, refl, refl) (refl, refl, refl, refl, refl) (refl, refl, refl, refl, refl) u n m
flags_back kinds.Rpy u n m = each (Back kinds.Rpy) (refl, refl, refl, refl, refl) (refl, refl, refl, refl, refl) (refl, refl, refl, refl, refl) (refl, refl, refl, refl, refl) (refl, refl, refl, refl, refl) (refl, refl, refl, refl, refl) (refl, refl, refl, refl, refl) (refl, refl, refl, refl, refl) u n m
flags_back kinds.Err u n m = each (Back kinds.Err) (refl, refl, refl, refl, refl) (refl, refl, refl, refl, refl) (refl, refl, refl, refl, refl) (refl, refl, refl, refl, refl) (refl, refl, refl, refl, refl) (refl, refl, refl, refl, refl) (refl, refl, refl, refl, refl) (refl, refl, refl, refl, refl) u n m
flags_back kinds.AckMsg u n m = each (Back kinds.AckMsg) (refl, refl, refl, refl, refl) (refl, refl, refl, refl, refl) (refl, refl, refl, refl, refl) (refl, refl, refl, refl, refl) (refl, refl, refl, refl, refl) (refl, refl, refl, refl, refl) (refl, refl, refl, refl, refl) (refl, refl, refl, refl, refl) u n m
flags_back kinds.AckRpy u n m = each (Back kinds.AckRpy) (refl, refl, refl, refl, refl) (refl, refl, refl, refl, refl) (refl, refl, refl, refl, refl) (refl, refl, refl, refl, refl) (refl, refl, refl, refl, refl) (refl, refl, refl, refl, refl) (refl, refl, refl, refl, refl) (refl, refl, refl, refl, refl) u n m

kind_taken : (n : ℕ) (k : Kind) → kind_at n ≡ Ok k → (n ≤ 127) × (kind_number k ≡ n % 8)
kind_taken n k e =
    let g = guard_ok (ltb 127 n) (faults.BadType n) _ k e in
    (ltb-false 127 n g.0, low (n % 8) (faults.BadType n) k g.1)
  where
    kind_is : (j k : Kind) → ◌≡◌ {A = Result Kind FrameFault} (Ok j) (Ok k) → j ≡ k
    kind_is j k e = cc

    low : (i : ℕ) (d : FrameFault) (k : Kind) → cond (eqb i 0) (Ok kinds.Msg) (cond (eqb i 1) (Ok kinds.Rpy) (cond (eqb i 2) (Ok kinds.Err) (cond (eqb i 4) (Ok kinds.AckMsg) (cond (eqb i 5) (Ok kinds.AckRpy) (Err d))))) ≡ Ok k → kind_number k ≡ i
    low zero d k e = ap kind_number (sym (kind_is kinds.Msg k e))
    low (suc zero) d k e = ap kind_number (sym (kind_is kinds.Rpy k e))
    low (suc (suc zero)) d k e = ap kind_number (sym (kind_is kinds.Err k e))
    low (suc (suc (suc zero))) d k e = let no : ◌≡◌ {A = Result Kind FrameFault} (Err d) (Ok k) = e in absurd cc
    low (suc (suc (suc (suc zero)))) d k e = ap kind_number (sym (kind_is kinds.AckMsg k e))
    low (suc (suc (suc (suc (suc zero))))) d k e = ap kind_number (sym (kind_is kinds.AckRpy k e))
    low (suc (suc (suc (suc (suc (suc i)))))) d k e =
        let off : (j : ℕ) → j < 6 → eqb (suc (suc (suc (suc (suc (suc i)))))) j ≡ false = λ j lt. ne_eqb (suc (suc (suc (suc (suc (suc i)))))) j (λ h. absurd (omega arith)) in
        let no : ◌≡◌ {A = Result Kind FrameFault} (Err d) (Ok k) = rw (off 0 (omega arith), off 1 (omega arith), off 2 (omega arith), off 4 (omega arith), off 5 (omega arith)) at e in
        absurd cc

mark_value : (bit weight : ℕ) → bit < 2 → cond (eqb bit 1) weight 0 ≡ bit * weight
mark_value zero weight lt = omega arith
mark_value (suc zero) weight lt = omega arith
mark_value (suc (suc bit)) weight lt = absurd (omega arith)

not_set : (bit : ℕ) → bit < 2 → eqb bit 1 ≡ false → bit ≡ 0
not_set zero lt e = refl
not_set (suc zero) lt e = absurd cc
not_set (suc (suc bit)) lt e = absurd (omega arith)

-- flags that are read are those of the kind and the marks that they name
flags_taken : (n : ℕ) (k : Kind) → kind_at n ≡ Ok k → is_set n 3 ≡ false → flags k (is_set n 4) (is_set n 5) (is_set n 6) ≡ n
flags_taken n k e plain =
    let t = kind_taken n k e in
    let b3 : bit_at n 3 ≡ 0 = not_set (bit_at n 3) (omega arith) plain in
    let b4 = mark_value (bit_at n 4) 16 (omega arith) in
    let b5 = mark_value (bit_at n 5) 32 (omega arith) in
    let b6 = mark_value (bit_at n 6) 64 (omega arith) in
    omega (arith, t.0, t.1, b3, b4, b5, b6)

-- ---- the payload and what is behind it

abbrev Content : Type 0
Content = List ℕ × Option ℕ

abbrev holds : Content → Result Content FrameFault
holds x = Ok x

abbrev comes_to : ℕ → Result ℕ FrameFault
comes_to n = Ok n

abbrev content : Bool → List ℕ → Result Content FrameFault
content b rest = cond b (cond (ltb (length rest) 4) (Err faults.Short) (Ok (take (length rest - 4) rest, Some (from_be_bytes w32 (drop (length rest - 4) rest))))) (Ok (rest, None))

abbrev after_payload : Bool → ℕ → List ℕ → ℕ
after_payload b value payload = cond b (checksum_after value payload) value

abbrev behind : Bool → ℕ → List ℕ → List ℕ
behind b value payload = cond b (to_be_bytes w32 (after_payload b value payload)) []

record Taken (b : Bool) (value : ℕ) (rest : List ℕ) (x : Content) (after : ℕ) : Type 0 where
  pub size : length x.0 ≤ largest_read
  pub after_is : after ≡ after_payload b value x.0
  pub parts : rest ≡ x.0 ++ behind b value x.0

checked_ok : (value : ℕ) (x : Content) (after : ℕ) → checked_at value x.0 x.1 ≡ Ok after → (length x.0 ≤ largest_read) × (checksum_at value x.0 x.1 ≡ Ok after)
unfolding checked_at
checked_ok value x after e =
    let g = guard_ok (ltb largest_read (length x.0)) (faults.TooLong (length x.0)) (checksum_at value x.0 x.1) after e in
    (ltb-false largest_read (length x.0) g.0, g.1)

kept_ok : (value : ℕ) (payload : List ℕ) (kept after : ℕ) → checksum_at value payload (Some kept) ≡ Ok after → (kept ≡ checksum_after value payload) × (after ≡ kept)
kept_ok value payload kept after e =
    elim (chosen (eqb kept (checksum_after value payload)) (comes_to kept) (Err (faults.BadChecksum kept (checksum_after value payload))) (comes_to after) e) [
      | inl h ↦ (eqb-true kept (checksum_after value payload) h.0, let q = h.1 in cc)
      | inr h ↦ let q = h.1 in absurd cc
    ]

content_taken : (b : Bool) (value : ℕ) (rest : List ℕ) (x : Content) (after : ℕ) → IsBytes rest → content b rest ≡ Ok x → checked_at value x.0 x.1 ≡ Ok after → Taken b value rest x after
content_taken false value rest x after fits e f =
    let c = checked_ok value x after f in
    let p : ◌≡◌ {A = Content} (rest, None) x = cc in
    let first : rest ≡ x.0 = ap (λ (y : Content). y.0) p in
    let none : ◌≡◌ {A = Option ℕ} None x.1 = ap (λ (y : Content). y.1) p in
    let is : comes_to value ≡ comes_to after = ap (checksum_at value x.0) none ∙ c.1 in
    record { size = c.0; after_is = cc; parts = first ∙ sym (append-nil x.0) }
content_taken true value rest x after fits e f =
    let c = checked_ok value x after f in
    let g = guard_ok (ltb (length rest) 4) faults.Short (holds (take (length rest - 4) rest, Some (from_be_bytes w32 (drop (length rest - 4) rest)))) x e in
    let long : 4 ≤ length rest = ltb-false (length rest) 4 g.0 in
    let n = length rest - 4 in
    let last = drop n rest in
    let p : ◌≡◌ {A = Content} (take n rest, Some (from_be_bytes w32 last)) x = let q = g.1 in cc in
    let some : Some (from_be_bytes w32 last) ≡ x.1 = ap (λ (y : Content). y.1) p in
    let first : take n rest ≡ x.0 = ap (λ (y : Content). y.0) p in
    let k = kept_ok value x.0 (from_be_bytes w32 last) after (ap (checksum_at value x.0) some ∙ c.1) in
    let back : to_be_bytes w32 (from_be_bytes w32 last) ≡ last = be_bytes_4 last _ (omega (arith, length-drop n rest)) (IsBytes-drop n rest fits) refl in
    record {
      size = c.0;
      after_is = k.1 ∙ k.0;
      parts = sym (take-append-drop n rest) ∙ ap (λ (y : List ℕ). y ++ last) first ∙ ap (λ (y : List ℕ). x.0 ++ y) (sym back ∙ ap (to_be_bytes w32) k.0);
    }

abbrev kept_of : Bool → ℕ → List ℕ → Option ℕ
kept_of b value payload = cond b (Some (after_payload b value payload)) None

content_again : (b : Bool) (value : ℕ) (payload : List ℕ) → value < 2 ^ 32 → content b (payload ++ behind b value payload) ≡ Ok (payload, kept_of b value payload)
content_again false value payload fits = ap (λ (p : List ℕ). holds (p, None)) (append-nil payload)
content_again true value payload fits =
    let kept = checksum_after value payload in
    let last = to_be_bytes w32 kept in
    let four : length last ≡ 4 = refl in
    let n : length payload ≡ length (payload ++ last) - 4 = omega (arith, length-append payload last, four) in
    let back : from_be_bytes w32 last ≡ kept = from_be_bytes-to_be_bytes_4 kept (checksum_after-below value payload fits) in
    rw (le-ltb (length (payload ++ last)) 4 (omega (arith, length-append payload last, four)), take_at payload last (length (payload ++ last) - 4) n, drop_at payload last (length (payload ++ last) - 4) n, back) refl

checked_again : (b : Bool) (value : ℕ) (payload : List ℕ) → length payload ≤ largest_read → checked_at value payload (kept_of b value payload) ≡ Ok (after_payload b value payload)
unfolding checked_at
checked_again false value payload size = rw (le-ltb largest_read (length payload) size) refl
checked_again true value payload size = rw (le-ltb largest_read (length payload) size, eq-eqb (checksum_after value payload) (checksum_after value payload) refl) refl

-- ---- the whole frame

abbrev made : ℕ → ℕ → Kind → List ℕ → FrameParts
made number flags kind payload = record { number = number; kind = kind; urgent = is_set flags 4; no_reply = is_set flags 5; more = is_set flags 6; payload = payload }

abbrev Whole : Type 0
Whole = FrameParts × ℕ

abbrev whole : Whole → Result Whole FrameFault
whole x = Ok x

abbrev from_content : ℕ → ℕ → ℕ → Kind → Content → Result Whole FrameFault
from_content value number flags kind x = checked_at value x.0 x.1 >>= λ after. Ok (made number flags kind x.0, after)

abbrev plain_content : ℕ → List ℕ → Kind → Result Content FrameFault
plain_content flags rest kind = cond (is_set flags 3) (Err faults.Compressed) (content_at kind rest)

abbrev from_flags : ℕ → ℕ → ℕ × List ℕ → Result Whole FrameFault
from_flags value number flags = kind_at flags.0 >>= λ kind. plain_content flags.0 flags.1 kind >>= from_content value number flags.0 kind

abbrev from_number : ℕ → ℕ × List ℕ → Result Whole FrameFault
from_number value number = header (number_at number.1) >>= from_flags value number.0

frame_at-steps : (value : ℕ) (bytes : List ℕ) → frame_at value bytes ≡ (header (number_at bytes) >>= from_number value)
unfolding frame_at
frame_at-steps value bytes = refl

whole_is : (x y : Whole) → whole x ≡ whole y → x ≡ y
whole_is x y e = cc

joined : (value : ℕ) (bytes rest_1 rest : List ℕ) (number n : ℕ) (kind : Kind) (x : Content) (after : ℕ) → IsBytes bytes → number_at bytes ≡ Ok (number, rest_1) → number_at rest_1 ≡ Ok (n, rest) → kind_at n ≡ Ok kind → is_set n 3 ≡ false
    → content_at kind rest ≡ Ok x → checked_at value x.0 x.1 ≡ Ok after → IsFrameFrom value bytes (made number n kind x.0) × (after ≡ value_after value (made number n kind x.0))
joined value bytes rest_1 rest number n kind x after fits e_1 e_2 e_3 plain e_4 e_5 =
    let first = number_taken bytes number rest_1 fits e_1 in
    let fits_1 = IsBytes-after first.0 rest_1 bytes first.2 fits in
    let second = number_taken rest_1 n rest fits_1 e_2 in
    let fits_2 = IsBytes-after second.0 rest rest_1 second.2 fits_1 in
    let t = content_taken (has_checksum kind) value rest x after fits_2 e_4 e_5 in
    let flagged = flags_taken n kind e_3 plain in
    let last = x.0 ++ behind (has_checksum kind) value x.0 in (
      record {
        number = first.0;
        flags = second.0;
        number_read = first.1;
        flags_read = subst (IsRead second.0) {y = flags_of (made number n kind x.0)} (sym flagged) second.1;
        size = t.size;
        spelled = first.2 ∙ ap (λ (w : List ℕ). first.0 ++ w) {y = second.0 ++ last} (second.2 ∙ ap (λ (w : List ℕ). second.0 ++ w) t.parts);
      },
      t.after_is,
    )

-- what is read is a frame
pub frame_taken : (value : ℕ) (bytes : List ℕ) (f : FrameParts) (after : ℕ) → IsBytes bytes → frame_at value bytes ≡ Ok (f, after) → IsFrameFrom value bytes f × (after ≡ value_after value f)
frame_taken value bytes f after fits e =
    let a = bind_ok (header (number_at bytes)) (from_number value) (f, after) (sym (frame_at-steps value bytes) ∙ e) in
    let b = bind_ok (header (number_at a.0.1)) (from_flags value a.0.0) (f, after) a.2 in
    let k = bind_ok (kind_at b.0.0) (λ kind. plain_content b.0.0 b.0.1 kind >>= from_content value a.0.0 b.0.0 kind) (f, after) b.2 in
    let x = bind_ok (plain_content b.0.0 b.0.1 k.0) (from_content value a.0.0 b.0.0 k.0) (f, after) k.2 in
    let p = guard_ok (is_set b.0.0 3) faults.Compressed (content_at k.0 b.0.1) x.0 x.1 in
    let y = bind_ok (checked_at value x.0.0 x.0.1) (λ after. whole (made a.0.0 b.0.0 k.0 x.0.0, after)) (f, after) x.2 in
    let is = joined value bytes a.0.1 b.0.1 a.0.0 b.0.0 k.0 x.0 y.0 fits (header_ok (number_at bytes) a.0.0 a.0.1 a.1) (header_ok (number_at a.0.1) b.0.0 b.0.1 b.1) k.1 p.0 p.1 y.1 in
    let made_1 = made a.0.0 b.0.0 k.0 x.0.0 in
    subst (λ (w : Whole). IsFrameFrom value bytes w.0 × (w.1 ≡ value_after value w.0)) {x = (made_1, y.0)} (whole_is (made_1, y.0) (f, after) y.2) is

-- what is a frame is read
pub frame_again : (value : ℕ) (bytes : List ℕ) (f : FrameParts) → value < 2 ^ 32 → IsFrameFrom value bytes f → frame_at value bytes ≡ Ok (f, value_after value f)
frame_again value bytes f fits is =
    let last = f.payload ++ trailer f.kind (value_after value f) in
    let back = flags_back f.kind f.urgent f.no_reply f.more in
    let n = flags_of f in
    let one : header (number_at (is.number ++ (is.flags ++ last))) ≡ Ok (f.number, is.flags ++ last) = ap header (number_again is.number f.number (is.flags ++ last) is.number_read) in
    let two : header (number_at (is.flags ++ last)) ≡ Ok (n, last) = ap header (number_again is.flags n last is.flags_read) in
    let three : plain_content n last f.kind ≡ Ok (f.payload, kept_of (has_checksum f.kind) value f.payload) = rw back.1 (content_again (has_checksum f.kind) value f.payload fits) in
    let four = checked_again (has_checksum f.kind) value f.payload is.size in
    let kept = kept_of (has_checksum f.kind) value f.payload in
    frame_at-steps value bytes
    ∙ ap (λ (w : List ℕ). header (number_at w) >>= from_number value) is.spelled
    ∙ ap (λ (r : Result (ℕ × List ℕ) FrameFault). r >>= from_number value) one
    ∙ ap (λ (r : Result (ℕ × List ℕ) FrameFault). r >>= from_flags value f.number) two
    ∙ ap (λ (r : Result Kind FrameFault). r >>= λ kind. plain_content n last kind >>= from_content value f.number n kind) back.0
    ∙ ap (λ (r : Result Content FrameFault). r >>= from_content value f.number n f.kind) three
    ∙ ap (λ (r : Result ℕ FrameFault). r >>= λ after. whole (made f.number n f.kind f.payload, after)) four
    ∙ made_is n f (value_after value f) back.2 back.3 back.4
  where
    made_is : (n : ℕ) (f : FrameParts) (after : ℕ) → is_set n 4 ≡ f.urgent → is_set n 5 ≡ f.no_reply → is_set n 6 ≡ f.more → whole (made f.number n f.kind f.payload, after) ≡ whole (f, after)
    made_is n f after u r m = rw (u, r, m) refl

-- ---- what is sent so far

pub value_after-checksum : (sent : List ℕ) (f : FrameParts) → value_after (checksum sent) f ≡ checksum (payload_sent_after sent f)
value_after-checksum sent f = by (has_checksum f.kind) where
  by : (b : Bool) → cond b (checksum_after (checksum sent) f.payload) (checksum sent) ≡ checksum (cond b (sent ++ f.payload) sent)
  by true = checksum_after-checksum sent f.payload
  by false = refl

pub frame_from : (sent : List ℕ) (value : ℕ) (bytes : List ℕ) (f : FrameParts) → value ≡ checksum sent → IsFrameFrom value bytes f → IsFrameAfter sent bytes f
frame_from sent value bytes f e is = subst (λ (v : ℕ). IsFrame v bytes f) (ap (λ (v : ℕ). value_after v f) e ∙ value_after-checksum sent f) is

pub frame_sent : (sent : List ℕ) (value : ℕ) (bytes : List ℕ) (f : FrameParts) → value ≡ checksum sent → IsFrameAfter sent bytes f → IsFrameFrom value bytes f
frame_sent sent value bytes f e is = subst (λ (v : ℕ). IsFrame v bytes f) (sym (ap (λ (v : ℕ). value_after v f) e ∙ value_after-checksum sent f)) is

-- ---- what is written

pub flags_below : (f : FrameParts) → flags_of f < 2 ^ 64
flags_below f = omega (arith, (kind_taken (flags_of f) f.kind (flags_back f.kind f.urgent f.no_reply f.more).0).0)

-- the spelling is a written frame
pub spelling_written : (kept : ℕ) (f : FrameParts) → f.number < 2 ^ 64 → length f.payload ≤ largest_written → IsMarkedAsKind f → IsWritten kept (spelling kept f) f
spelling_written kept f below size marked = record {
  number = varint f.number;
  flags = varint (flags_of f);
  number_shortest = varint_shortest f.number below;
  number_below = below;
  flags_shortest = varint_shortest (flags_of f) (flags_below f);
  size = size;
  marked = marked;
  spelled = refl;
}

-- and there is no other
pub written_spelling : (kept : ℕ) (bytes : List ℕ) (f : FrameParts) → IsWritten kept bytes f → bytes ≡ spelling kept f
written_spelling kept bytes f w =
    let last = f.payload ++ trailer f.kind kept in
    let number = shortest_one w.number f.number w.number_below w.number_shortest in
    let flagged = shortest_one w.flags (flags_of f) (flags_below f) w.flags_shortest in
    w.spelled ∙ ap (λ (x : List ℕ). x ++ (w.flags ++ last)) number ∙ ap (λ (x : List ℕ). varint f.number ++ (x ++ last)) flagged

-- a written frame is a frame
pub written_frame : (kept : ℕ) (bytes : List ℕ) (f : FrameParts) → IsWritten kept bytes f → IsFrame kept bytes f
written_frame kept bytes f w = record {
  number = varint f.number;
  flags = varint (flags_of f);
  number_read = varint_read f.number w.number_below;
  flags_read = varint_read (flags_of f) (flags_below f);
  size = omega (arith, w.size);
  spelled = written_spelling kept bytes f w;
}

-- ---- laws

pub read_again : (sent bytes : List ℕ) (f : FrameParts) → IsFrameAfter sent bytes f → frame_at (checksum sent) bytes ≡ Ok (f, checksum (payload_sent_after sent f))
read_again sent bytes f is =
    let from : IsFrameFrom (checksum sent) bytes f = subst (λ (v : ℕ). IsFrame v bytes f) (sym (value_after-checksum sent f)) is in
    frame_again (checksum sent) bytes f (checksum-below sent) from ∙ ap (λ (v : ℕ). whole (f, v)) (value_after-checksum sent f)

pub one_frame : (sent bytes : List ℕ) (f g : FrameParts) → IsFrameAfter sent bytes f → IsFrameAfter sent bytes g → f ≡ g
one_frame sent bytes f g p q =
    ap (λ (w : Whole). w.0) (whole_is (f, checksum (payload_sent_after sent f)) (g, checksum (payload_sent_after sent g)) (sym (read_again sent bytes f p) ∙ read_again sent bytes g q))

pub prefix_alike : (j k : ℕ) (a b more : List ℕ) (f g : FrameParts) → IsFrame j a f → IsFrame k b g → a ++ more ≡ b → (f.number ≡ g.number) × (flags_of f ≡ flags_of g)
prefix_alike j k a b more f g p q e =
    let p_last = f.payload ++ trailer f.kind j in
    let q_last = g.payload ++ trailer g.kind k in
    let parts : p.number ++ (p.flags ++ (p_last ++ more)) ≡ q.number ++ (q.flags ++ q_last) =
    ap (λ (w : List ℕ). p.number ++ w) (sym (append_assoc p.flags p_last more)) ∙ sym (append_assoc p.number (p.flags ++ p_last) more) ∙ ap (λ (w : List ℕ). w ++ more) (sym p.spelled) ∙ e ∙ q.spelled in
    let first = numbers_apart p.number q.number (p.flags ++ (p_last ++ more)) (q.flags ++ q_last) f.number g.number p.number_read q.number_read parts in
    let second = numbers_apart p.flags q.flags (p_last ++ more) q_last (flags_of f) (flags_of g) p.flags_read q.flags_read first.1 in
    (first.0, second.0)

pub direction_again : (sent : List ℕ) (texts rest : List (List ℕ)) (frames : List FrameParts) → AreWrittenAfter sent texts frames → frames_at (checksum sent) (texts ++ rest) ≡ with_front frames (frames_at (checksum (all_sent sent frames)) rest)
direction_again sent [] rest [] h = refl
direction_again sent [] rest (f ∷ frames) h = absurd h
direction_again sent (bytes ∷ texts) rest [] h = absurd h
direction_again sent (bytes ∷ texts) rest (f ∷ frames) h =
    let here = read_again sent bytes f (written_frame (checksum (payload_sent_after sent f)) bytes f h.0) in
    ap (λ (r : Result Whole FrameFault). r >>= λ found. with_first found.0 (frames_at found.1 (texts ++ rest))) here
    ∙ ap (with_first f) (direction_again (payload_sent_after sent f) texts rest frames h.1)
