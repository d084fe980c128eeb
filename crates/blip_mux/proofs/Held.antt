-- What messages hold that are not whole, as frames come.
use Rattle.std.proofs.Common.{◌≡◌, ◌≢◌, ℕ, zero, suc, ◌+◌, ◌-◌, ◌<◌, ◌≤◌, Bool, true, false, ◌&&◌, cond, eqb, List, [], ◌∷◌, Some, refl, sym, ap, subst, ◌∙◌, arith, ◌⊎◌, inl, inr}
use Rattle.std.specs.Prelude.{max, not, Option}
use Rattle.std.proofs.lemmas.Bool.{eqb-true, eq-eqb, ne_eqb, cases_Bool}
use Rattle.blip_frame.specs.Frame.{FrameParts, has_checksum}
use Rattle.blip_frame.specs.declared.frame.Kind.{Kind}
use Rattle.blip_mux.specs.Begun.{Begun}
use Rattle.blip_mux.specs.InboxStates.{held_after}
use Rattle.blip_mux.specs.Joining.{Event, came, expected, is_request, is_reply, begun_or, with_frame, brought_by, held_by, frames_of, so_far_in, greatest_in, held_at, held_up_to, held_in}
use Rattle.blip_mux.proofs.Classes.{no_request, no_reply, other_class}

-- ---- sums

le_or_suc : (n m : ℕ) → n ≤ suc m → (n ≤ m) ⊎ (suc m ≡ n)
le_or_suc n m h = grind arith

-- nothing above adds nothing
held_longer : (class : Kind → Bool) (n m : ℕ) (before : List Event) → ((q : ℕ) → n < q → held_at class q before ≡ 0) → n ≤ m → held_up_to class m before ≡ held_up_to class n before
held_longer class zero zero before none le = refl
held_longer class (suc n) zero before none le = absurd (omega (arith, le))
held_longer class n (suc m) before none le = elim (le_or_suc n m le) [
  | inl low ↦ omega (arith, none (suc m) (omega (arith, low)), held_longer class n m before none low)
  | inr same ↦ ap (λ (k : ℕ). held_up_to class k before) same
]

-- the same summands make the same sum
held_same : (class : Kind → Bool) (n : ℕ) (xs ys : List Event) → ((q : ℕ) → q ≤ n → held_at class q xs ≡ held_at class q ys) → held_up_to class n xs ≡ held_up_to class n ys
held_same class zero xs ys each = each 0 (omega arith)
held_same class (suc n) xs ys each = omega (arith, each (suc n) (omega arith), held_same class n xs ys (λ q le. each q (omega (arith, le))))

-- one summand changes
held_changed : (class : Kind → Bool) (k n : ℕ) (xs ys : List Event) → ((q : ℕ) → q ≢ k → held_at class q xs ≡ held_at class q ys) → k ≤ n
    → held_up_to class n xs + held_at class k ys ≡ held_up_to class n ys + held_at class k xs
held_changed class zero zero xs ys others le = omega arith
held_changed class (suc k) zero xs ys others le = absurd (omega (arith, le))
held_changed class k (suc n) xs ys others le = elim (le_or_suc k n le) [
  | inl low ↦ omega (arith, others (suc n) (λ e. absurd (omega (arith, e, low))), held_changed class k n xs ys others low)
  | inr same ↦
      let below = held_same class n xs ys (λ q le. others q (λ e. absurd (omega (arith, e, le, same)))) in
      subst (λ (j : ℕ). held_up_to class (suc n) xs + held_at class j ys ≡ held_up_to class (suc n) ys + held_at class j xs) same (omega (arith, below))
]

-- a summand is at most the sum
held_part : (class : Kind → Bool) (k n : ℕ) (before : List Event) → k ≤ n → held_at class k before ≤ held_up_to class n before
held_part class zero zero before le = omega arith
held_part class (suc k) zero before le = absurd (omega (arith, le))
held_part class k (suc n) before le = elim (le_or_suc k n le) [
  | inl low ↦ omega (arith, held_part class k n before low)
  | inr same ↦ subst (λ (j : ℕ). held_at class j before ≤ held_up_to class (suc n) before) same (omega arith)
]

-- ---- the frames of one message

-- none has a number above the greatest
none_above : (class : Kind → Bool) (q : ℕ) (before : List Event) → greatest_in before < q → frames_of class q before ≡ []
none_above class q [] h = refl
none_above class q (came f ∷ before) h =
    go (class f.kind) (eqb q f.number) (eqb-true q f.number) (none_above class q before (omega (arith, h))) where
      go : (a t : Bool) → (t ≡ true → q ≡ f.number) → frames_of class q before ≡ [] → cond (a && t) (cond f.more (f ∷ frames_of class q before) []) (frames_of class q before) ≡ []
      go true true same rest = absurd (omega (arith, h, same refl))
      go true false same rest = rest
      go false t same rest = rest
none_above class q (expected n ∷ before) h = none_above class q before h

up_to_greatest : (class : Kind → Bool) (n : ℕ) (before : List Event) → greatest_in before ≤ n → held_up_to class n before ≡ held_up_to class (greatest_in before) before
up_to_greatest class n before le = held_longer class (greatest_in before) n before (λ q above. ap (λ (fs : List FrameParts). held_by (brought_by fs)) (none_above class q before above)) le

frames_beside : (class : Kind → Bool) (q : ℕ) (f : FrameParts) (before : List Event) → (class f.kind && eqb q f.number) ≡ false → frames_of class q (came f ∷ before) ≡ frames_of class q before
frames_beside class q f before other = ap (λ (b : Bool). cond b (cond f.more (f ∷ frames_of class q before) []) (frames_of class q before)) other

frames_with : (class : Kind → Bool) (f : FrameParts) (before : List Event) → class f.kind ≡ true → frames_of class f.number (came f ∷ before) ≡ cond f.more (f ∷ frames_of class f.number before) []
frames_with class f before is =
    ap (λ (b : Bool). cond (b && eqb f.number f.number) (cond f.more (f ∷ frames_of class f.number before) []) (frames_of class f.number before)) is
    ∙ ap (λ (b : Bool). cond b (cond f.more (f ∷ frames_of class f.number before) []) (frames_of class f.number before)) (eq-eqb f.number f.number refl)

and_false : (a b : Bool) → b ≡ false → (a && b) ≡ false
and_false true b e = e
and_false false b e = refl

false_and : (a b : Bool) → a ≡ false → (a && b) ≡ false
false_and true b e = absurd cc
false_and false b e = refl

-- ---- one class, as a frame comes

-- a frame of the other class
other_held : (class : Kind → Bool) (f : FrameParts) (before : List Event) → class f.kind ≡ false → held_up_to class (greatest_in (came f ∷ before)) (came f ∷ before) ≡ held_up_to class (greatest_in before) before
other_held class f before other =
    held_same class (max f.number (greatest_in before)) (came f ∷ before) before (λ q le. ap (λ (fs : List FrameParts). held_by (brought_by fs)) (frames_beside class q f before (false_and (class f.kind) (eqb q f.number) other)))
    ∙ up_to_greatest class (max f.number (greatest_in before)) before (omega arith)

-- what a message holds once a frame of it was taken
abbrev held_with : Option Begun → FrameParts → ℕ
held_with so_far f = cond f.more (held_by (Some (with_frame (begun_or so_far f) f))) 0

held_then : (f : FrameParts) (fs : List FrameParts) → held_by (brought_by (cond f.more (f ∷ fs) [])) ≡ held_with (brought_by fs) f
held_then f fs = go f.more where
  go : (more : Bool) → held_by (brought_by (cond more (f ∷ fs) [])) ≡ cond more (held_by (Some (with_frame (begun_or (brought_by fs) f) f))) 0
  go true = refl
  go false = refl

-- a frame of this class: the sum before and what its message then holds are the sum then and what it held
one_held : (class : Kind → Bool) (f : FrameParts) (before : List Event) → class f.kind ≡ true
    → (held_up_to class (greatest_in (came f ∷ before)) (came f ∷ before) + held_at class f.number before ≡ held_up_to class (greatest_in before) before + held_with (brought_by (frames_of class f.number before)) f)
    × (held_at class f.number before ≤ held_up_to class (greatest_in before) before)
one_held class f before is =
    let n : ℕ = max f.number (greatest_in before) in
    let longer = up_to_greatest class n before (omega arith) in
    let changed = held_changed class f.number n (came f ∷ before) before
    (λ q other. ap (λ (fs : List FrameParts). held_by (brought_by fs)) (frames_beside class q f before (and_false (class f.kind) (eqb q f.number) (ne_eqb q f.number other)))) (omega arith) in
    let then = ap (λ (fs : List FrameParts). held_by (brought_by fs)) (frames_with class f before is) ∙ held_then f (frames_of class f.number before) in
    let part = held_part class f.number n before (omega arith) in
    (omega (arith, longer, changed, then), omega (arith, longer, part))

-- ---- both classes

sum_left : (r r' p p' old now : ℕ) → (r' + old ≡ r + now) × (old ≤ r) → p' ≡ p → r' + p' ≡ (r + p) - old + now
sum_left r r' p p' old now h e = omega (arith, h.0, h.1, e)

sum_right : (r r' p p' old now : ℕ) → r' ≡ r → (p' + old ≡ p + now) × (old ≤ p) → r' + p' ≡ (r + p) - old + now
sum_right r r' p p' old now e h = omega (arith, h.0, h.1, e)

pub held_came : (before : List Event) (f : FrameParts) → has_checksum f.kind ≡ true → held_in (came f ∷ before) ≡ held_after (held_in before) (so_far_in before f) f
held_came before f carried = elim (cases_Bool (is_request f.kind)) [
  | inl request ↦
      let reply : is_reply f.kind ≡ false = other_class f.kind carried ∙ ap not request in
      sum_left (held_up_to is_request (greatest_in before) before) (held_up_to is_request (greatest_in (came f ∷ before)) (came f ∷ before)) (held_up_to is_reply (greatest_in before) before)
      (held_up_to is_reply (greatest_in (came f ∷ before)) (came f ∷ before)) (held_at is_request f.number before) (held_with (brought_by (frames_of is_request f.number before)) f)
      (one_held is_request f before request) (other_held is_reply f before reply)
      ∙ ap (λ (b : Bool). held_after (held_in before) (brought_by (cond b (frames_of is_request f.number before) (frames_of is_reply f.number before))) f) (sym request)
  | inr other ↦
      let reply : is_reply f.kind ≡ true = other_class f.kind carried ∙ ap not other in
      sum_right (held_up_to is_request (greatest_in before) before) (held_up_to is_request (greatest_in (came f ∷ before)) (came f ∷ before)) (held_up_to is_reply (greatest_in before) before)
      (held_up_to is_reply (greatest_in (came f ∷ before)) (came f ∷ before)) (held_at is_reply f.number before) (held_with (brought_by (frames_of is_reply f.number before)) f)
      (other_held is_request f before other) (one_held is_reply f before reply)
      ∙ ap (λ (b : Bool). held_after (held_in before) (brought_by (cond b (frames_of is_request f.number before) (frames_of is_reply f.number before))) f) (sym other)
]

pub held_acknowledged : (before : List Event) (f : FrameParts) → has_checksum f.kind ≡ false → held_in (came f ∷ before) ≡ held_in before
held_acknowledged before f none = omega (arith, other_held is_request f before (no_request f.kind none), other_held is_reply f before (no_reply f.kind none))

pub held_expecting : (before : List Event) (n : ℕ) → held_in (expected n ∷ before) ≡ held_in before
held_expecting before n = omega (arith, held_same is_request (greatest_in before) (expected n ∷ before) before (λ q le. refl), held_same is_reply (greatest_in before) (expected n ∷ before) before (λ q le. refl))
