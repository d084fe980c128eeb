-- What an outbox sends next: the first acknowledgement that waits, or what its messages send.
use Rattle.std.proofs.Common.{◌≡◌, ℕ, zero, suc, ◌<◌, false, eqb, List, [], ◌∷◌, length, Some, refl, sym, ap, subst, ◌∙◌, arith}
use Rattle.std.specs.Prelude.{Option, Result, Ok, Err, OnOk, IfOk}
use Rattle.blip_frame.specs.Frame.{FrameParts}
use Rattle.blip_mux.specs.declared.outbox.Next.{Next}
use Rattle.blip_mux.specs.declared.outbox.Next.TheVariants as nexts
use Rattle.blip_mux.specs.Acknowledgements.{Acknowledgement, ack_frame}
use Rattle.blip_mux.specs.Sending.{Sending, Waiting, Sends, next_piece, picked_of, picked, picked_from, after_picked, after_piece}

module _ (s seen : Sending) (is : s ≡ seen) where
  -- where no acknowledgement waits
  pub of_messages : {E : Type 0} (r : Result Next E) (P : Option FrameParts → Next → Type 0) → s.acknowledgements ≡ [] → IfOk r (λ next. P (next_piece s.waiting) next) → IfOk r (λ next. P (picked seen) next)
  of_messages r P none h = subst (λ (t : Sending). IfOk r (λ next. P (picked t) next)) is (subst (λ acks. IfOk r (λ next. P (picked_of acks s.waiting) next)) (sym none) h)

  pub after_messages : {A E : Type 0} (r : Result A E) (left : List Waiting) → s.acknowledgements ≡ [] → OnOk r (left ≡ after_piece s.waiting) → OnOk r (record s { waiting = left } ≡ after_picked seen)
  after_messages (Ok x) left none e =
      ap (λ (ws : List Waiting). record s { waiting = ws }) e ∙ ap (λ acks. picked_from acks s) (sym none) ∙ ap after_picked is
  after_messages (Err x) left none e = tt

  -- where one does
  pub of_first : {E : Type 0} (r : Result Next E) (P : Option FrameParts → Next → Type 0) → 0 < length s.acknowledgements
      → ((a : Acknowledgement) (others : List Acknowledgement) → s.acknowledgements ≡ a ∷ others → IfOk r (λ next. P (Some (ack_frame a)) next)) → IfOk r (λ next. P (picked seen) next)
  of_first r P some h = subst (λ (t : Sending). IfOk r (λ next. P (picked t) next)) is (go s.acknowledgements some h) where
    go : (acks : List Acknowledgement) → 0 < length acks → ((a : Acknowledgement) (others : List Acknowledgement) → acks ≡ a ∷ others → IfOk r (λ next. P (Some (ack_frame a)) next)) → IfOk r (λ next. P (picked_of acks s.waiting) next)
    go [] some h = absurd (omega (arith, some))
    go (a ∷ others) some h = h a others refl

  pub after_first : {A E : Type 0} (r : Result A E) (left : List Acknowledgement) → 0 < length s.acknowledgements
      → ((a : Acknowledgement) (others : List Acknowledgement) → s.acknowledgements ≡ a ∷ others → OnOk r (left ≡ others)) → OnOk r (record s { acknowledgements = left } ≡ after_picked seen)
  after_first (Ok x) left some h = go s.acknowledgements some h ∙ ap after_picked is where
    go : (acks : List Acknowledgement) → 0 < length acks → ((a : Acknowledgement) (others : List Acknowledgement) → acks ≡ a ∷ others → left ≡ others) → record s { acknowledgements = left } ≡ picked_from acks s
    go [] some h = absurd (omega (arith, some))
    go (a ∷ others) some h = ap (λ (acks : List Acknowledgement). record s { acknowledgements = acks }) (h a others refl)
  after_first (Err x) left some h = tt

pub some_wait : (n : ℕ) → eqb n 0 ≡ false → 0 < n
some_wait zero e = absurd cc
some_wait (suc n) e = omega arith

-- then a frame is sent
pub first_goes : {E Q : Type 0} (acks : List Acknowledgement) (before after : ℕ) (old new : List ℕ) (r : Result Next E) → 0 < length acks
    → ((a : Acknowledgement) (others : List Acknowledgement) → acks ≡ a ∷ others → IfOk r (λ next. Sends (Some (ack_frame a)) next before after old new)) → r ≡ Ok nexts.Idle → Q
first_goes [] before after old new r some h e = absurd (omega (arith, some))
first_goes (a ∷ others) before after old new r some h e = absurd (subst (λ r. IfOk r (λ next. Sends (Some (ack_frame a)) next before after old new)) e (h a others refl))
