-- What messages hold that are not whole is bounded while no frame is refused.
use Rattle.std.proofs.Common.{◌≡◌, ℕ, ◌+◌, ◌-◌, ◌≤◌, Bool, true, false, cond, List, [], ◌∷◌, ◌++◌, reverse, Some, None, refl, sym, ap, subst, ◌∙◌, arith, inl, inr, append_assoc}
use Rattle.std.proofs.lemmas.Bool.{cases_Bool}
use Rattle.std.proofs.lemmas.List.{append-nil, reverse-append}
use Rattle.blip_frame.specs.Frame.{has_checksum}
use Rattle.blip_mux.specs.Joining.{Event, came, expected, most_held, begun_or, with_frame, held_by, so_far_in, requests_in, is_awaited, held_in, joined_after, joined}
use Rattle.blip_mux.proofs.Held.{held_came, held_acknowledged, held_expecting}
use Rattle.blip_mux.proofs.Orders.{accepted}

room_left : (more : Bool) (h old now : ℕ) → h ≤ most_held → (more ≡ true → h - old + now ≤ most_held) → h - old + cond more now 0 ≤ most_held
room_left true h old now low room = room refl
room_left false h old now low room = omega (arith, low)

behind : (e : Event) (before events : List Event) → reverse events ++ e ∷ before ≡ reverse (e ∷ events) ++ before
behind e before events = sym (ap (λ (es : List Event). es ++ before) (reverse-append (e ∷ []) events) ∙ append_assoc (reverse events) (e ∷ []) before)

held_from : (before events : List Event) → held_in before ≤ most_held → (joined_after before events).1 ≡ None → held_in (reverse events ++ before) ≤ most_held
held_from before [] low none = low
held_from before (came f ∷ events) low none =
    let taken = accepted (requests_in before) (is_awaited before f.number) (held_in before) (so_far_in before f) f (joined_after (came f ∷ before) events) none in
    let next : held_in (came f ∷ before) ≤ most_held = elim (cases_Bool (has_checksum f.kind)) [
      | inl carried ↦
          subst (λ (n : ℕ). n ≤ most_held) (sym (held_came before f carried))
          (room_left f.more (held_in before) (held_by (so_far_in before f)) (held_by (Some (with_frame (begun_or (so_far_in before f) f) f))) low (taken.1 carried).1)
      | inr none_kept ↦ subst (λ (n : ℕ). n ≤ most_held) (sym (held_acknowledged before f none_kept)) low
    ] in
    subst (λ (es : List Event). held_in es ≤ most_held) (behind (came f) before events) (held_from (came f ∷ before) events next taken.0)
held_from before (expected n ∷ events) low none =
    subst (λ (es : List Event). held_in es ≤ most_held) (behind (expected n) before events)
    (held_from (expected n ∷ before) events (subst (λ (m : ℕ). m ≤ most_held) (sym (held_expecting before n)) low) none)

pub bounded : (events : List Event) → (joined events).1 ≡ None → held_in (reverse events) ≤ most_held
bounded events none = subst (λ (es : List Event). held_in es ≤ most_held) (append-nil (reverse events)) (held_from [] events (omega arith) none)
