-- Messages, their index and their turns, as messages come and go.
use Rattle.std.proofs.Common.{◌≡◌, ℕ, ◌<◌, Bool, true, false, ◌&&◌, cond, Some, None, refl, sym, ap, subst, ◌∙◌, arith}
use Rattle.std.specs.Prelude.{Option, IfNone}
use Rattle.std.specs.Option.{option_map_or, option_or}
use Rattle.std.specs.List.Sorted.{IsStrictlySortedBy}
use Rattle.std.specs.Map.{keys_of, values_of}
use Rattle.std.specs.Ordering.{nat_cmp}
use Rattle.blip_mux.specs.declared.ready.Ready.{Ready}
use Rattle.blip_mux.specs.declared.ready.ReadyMessage.{ReadyMessage}
use Rattle.blip_mux.specs.Sending.{Waiting, may_send, chosen, taken_out}
use Rattle.blip_mux.specs.inner.Stamps.{times, same_flag}
use Rattle.blip_mux.specs.inner.Ready.{stamps_in, NoneUrgent, IsFirst}
use Rattle.blip_mux.specs.inner.Entries.{Entries, look, without}
use Rattle.blip_mux.specs.inner.Stamped.{turns}
use Rattle.blip_mux.proofs.Cuts.{Found}
use Rattle.blip_mux.proofs.Listed.{out_of_all, none_out}

-- ---- the message that sends next

-- a message that has no turn does not send
no_turn : (u : Bool) (w : Waiting) → turns u w ≡ 0 → (same_flag w.urgent u && may_send w) ≡ false
no_turn u w none = go (same_flag w.urgent u && may_send w) none where
  go : (b : Bool) → cond {A = ℕ} b 1 0 ≡ 0 → b ≡ false
  go true e = absurd (omega arith)
  go false e = refl

a_turn : (u : Bool) (w : Waiting) → 0 < turns u w → (same_flag w.urgent u && may_send w) ≡ true
a_turn u w some = go (same_flag w.urgent u && may_send w) some where
  go : (b : Bool) → 0 < cond {A = ℕ} b 1 0 → b ≡ true
  go true e = refl
  go false e = absurd (omega arith)

of_urgent : (w : Waiting) → (same_flag w.urgent true && may_send w) ≡ (w.urgent && may_send w)
of_urgent w = go w.urgent where
  go : (b : Bool) → (same_flag b true && may_send w) ≡ (b && may_send w)
  go true = refl
  go false = refl

neither : (u m : Bool) → (same_flag u true && m) ≡ false → (same_flag u false && m) ≡ false → m ≡ false
neither true m a b = a
neither false m a b = b

pub none_next : (es : Entries) (r : Ready) → IsStrictlySortedBy nat_cmp (keys_of es) → ((u : Bool) (q : ℕ) → times q (stamps_in u r) ≡ option_map_or (turns u) (look es q) 0)
    → ((u : Bool) (q : ℕ) → times q (stamps_in u r) ≡ 0) → chosen (values_of es) ≡ None
none_next es r sorted ready none =
    ap (λ (o : Found). option_or o (taken_out may_send (values_of es))) (none_out es sorted (λ w. w.urgent && may_send w) (λ q v at. sym (of_urgent v) ∙ fails true q v at))
    ∙ none_out es sorted may_send (λ q v at. neither v.urgent (may_send v) (fails true q v at) (fails false q v at)) where
      fails : (u : Bool) (q : ℕ) (v : Waiting) → look es q ≡ Some v → (same_flag v.urgent u && may_send v) ≡ false
      fails u q v at = no_turn u v (ap (λ (o : Option Waiting). option_map_or (turns u) o 0) (sym at) ∙ sym (ready u q) ∙ none u q)

-- a message that is first in its turns is the one that sends next
pub record Next (turn : ReadyMessage) (es : Entries) : Type 0 where
  pub message : Waiting
  pub there : look es turn.stamp ≡ Some message
  pub mark : message.urgent ≡ turn.urgent
  pub may : may_send message ≡ true
  pub first : chosen (values_of es) ≡ Some (message, values_of (without turn.stamp es))

flag_of : (u v m : Bool) → (same_flag v u && m) ≡ true → (v ≡ u) × (m ≡ true)
flag_of true true m e = (refl, e)
flag_of false false m e = (refl, e)
flag_of true false m e = absurd cc
flag_of false true m e = absurd cc

pub next_is : (es : Entries) (r : Ready) → IsStrictlySortedBy nat_cmp (keys_of es) → ((u : Bool) (q : ℕ) → times q (stamps_in u r) ≡ option_map_or (turns u) (look es q) 0)
    → (turn : ReadyMessage) → IsFirst turn r → Next turn es
next_is es r sorted ready turn is = go (look es turn.stamp) refl where
  some : 0 < option_map_or (turns turn.urgent) (look es turn.stamp) 0
  some = subst (λ n. 0 < n) (ready turn.urgent turn.stamp) is.0.0

  before : (q : ℕ) (v : Waiting) → q < turn.stamp → look es q ≡ Some v → (same_flag v.urgent turn.urgent && may_send v) ≡ false
  before q v below at = no_turn turn.urgent v (ap (λ (o : Option Waiting). option_map_or (turns turn.urgent) o 0) (sym at) ∙ sym (ready turn.urgent q) ∙ is.0.1 q below)

  chosen_so : (u : Bool) → turn.urgent ≡ u → (w : Waiting) → look es turn.stamp ≡ Some w → (same_flag w.urgent u && may_send w) ≡ true → chosen (values_of es) ≡ Some (w, values_of (without turn.stamp es))
  chosen_so true same w at pass =
      ap (λ (o : Found). option_or o (taken_out may_send (values_of es)))
      (out_of_all es sorted (λ w. w.urgent && may_send w) turn.stamp w at (sym (of_urgent w) ∙ pass) (λ q v below at. sym (of_urgent v) ∙ subst (λ u. (same_flag v.urgent u && may_send v) ≡ false) same (before q v below at)))
  chosen_so false same w at pass =
      let calm : (q : ℕ) (v : Waiting) → look es q ≡ Some v → (same_flag v.urgent true && may_send v) ≡ false =
      λ q v at. no_turn true v (ap (λ (o : Option Waiting). option_map_or (turns true) o 0) (sym at) ∙ sym (ready true q) ∙ subst (λ u. NoneUrgent u r) same is.1 q) in
      ap (λ (o : Found). option_or o (taken_out may_send (values_of es))) (none_out es sorted (λ w. w.urgent && may_send w) (λ q v at. sym (of_urgent v) ∙ calm q v at))
      ∙ out_of_all es sorted may_send turn.stamp w at (flag_of false w.urgent (may_send w) pass).1
      (λ q v below at. neither v.urgent (may_send v) (calm q v at) (subst (λ u. (same_flag v.urgent u && may_send v) ≡ false) same (before q v below at)))

  go : (o : Option Waiting) → look es turn.stamp ≡ o → Next turn es
  go None at = absurd (let h = subst (λ (o : Option Waiting). 0 < option_map_or (turns turn.urgent) o 0) at some in omega (arith, h))
  go (Some w) at =
      let pass = a_turn turn.urgent w (subst (λ (o : Option Waiting). 0 < option_map_or (turns turn.urgent) o 0) at some) in
      let parts = flag_of turn.urgent w.urgent (may_send w) pass in
      record { message = w; there = at; mark = parts.0; may = parts.1; first = chosen_so turn.urgent refl w at pass }

pub none_then : {X : Type 0} (r : Option X) {P Q : Type 0} → IfNone r P → (P → Q) → IfNone r Q
none_then (Some x) p f = tt
none_then None p f = f p
