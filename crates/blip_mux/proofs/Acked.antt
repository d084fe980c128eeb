-- The message that an acknowledgement is of, by its stamp.
use Rattle.std.proofs.Common.{◌≡◌, ℕ, ◌<◌, Bool, true, false, Some, None, refl, sym, ap, subst, ◌∙◌, arith}
use Rattle.std.specs.Prelude.{Option, is_some, option_map, IfSome, ◌≤◌}
use Rattle.std.specs.List.{list_any}
use Rattle.std.specs.Map.{values_of}
use Rattle.blip_frame.specs.declared.frame.Kind.{Kind}
use Rattle.blip_frame.specs.declared.frame.Kind.TheVariants as kinds
use Rattle.blip_mux.specs.declared.class.Class.{Class}
use Rattle.blip_mux.specs.declared.ready.Ready.{Ready}
use Rattle.blip_mux.specs.Sending.{Waiting, is_of, acked, acked_of, acked_in}
use Rattle.blip_mux.specs.inner.Class.{class_of}
use Rattle.blip_mux.specs.inner.Entries.{Entries, look, with_message}
use Rattle.blip_mux.specs.inner.Stamped.{is_message, IsKept}
use Rattle.blip_mux.proofs.Cuts.{some_same}
use Rattle.blip_mux.proofs.Listed.{some_none, find_of, find_none, any_of, any_none, acked_of_all, acked_by_none}

of_class : (kind : Kind) (number : ℕ) (w : Waiting) → is_of kind number w ≡ is_message (class_of kind) number w
of_class kinds.Msg number w = refl
of_class kinds.Rpy number w = refl
of_class kinds.Err number w = refl
of_class kinds.AckMsg number w = refl
of_class kinds.AckRpy number w = refl

not_true : (b : Bool) → (b ≡ true → false ≡ true) → b ≡ false
not_true true f = sym (f refl)
not_true false f = refl

module _ (es : Entries) (next : ℕ) (at : Class → ℕ → Option ℕ) (r : Ready) (kept : IsKept es next at r) (kind : Kind) (number : ℕ) where
  no_other : (s : ℕ) → at (class_of kind) number ≡ Some s → (q : ℕ) (v : Waiting) → q < s → look es q ≡ Some v → is_of kind number v ≡ false
  no_other s stands q v below there = not_true (is_of kind number v) (λ is.
      let known = kept.known (class_of kind) number q v there (sym (of_class kind number v) ∙ is) in
      let same : q ≡ s = some_same q s (sym known ∙ stands) in
      absurd (omega arith))

  none_at_all : at (class_of kind) number ≡ None → (q : ℕ) (v : Waiting) → look es q ≡ Some v → is_of kind number v ≡ false
  none_at_all nowhere q v there = not_true (is_of kind number v) (λ is. some_none (sym (kept.known (class_of kind) number q v there (sym (of_class kind number v) ∙ is)) ∙ nowhere))

  module _ (s : ℕ) (stands : at (class_of kind) number ≡ Some s) where
    pub acked_there : acked_of kind number (values_of es) ≡ look es s
    acked_there =
        let it = kept.found (class_of kind) number s stands in
        find_of es kept.sorted (is_of kind number) s it.0 it.1 (of_class kind number it.0 ∙ it.2) (no_other s stands) ∙ sym it.1

    pub any_there : list_any (is_of kind number) (values_of es) ≡ true
    any_there = let it = kept.found (class_of kind) number s stands in any_of es kept.sorted (is_of kind number) s it.0 it.1 (of_class kind number it.0 ∙ it.2)

    pub acked_in_there : (bytes : ℕ) (es' : Entries) → IfSome (look es s) (λ w. es' ≡ with_message s es (acked bytes w)) → values_of es' ≡ acked_in kind number bytes (values_of es)
    acked_in_there bytes es' set =
        let it = kept.found (class_of kind) number s stands in
        let e : es' ≡ with_message s es (acked bytes it.0) = rw it.1 at set in
        ap (λ (xs : Entries). values_of xs) e ∙ sym (acked_of_all es kept.sorted kind number bytes s it.0 it.1 (of_class kind number it.0 ∙ it.2) (no_other s stands))

  module _ (nowhere : at (class_of kind) number ≡ None) where
    pub acked_by_no : acked_of kind number (values_of es) ≡ None
    acked_by_no = find_none es kept.sorted (is_of kind number) (none_at_all nowhere)

    pub any_nowhere : list_any (is_of kind number) (values_of es) ≡ false
    any_nowhere = any_none es kept.sorted (is_of kind number) (none_at_all nowhere)

    pub acked_in_no : (bytes : ℕ) (es' : Entries) → es' ≡ es → values_of es' ≡ acked_in kind number bytes (values_of es)
    acked_in_no bytes es' e = ap (λ (xs : Entries). values_of xs) e ∙ sym (acked_by_none es kept.sorted kind number bytes (none_at_all nowhere))

  -- a stamp stands there just where a message waits
  pub any_is : (o : Option ℕ) → at (class_of kind) number ≡ o → is_some o ≡ list_any (is_of kind number) (values_of es)
  any_is (Some s) stands = sym (any_there s stands)
  any_is None nowhere = sym (any_nowhere nowhere)

  pub stands_nowhere : (o : Option ℕ) → at (class_of kind) number ≡ o → list_any (is_of kind number) (values_of es) ≡ false → at (class_of kind) number ≡ None
  stands_nowhere (Some s) stands none = absurd (let h = sym (any_there s stands) ∙ none in cc)
  stands_nowhere None nowhere none = nowhere

  pub sent_is : (o : Option ℕ) (sent : Option ℕ) → at (class_of kind) number ≡ o → (at (class_of kind) number ≡ None → sent ≡ None)
      → ((q : ℕ) → at (class_of kind) number ≡ Some q → sent ≡ option_map (λ w. w.sent) (look es q)) → sent ≡ option_map (λ w. w.sent) (acked_of kind number (values_of es))
  sent_is (Some s) sent stands none some = some s stands ∙ ap (option_map (λ w. w.sent)) (sym (acked_there s stands))
  sent_is None sent nowhere none some = none nowhere ∙ ap (option_map (λ w. w.sent)) (sym (acked_by_no nowhere))

  pub acked_is : (bytes : ℕ) (es' : Entries) (o : Option ℕ) → at (class_of kind) number ≡ o → (at (class_of kind) number ≡ None → es' ≡ es)
      → ((q : ℕ) → at (class_of kind) number ≡ Some q → IfSome (look es q) (λ w. es' ≡ with_message q es (acked bytes w))) → values_of es' ≡ acked_in kind number bytes (values_of es)
  acked_is bytes es' (Some s) stands none some = acked_in_there s stands bytes es' (some s stands)
  acked_is bytes es' None nowhere none some = acked_in_no nowhere bytes es' (none nowhere)

  pub within_sent : (bytes s : ℕ) → at (class_of kind) number ≡ Some s → IfSome (acked_of kind number (values_of es)) (λ w. bytes ≤ w.sent) → IfSome (look es s) (λ w. bytes ≤ w.sent)
  within_sent bytes s stands within = subst (λ (o : Option Waiting). IfSome o (λ w. bytes ≤ w.sent)) (acked_there s stands) within
