-- No request waits whose number is still to come.
use Rattle.std.proofs.Common.{◌≡◌, ℕ, Bool, true, false, ◌||◌, cond, List, [], ◌∷◌, ◌++◌, Some, None, refl, sym, ap, ◌∙◌}
use Rattle.std.specs.Prelude.{Result, Ok, Err, OnOk, OnErr}
use Rattle.std.specs.Option.{option_map_or}
use Rattle.std.specs.List.{list_any}
use Rattle.std.proofs.lemmas.List.Folds.{list_any-append}
use Rattle.blip_frame.specs.declared.frame.Kind.{Kind}
use Rattle.blip_mux.specs.Sending.{Waiting, is_of, acked, acked_in, chosen, after_piece, has_more, without_piece, back}
use Rattle.blip_mux.proofs.Cuts.{Found, split_chosen}
use Rattle.blip_mux.proofs.Paused.{after_of}

neither : (a b : Bool) → (a || b) ≡ false → (a ≡ false) × (b ≡ false)
neither false b e = (refl, e)
neither true b e = absurd cc

both : (a b : Bool) → a ≡ false → b ≡ false → (a || b) ≡ false
both false b e f = f
both true b e f = absurd cc

module _ (kind : Kind) (number : ℕ) where
  any_back : (w : Waiting) → is_of kind number w ≡ false → list_any (is_of kind number) (back w) ≡ false
  any_back w e = go (has_more w) where
    go : (b : Bool) → list_any (is_of kind number) (cond b (without_piece w ∷ []) []) ≡ false
    go true = both (is_of kind number w) false e refl
    go false = refl

  pub none_after : (ws : List Waiting) → list_any (is_of kind number) ws ≡ false → list_any (is_of kind number) (after_piece ws) ≡ false
  none_after ws none = go (chosen ws) refl where
    go : (o : Found) → chosen ws ≡ o → list_any (is_of kind number) (after_piece ws) ≡ false
    go None is = ap (λ (o : Found). list_any (is_of kind number) (option_map_or (λ found. found.1 ++ back found.0) o ws)) is ∙ none
    go (Some found) is =
        let cut = split_chosen ws found.0 found.1 is in
        let parts = neither (list_any (is_of kind number) cut.front) (list_any (is_of kind number) (found.0 ∷ cut.rear))
        (sym (list_any-append (is_of kind number) cut.front (found.0 ∷ cut.rear)) ∙ ap (list_any (is_of kind number)) (sym cut.whole) ∙ none) in
        let its = neither (is_of kind number found.0) (list_any (is_of kind number) cut.rear) parts.1 in
        ap (list_any (is_of kind number)) (after_of ws found.0 found.1 is) ∙ list_any-append (is_of kind number) found.1 (back found.0)
        ∙ both (list_any (is_of kind number) found.1) (list_any (is_of kind number) (back found.0))
        (ap (list_any (is_of kind number)) cut.left ∙ list_any-append (is_of kind number) cut.front cut.rear ∙ both (list_any (is_of kind number) cut.front) (list_any (is_of kind number) cut.rear) parts.0 its.1)
        (any_back found.0 its.0)

  pub none_acked : (acking : Kind) (n bytes : ℕ) (ws : List Waiting) → list_any (is_of kind number) ws ≡ false → list_any (is_of kind number) (acked_in acking n bytes ws) ≡ false
  none_acked acking n bytes [] none = none
  none_acked acking n bytes (w ∷ ws) none = go (is_of acking n w) (neither (is_of kind number w) (list_any (is_of kind number) ws) none) (λ h. none_acked acking n bytes ws h) where
    go : (b : Bool) → (is_of kind number w ≡ false) × (list_any (is_of kind number) ws ≡ false) → (list_any (is_of kind number) ws ≡ false → list_any (is_of kind number) (acked_in acking n bytes ws) ≡ false)
        → list_any (is_of kind number) (cond b (acked bytes w ∷ ws) (w ∷ acked_in acking n bytes ws)) ≡ false
    go true parts rest = both (is_of kind number w) (list_any (is_of kind number) ws) parts.0 parts.1
    go false parts rest = both (is_of kind number w) (list_any (is_of kind number) (acked_in acking n bytes ws)) parts.0 (rest parts.1)

  -- the next frame was written, or all stayed as it was
  pub still_none : {A E P : Type 0} (r : Result A E) (old new : List Waiting) → OnOk r (new ≡ after_piece old) → OnErr r P → (P → new ≡ old) → list_any (is_of kind number) old ≡ false → list_any (is_of kind number) new ≡ false
  still_none (Ok x) old new after err same none = ap (list_any (is_of kind number)) after ∙ none_after old none
  still_none (Err e) old new after err same none = ap (list_any (is_of kind number)) (same err) ∙ none
