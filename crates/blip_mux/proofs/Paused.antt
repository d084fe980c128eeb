-- The messages that are left once a frame has gone, and where every message pauses.
use Rattle.std.proofs.Common.{◌≡◌, ℕ, ◌-◌, ◌≤◌, Bool, true, false, ◌&&◌, cond, List, [], ◌∷◌, ◌++◌, length, Some, None, refl, ap, ◌∙◌, arith}
use Rattle.std.specs.Prelude.{Option, option_map}
use Rattle.std.specs.Option.{option_or, option_map_or}
use Rattle.std.specs.List.{list_all}
use Rattle.std.proofs.lemmas.Bool.{ltb-true, lt-leb, leb-false, lt-ltb}
use Rattle.blip_frame.specs.Frame.{FrameParts}
use Rattle.blip_mux.specs.declared.outbox.Next.TheVariants as nexts
use Rattle.blip_mux.specs.Sending.{Sends, Waiting, may_send, is_paused, pause_above, taken_out, chosen, next_piece, after_piece, first_piece, back}
use Rattle.blip_mux.proofs.Cuts.{Found, behind}

pub after_of : (ws : List Waiting) (w : Waiting) (others : List Waiting) → chosen ws ≡ Some (w, others) → after_piece ws ≡ others ++ back w
after_of ws w others e = ap (λ o. option_map_or (λ found. found.1 ++ back found.0) o ws) e

-- ---- where every message pauses

abbrev urgently : Waiting → Bool
urgently w = w.urgent && may_send w

all_fail : (p : Waiting → Bool) → ((w : Waiting) → is_paused w ≡ true → p w ≡ false) → (ws : List Waiting) → list_all is_paused ws ≡ true → taken_out p ws ≡ None
all_fail p fails [] all = refl
all_fail p fails (w ∷ ws) all = go (is_paused w) (fails w) all (λ h. all_fail p fails ws h) where
  go : (b : Bool) → (b ≡ true → p w ≡ false) → (b && list_all is_paused ws) ≡ true → (list_all is_paused ws ≡ true → taken_out p ws ≡ None) → taken_out p (w ∷ ws) ≡ None
  go false fails all rest = absurd cc
  go true fails all rest = ap (λ (b : Bool). cond {A = Found} b (Some (w, ws)) (behind w (taken_out p ws))) (fails refl) ∙ ap (behind w) (rest all)

paused_may_not : (w : Waiting) → is_paused w ≡ true → may_send w ≡ false
paused_may_not w e = lt-leb (w.sent - w.acknowledged) pause_above (ltb-true pause_above (w.sent - w.acknowledged) e)

and_false : (b c : Bool) → c ≡ false → (b && c) ≡ false
and_false true c e = e
and_false false c e = refl

pub paused_none : (ws : List Waiting) → list_all is_paused ws ≡ true → next_piece ws ≡ None
paused_none ws all =
    ap (option_map (λ found. first_piece found.0))
    (ap (λ x. option_or x (taken_out may_send ws)) (all_fail urgently (λ w e. and_false w.urgent (may_send w) (paused_may_not w e)) ws all) ∙ all_fail may_send paused_may_not ws all)

none_passes : (ws : List Waiting) → taken_out may_send ws ≡ None → list_all is_paused ws ≡ true
none_passes [] e = refl
none_passes (w ∷ ws) e = go (may_send w) (λ f. lt-ltb pause_above (w.sent - w.acknowledged) (leb-false (w.sent - w.acknowledged) pause_above f)) e (λ h. none_passes ws h) where
  rest : (o : Found) → behind w o ≡ None → o ≡ None
  rest None e = refl
  rest (Some x) e = absurd cc

  go : (b : Bool) → (b ≡ false → is_paused w ≡ true) → cond {A = Found} b (Some (w, ws)) (behind w (taken_out may_send ws)) ≡ None → (taken_out may_send ws ≡ None → list_all is_paused ws ≡ true) → (is_paused w && list_all is_paused ws) ≡ true
  go true paused e others = absurd cc
  go false paused e others = ap (λ (b : Bool). b && list_all is_paused ws) (paused refl) ∙ others (rest (taken_out may_send ws) e)

pub none_paused : (ws : List Waiting) → next_piece ws ≡ None → list_all is_paused ws ≡ true
none_paused ws e = go (taken_out urgently ws) (taken_out may_send ws) refl e where
  go : (o n : Found) → taken_out may_send ws ≡ n → option_map (λ found. first_piece found.0) (option_or o n) ≡ None → list_all is_paused ws ≡ true
  go (Some x) n is e = absurd cc
  go None (Some x) is e = absurd cc
  go None None is e = none_passes ws is

-- where no frame was written there was none to write
pub idle_none : (ws : List Waiting) (before after : ℕ) (old new : List ℕ) → Sends (next_piece ws) nexts.Idle before after old new → next_piece ws ≡ None
idle_none ws before after old new h = go (next_piece ws) h where
  go : (o : Option FrameParts) → Sends o nexts.Idle before after old new → o ≡ None
  go None h = refl
  go (Some f) h = absurd h

-- a list without a first element is empty
pub no_first : {X : Type 0} (xs : List X) → length xs ≤ 0 → xs ≡ []
no_first [] h = refl
no_first (x ∷ xs) h = absurd (omega arith)
