-- Messages cut into frames.
use Rattle.std.proofs.Common.{◌≡◌, ℕ, zero, suc, ◌+◌, ◌<◌, ◌≤◌, Bool, true, false, ◌&&◌, cond, List, [], ◌∷◌, ◌++◌, length, take, Some, None, refl, sym, ap, subst, ◌∙◌, arith, ◌⊎◌, inl, inr}
use Rattle.std.specs.Prelude.{Option, option_map}
use Rattle.std.specs.Option.{option_or, option_map_or, option_to_list}
use Rattle.std.proofs.lemmas.Bool.{ltb-true, ltb-false, cases_Bool, both_ways}
use Rattle.std.proofs.lemmas.List.{take_all, length-drop, length-take-le}
use Rattle.blip_frame.specs.Frame.{FrameParts, largest_written}
use Rattle.blip_mux.specs.Acknowledgements.{Acknowledgement, ack_frame}
use Rattle.blip_mux.specs.Sending.{Waiting, Sending, may_send, has_more, first_piece, without_piece, back, taken_out, chosen, next_piece, after_piece, picked, picked_of, after_picked, picked_from}
use Rattle.blip_mux.specs.Cutting.{OutboxStep, after_outbox_steps, ArePicked, AreAllPicked, AreCut, AreFull, frames_after}
use Rattle.blip_mux.proofs.Payloads.{varint_fits}

abbrev pub Found : Type 0
Found = Option (Waiting × List Waiting)

-- a message before those that were left
abbrev pub behind : Waiting → Found → Found
behind x found = option_map (λ y. (y.0, x ∷ y.1)) found

pub some_same : {X : Type 0} (x y : X) → Some x ≡ Some y → x ≡ y
some_same x y e = ap (λ o. option_map_or (λ z. z) o x) e

-- ---- the message that is chosen

-- a message, those before it and those after it
pub record Split (ws : List Waiting) (w : Waiting) (others : List Waiting) : Type 0 where
  pub front : List Waiting
  pub rear : List Waiting
  pub whole : ws ≡ front ++ w ∷ rear
  pub left : others ≡ front ++ rear

split_next : (x : Waiting) (xs : List Waiting) (w : Waiting) (others : List Waiting) → Split xs w others → Split (x ∷ xs) w (x ∷ others)
split_next x xs w others s = record {
  front = x ∷ s.front;
  rear = s.rear;
  whole = ap (λ (ys : List Waiting). x ∷ ys) s.whole;
  left = ap (λ (ys : List Waiting). x ∷ ys) s.left;
}

split_out : (p : Waiting → Bool) (ws : List Waiting) (w : Waiting) (others : List Waiting) → taken_out p ws ≡ Some (w, others) → Split ws w others
split_out p [] w others e = absurd cc
split_out p (x ∷ xs) w others e = go (p x) (taken_out p xs) e (λ v rest is. split_out p xs v rest is) where
  go : (b : Bool) (o : Found) → cond {A = Found} b (Some (x, xs)) (option_map (λ found. (found.0, x ∷ found.1)) o) ≡ Some (w, others)
      → ((v : Waiting) (rest : List Waiting) → o ≡ Some (v, rest) → Split xs v rest) → Split (x ∷ xs) w others
  go true o e rest =
      let same : ◌≡◌ {A = Waiting × List Waiting} (x, xs) (w, others) = some_same (x, xs) (w, others) e in
      record { front = []; rear = xs; whole = ap (λ (v : Waiting). v ∷ xs) (ap (λ (q : Waiting × List Waiting). q.0) same); left = sym (ap (λ (q : Waiting × List Waiting). q.1) same) }
  go false None e rest = absurd cc
  go false (Some (v, vs)) e rest =
      let same : ◌≡◌ {A = Waiting × List Waiting} (v, x ∷ vs) (w, others) = some_same (v, x ∷ vs) (w, others) e in
      subst (λ (q : Waiting × List Waiting). Split (x ∷ xs) q.0 q.1) same (split_next x xs v vs (rest v vs refl))

pub split_chosen : (ws : List Waiting) (w : Waiting) (others : List Waiting) → chosen ws ≡ Some (w, others) → Split ws w others
split_chosen ws w others e = go (taken_out (λ v. v.urgent && may_send v) ws) refl e where
  go : (o : Found) → taken_out (λ v. v.urgent && may_send v) ws ≡ o → option_or o (taken_out may_send ws) ≡ Some (w, others) → Split ws w others
  go (Some found) is e = split_out (λ v. v.urgent && may_send v) ws w others (is ∙ e)
  go None is e = split_out may_send ws w others e

-- ---- there always are frames, and they are the only ones

-- how many bytes and messages wait at most
abbrev weight : List Waiting → ℕ
weight [] = 0
weight (w ∷ ws) = suc (length w.rest) + weight ws

weight-append : (xs ys : List Waiting) → weight (xs ++ ys) ≡ weight xs + weight ys
weight-append [] ys = omega arith
weight-append (x ∷ xs) ys = omega (arith, weight-append xs ys)

back_lighter : (w : Waiting) → weight (back w) < suc (length w.rest)
back_lighter w = go (has_more w) (λ m. ltb-true largest_written (length w.rest) m) where
  go : (b : Bool) → (b ≡ true → largest_written < length w.rest) → weight (cond b (without_piece w ∷ []) []) < suc (length w.rest)
  go true long = omega (arith, long refl, length-drop largest_written w.rest)
  go false long = omega arith

lighter : (ws : List Waiting) (w : Waiting) (others : List Waiting) → Split ws w others → weight (others ++ back w) < weight ws
lighter ws w others s =
    omega (arith, ap weight s.whole, ap weight s.left, weight-append s.front (w ∷ s.rear), weight-append s.front s.rear, weight-append others (back w), back_lighter w)

abbrev total : Sending → ℕ
total s = length s.acknowledgements + weight s.waiting

-- either none is picked, or less is left
picked_lighter : (s : Sending) → (picked s ≡ None) ⊎ ((f : FrameParts) × (picked s ≡ Some f) × (total (after_picked s) < total s))
picked_lighter s = go s.acknowledgements refl where
  by_choice : (o : Found) → chosen s.waiting ≡ o → (next_piece s.waiting ≡ None) ⊎ ((f : FrameParts) × (next_piece s.waiting ≡ Some f) × (weight (after_piece s.waiting) < weight s.waiting))
  by_choice None e = inl (ap (option_map (λ found. first_piece found.0)) e)
  by_choice (Some (w, others)) e =
      inr (first_piece w, ap (option_map (λ found. first_piece found.0)) e, subst (λ (o : Found). weight (option_map_or (λ found. found.1 ++ back found.0) o s.waiting) < weight s.waiting) (sym e) (lighter s.waiting w others (split_chosen s.waiting w others e)))

  go : (acks : List Acknowledgement) → s.acknowledgements ≡ acks → (picked_of acks s.waiting ≡ None) ⊎ ((f : FrameParts) × (picked_of acks s.waiting ≡ Some f) × (total (picked_from acks s) < length acks + weight s.waiting))
  go (a ∷ acks) e = inr (ack_frame a, refl, omega arith)
  go [] e = elim (by_choice (chosen s.waiting) refl) [
    | inl none ↦ inl none
    | inr some ↦ inr (some.0, some.1, omega (arith, some.2, ap length e))
  ]

-- frames can be picked until there is none
record Picks (s : Sending) : Type 0 where
  frames : List FrameParts
  left : Sending
  all : AreAllPicked s frames left

picks : (k : ℕ) (s : Sending) → total s < k → Picks s
picks zero s less = absurd (omega arith)
picks (suc k) s less = elim (picked_lighter s) [
  | inl none ↦ record { frames = []; left = s; all = (refl, none) }
  | inr some ↦
      let rest = picks k (after_picked s) (omega (arith, some.2)) in
      record { frames = some.0 ∷ rest.frames; left = rest.left; all = ((some.1, rest.all.0), rest.all.1) }
]

pub can_cut : (s : Sending) (turns : List (List OutboxStep)) → (frames : List FrameParts) × AreCut s turns frames
can_cut s [] = ([], refl)
can_cut s (steps ∷ turns) =
    let first = picks (suc (total (after_outbox_steps s steps))) (after_outbox_steps s steps) (omega arith) in
    let rest = can_cut first.left turns in
    (first.frames ++ rest.0, (first.frames, rest.0, first.left, refl, first.all, rest.1))

not_both : (f : FrameParts) (o : Option FrameParts) (P : Type 0) → o ≡ Some f → o ≡ None → P
not_both f o P some none = absurd (let h = sym some ∙ none in cc)

picked_once : (s : Sending) (frames others : List FrameParts) (left also : Sending) → AreAllPicked s frames left → AreAllPicked s others also → (frames ≡ others) × (left ≡ also)
picked_once s [] [] left also a b = (refl, a.0 ∙ sym b.0)
picked_once s [] (g ∷ gs) left also a b = not_both g (picked s) _ b.0.0 (ap picked (sym a.0) ∙ a.1)
picked_once s (f ∷ fs) [] left also a b = not_both f (picked s) _ a.0.0 (ap picked (sym b.0) ∙ b.1)
picked_once s (f ∷ fs) (g ∷ gs) left also a b =
    let same : f ≡ g = some_same f g (sym a.0.0 ∙ b.0.0) in
    let rest = picked_once (after_picked s) fs gs left also (a.0.1, a.1) (b.0.1, b.1) in
    (ap (λ (h : FrameParts). h ∷ fs) same ∙ ap (λ (hs : List FrameParts). g ∷ hs) rest.0, rest.1)

pub cut_once : (s : Sending) (turns : List (List OutboxStep)) (frames others : List FrameParts) → AreCut s turns frames → AreCut s turns others → frames ≡ others
cut_once s [] frames others a b = a ∙ sym b
cut_once s (steps ∷ turns) frames others a b =
    let first = picked_once (after_outbox_steps s steps) a.0 b.0 a.2 b.2 a.4 b.4 in
    let rest = cut_once b.2 turns a.1 b.1 (subst (λ (t : Sending). AreCut t turns a.1) first.1 a.5) b.5 in
    a.3 ∙ ap (λ (xs : List FrameParts). xs ++ a.1) first.0 ∙ ap (λ (xs : List FrameParts). b.0 ++ xs) rest ∙ sym b.3

-- ---- call after call

none_after : (k : ℕ) (s : Sending) → picked s ≡ None → frames_after k s ≡ []
none_after zero s none = refl
none_after (suc k) s none = ap (λ (o : Option FrameParts). option_to_list o ++ frames_after k (after_picked s)) none ∙ none_after k (after_picked s) (stays s.acknowledgements refl) where
  by_choice : (o : Found) → chosen s.waiting ≡ o → option_map (λ found. first_piece found.0) o ≡ None → after_piece s.waiting ≡ s.waiting
  by_choice None e h = ap (λ (o : Found). option_map_or (λ found. found.1 ++ back found.0) o s.waiting) e
  by_choice (Some x) e h = absurd cc

  stays : (acks : List Acknowledgement) → s.acknowledgements ≡ acks → picked (picked_from acks s) ≡ None
  stays (a ∷ acks) e = absurd (let h = sym (ap (λ (xs : List Acknowledgement). picked_of xs s.waiting) e) ∙ none in cc)
  stays [] e =
      let next : next_piece s.waiting ≡ None = ap (λ (xs : List Acknowledgement). picked_of xs s.waiting) (sym e) ∙ none in
      ap (λ (xs : List Acknowledgement). picked_of xs (after_piece s.waiting)) e ∙ ap next_piece (by_choice (chosen s.waiting) refl next) ∙ next

pub calls_cut : (k : ℕ) (s : Sending) (frames : List FrameParts) (left : Sending) → AreAllPicked s frames left → frames_after k s ≡ take k frames
calls_cut zero s frames left all = refl
calls_cut (suc k) s [] left all = none_after (suc k) s (ap picked (sym all.0) ∙ all.1)
calls_cut (suc k) s (f ∷ fs) left all =
    ap (λ (o : Option FrameParts). option_to_list o ++ frames_after k (after_picked s)) all.0.0 ∙ ap (λ (hs : List FrameParts). f ∷ hs) (calls_cut k (after_picked s) fs left (all.0.1, all.1))

-- ---- frames are full

full_piece : (w : Waiting) → (length (take largest_written w.rest) ≤ largest_written) × (has_more w ≡ true → length (take largest_written w.rest) ≡ largest_written)
full_piece w = elim (cases_Bool (has_more w)) [
  | inl more ↦
      let long = ltb-true largest_written (length w.rest) more in
      let full = length-take-le largest_written w.rest (omega arith) in
      (omega arith, λ _. full)
  | inr last ↦
      let short = ltb-false largest_written (length w.rest) last in
      let all = ap length (take_all largest_written w.rest short) in
      (omega arith, λ more. absurd (both_ways (has_more w) last more))
]

full_frame : (s : Sending) (f : FrameParts) → picked s ≡ Some f → (length f.payload ≤ largest_written) × (f.more ≡ true → length f.payload ≡ largest_written)
full_frame s f is = go s.acknowledgements is where
  by_choice : (o : Found) → option_map (λ found. first_piece found.0) o ≡ Some f → (length f.payload ≤ largest_written) × (f.more ≡ true → length f.payload ≡ largest_written)
  by_choice None e = absurd cc
  by_choice (Some (w, others)) e =
      subst (λ (g : FrameParts). (length g.payload ≤ largest_written) × (g.more ≡ true → length g.payload ≡ largest_written)) (some_same (first_piece w) f e) (full_piece w)

  go : (acks : List Acknowledgement) → picked_of acks s.waiting ≡ Some f → (length f.payload ≤ largest_written) × (f.more ≡ true → length f.payload ≡ largest_written)
  go (a ∷ acks) e =
      subst (λ (g : FrameParts). (length g.payload ≤ largest_written) × (g.more ≡ true → length g.payload ≡ largest_written)) (some_same (ack_frame a) f e) (varint_fits a.bytes, λ more. absurd cc)
  go [] e = by_choice (chosen s.waiting) e

pub all_full : (s : Sending) (frames : List FrameParts) (left : Sending) → ArePicked s frames left → AreFull frames
all_full s [] left all = tt
all_full s (f ∷ frames) left all = let full = full_frame s f all.0 in (full.0, full.1, all_full (after_picked s) frames left all.1)
