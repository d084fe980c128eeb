-- One message among others, as frames are picked.
use Rattle.std.proofs.Common.{◌≡◌, ℕ, ◌+◌, ◌≤◌, Bool, true, false, ◌&&◌, cond, eqb, List, [], ◌∷◌, ◌++◌, length, take, drop, Some, None, refl, sym, ap, ◌∙◌, arith, append_assoc}
use Rattle.std.specs.Prelude.{not, option_map}
use Rattle.std.specs.Option.{option_map_or}
use Rattle.std.proofs.lemmas.Bool.{ltb-false, and_parts, not-true}
use Rattle.std.proofs.lemmas.List.{append-nil, take_all, take-append-drop}
use Rattle.blip_frame.specs.Frame.{FrameParts, largest_written, has_checksum}
use Rattle.blip_frame.specs.declared.frame.Kind.{Kind}
use Rattle.blip_mux.specs.Joining.{is_request, is_reply}
use Rattle.blip_mux.specs.Acknowledgements.{Acknowledgement, ack_frame}
use Rattle.blip_mux.specs.Sending.{Waiting, Sending, has_more, first_piece, without_piece, back, chosen, picked_of, after_picked, picked_from}
use Rattle.blip_mux.specs.Cutting.{ArePicked, are_acknowledgements, bytes_sent, bytes_left, times_waiting}
use Rattle.blip_mux.proofs.Classes.{no_request, no_reply}
use Rattle.blip_mux.proofs.Cuts.{Found, Split, split_chosen, some_same}

module _ (class : Kind → Bool) (number : ℕ) where
  -- whether it is the message
  abbrev pub is_it : Waiting → Bool
  is_it w = class w.kind && eqb number w.number

  pub left-append : (xs ys : List Waiting) → bytes_left class number (xs ++ ys) ≡ bytes_left class number xs ++ bytes_left class number ys
  left-append [] ys = refl
  left-append (x ∷ xs) ys = ap (λ (bs : List ℕ). cond (is_it x) x.rest [] ++ bs) (left-append xs ys) ∙ sym (append_assoc (cond (is_it x) x.rest []) (bytes_left class number xs) (bytes_left class number ys))

  pub times-append : (xs ys : List Waiting) → times_waiting class number (xs ++ ys) ≡ times_waiting class number xs + times_waiting class number ys
  times-append [] ys = omega arith
  times-append (x ∷ xs) ys = omega (arith, times-append xs ys)

  pub none_left : (ws : List Waiting) → times_waiting class number ws ≤ 0 → bytes_left class number ws ≡ []
  none_left [] h = refl
  none_left (w ∷ ws) h = go (is_it w) h (λ l. none_left ws l) where
    go : (t : Bool) → cond t 1 0 + times_waiting class number ws ≤ 0 → (times_waiting class number ws ≤ 0 → bytes_left class number ws ≡ []) → cond t w.rest [] ++ bytes_left class number ws ≡ []
    go true h rest = absurd (omega arith)
    go false h rest = rest (omega arith)

  -- how often it waits, by the message that is taken out
  pub times_split : (ws : List Waiting) (w : Waiting) (others : List Waiting) → Split ws w others → times_waiting class number ws ≡ cond (is_it w) 1 0 + times_waiting class number others
  times_split ws w others s =
      let a : times_waiting class number ws ≡ times_waiting class number (s.front ++ w ∷ s.rear) = ap (times_waiting class number) s.whole in
      let b : times_waiting class number others ≡ times_waiting class number (s.front ++ s.rear) = ap (times_waiting class number) s.left in
      omega (arith, a, b, times-append s.front (w ∷ s.rear), times-append s.front s.rear)

  pub times_back : (w : Waiting) → times_waiting class number (back w) ≤ cond (is_it w) 1 0
  times_back w = go (has_more w) (is_it w) where
    go : (b t : Bool) → times_waiting class number (cond b (without_piece w ∷ []) []) ≤ cond (is_it w) 1 0
    go true t = omega arith
    go false t = omega arith

  pub times_after : (ws : List Waiting) (w : Waiting) (others : List Waiting) → Split ws w others → times_waiting class number (others ++ back w) ≤ times_waiting class number ws
  times_after ws w others s = omega (arith, times_split ws w others s, times-append others (back w), times_back w)

  -- the next frame of the message and what it leaves are what was left of it
  cut_of : (w : Waiting) → is_it w ≡ true → take largest_written w.rest ++ bytes_left class number (back w) ≡ w.rest
  cut_of w it = go (has_more w) (λ m. ltb-false largest_written (length w.rest) m) where
    go : (b : Bool) → (b ≡ false → length w.rest ≤ largest_written) → take largest_written w.rest ++ bytes_left class number (cond b (without_piece w ∷ []) []) ≡ w.rest
    go true short =
        ap (λ (t : Bool). take largest_written w.rest ++ (cond t (drop largest_written w.rest) [] ++ [])) it
        ∙ ap (λ (bs : List ℕ). take largest_written w.rest ++ bs) (append-nil (drop largest_written w.rest))
        ∙ take-append-drop largest_written w.rest
    go false short = append-nil (take largest_written w.rest) ∙ take_all largest_written w.rest (short refl)

  -- another message leaves nothing of it
  none_of : (w : Waiting) → is_it w ≡ false → bytes_left class number (back w) ≡ []
  none_of w other = go (has_more w) where
    go : (b : Bool) → bytes_left class number (cond b (without_piece w ∷ []) []) ≡ []
    go true = ap (λ (t : Bool). cond t (drop largest_written w.rest) [] ++ []) other
    go false = refl

  -- a frame of one message, and what waits after it
  pub shared : (ws : List Waiting) (w : Waiting) (others : List Waiting) → Split ws w others → times_waiting class number ws ≤ 1
      → cond (is_it w) (take largest_written w.rest) [] ++ bytes_left class number (others ++ back w) ≡ bytes_left class number ws
  shared ws w others s once = go (is_it w) refl where
    left_is : (xs : List ℕ) → xs ++ bytes_left class number (others ++ back w) ≡ xs ++ ((bytes_left class number s.front ++ bytes_left class number s.rear) ++ bytes_left class number (back w))
    left_is xs = ap (λ (bs : List ℕ). xs ++ bs) (left-append others (back w) ∙ ap (λ (bs : List ℕ). bs ++ bytes_left class number (back w)) (ap (bytes_left class number) s.left ∙ left-append s.front s.rear))

    whole_is : bytes_left class number ws ≡ bytes_left class number s.front ++ (cond (is_it w) w.rest [] ++ bytes_left class number s.rear)
    whole_is = ap (bytes_left class number) s.whole ∙ left-append s.front (w ∷ s.rear)

    go : (t : Bool) → is_it w ≡ t → cond t (take largest_written w.rest) [] ++ bytes_left class number (others ++ back w) ≡ bytes_left class number ws
    go true it =
        let one : ◌≡◌ {A = ℕ} (cond (is_it w) 1 0) 1 = ap (λ (t : Bool). cond {A = ℕ} t 1 0) it in
        let apart : times_waiting class number s.front + times_waiting class number s.rear ≤ 0 =
        omega (arith, times_split ws w others s, ap (times_waiting class number) s.left, times-append s.front s.rear) in
        let front : bytes_left class number s.front ≡ [] = none_left s.front (omega arith) in
        let rear : bytes_left class number s.rear ≡ [] = none_left s.rear (omega arith) in
        left_is (take largest_written w.rest)
        ∙ ap (λ (bs : List ℕ). take largest_written w.rest ++ ((bs ++ bytes_left class number s.rear) ++ bytes_left class number (back w))) front
        ∙ ap (λ (bs : List ℕ). take largest_written w.rest ++ (bs ++ bytes_left class number (back w))) rear
        ∙ cut_of w it
        ∙ sym (append-nil w.rest)
        ∙ ap (λ (bs : List ℕ). w.rest ++ bs) (sym rear)
        ∙ ap (λ (t : Bool). cond t w.rest [] ++ bytes_left class number s.rear) (sym it)
        ∙ ap (λ (bs : List ℕ). bs ++ (cond (is_it w) w.rest [] ++ bytes_left class number s.rear)) (sym front)
        ∙ sym whole_is
    go false other =
        left_is []
        ∙ ap (λ (bs : List ℕ). (bytes_left class number s.front ++ bytes_left class number s.rear) ++ bs) (none_of w other)
        ∙ append-nil (bytes_left class number s.front ++ bytes_left class number s.rear)
        ∙ ap (λ (t : Bool). bytes_left class number s.front ++ (cond t w.rest [] ++ bytes_left class number s.rear)) (sym other)
        ∙ sym whole_is

  -- frame after frame
  pub all_shared : ((k : Kind) → has_checksum k ≡ false → class k ≡ false) → (s : Sending) (frames : List FrameParts) (left : Sending) → ArePicked s frames left
      → are_acknowledgements s.acknowledgements ≡ true → times_waiting class number s.waiting ≤ 1
      → bytes_sent class number frames ++ bytes_left class number left.waiting ≡ bytes_left class number s.waiting
  all_shared apart s [] left all acks once = ap (λ (t : Sending). bytes_left class number t.waiting) all
  all_shared apart s (f ∷ frames) left all acks once = go s.acknowledgements refl acks all.0 (λ waiting_acks few. all_shared apart (after_picked s) frames left all.1 waiting_acks few) where
    by_choice : (o : Found) → chosen s.waiting ≡ o → option_map (λ found. first_piece found.0) o ≡ Some f
        → (times_waiting class number (option_map_or (λ found. found.1 ++ back found.0) o s.waiting) ≤ 1
        → bytes_sent class number frames ++ bytes_left class number left.waiting ≡ bytes_left class number (option_map_or (λ found. found.1 ++ back found.0) o s.waiting))
        → bytes_sent class number (f ∷ frames) ++ bytes_left class number left.waiting ≡ bytes_left class number s.waiting
    by_choice None e is rest = absurd cc
    by_choice (Some (w, others)) e is rest =
        let split = split_chosen s.waiting w others e in
        let few = times_after s.waiting w others split in
        ap (λ (g : FrameParts). bytes_sent class number (g ∷ frames) ++ bytes_left class number left.waiting) (sym (some_same (first_piece w) f is))
        ∙ append_assoc (cond (is_it w) (take largest_written w.rest) []) (bytes_sent class number frames) (bytes_left class number left.waiting)
        ∙ ap (λ (bs : List ℕ). cond (is_it w) (take largest_written w.rest) [] ++ bs) (rest (omega arith))
        ∙ shared s.waiting w others split once

    go : (waiting_acks : List Acknowledgement) → s.acknowledgements ≡ waiting_acks → are_acknowledgements waiting_acks ≡ true → picked_of waiting_acks s.waiting ≡ Some f
        → (are_acknowledgements (picked_from waiting_acks s).acknowledgements ≡ true → times_waiting class number (picked_from waiting_acks s).waiting ≤ 1
        → bytes_sent class number frames ++ bytes_left class number left.waiting ≡ bytes_left class number (picked_from waiting_acks s).waiting)
        → bytes_sent class number (f ∷ frames) ++ bytes_left class number left.waiting ≡ bytes_left class number s.waiting
    go (a ∷ waiting_acks) e acks is rest =
        let parts = and_parts (not (has_checksum a.kind)) (are_acknowledgements waiting_acks) acks in
        let other : class a.kind ≡ false = apart a.kind (not-true (has_checksum a.kind) parts.0) in
        ap (λ (g : FrameParts). bytes_sent class number (g ∷ frames) ++ bytes_left class number left.waiting) (sym (some_same (ack_frame a) f is))
        ∙ ap (λ (t : Bool). (cond (t && eqb number a.number) (ack_frame a).payload [] ++ bytes_sent class number frames) ++ bytes_left class number left.waiting) other
        ∙ rest parts.1 once
    go [] e acks is rest = by_choice (chosen s.waiting) refl is (λ few. rest (ap are_acknowledgements e) few)

pub requests_shared : (number : ℕ) (s : Sending) (frames : List FrameParts) (left : Sending) → ArePicked s frames left → are_acknowledgements s.acknowledgements ≡ true → times_waiting is_request number s.waiting ≤ 1
    → bytes_sent is_request number frames ++ bytes_left is_request number left.waiting ≡ bytes_left is_request number s.waiting
requests_shared number = all_shared is_request number no_request

pub replies_shared : (number : ℕ) (s : Sending) (frames : List FrameParts) (left : Sending) → ArePicked s frames left → are_acknowledgements s.acknowledgements ≡ true → times_waiting is_reply number s.waiting ≤ 1
    → bytes_sent is_reply number frames ++ bytes_left is_reply number left.waiting ≡ bytes_left is_reply number s.waiting
replies_shared number = all_shared is_reply number no_reply
