-- How many bytes of a message are sent and not acknowledged.
use Rattle.std.proofs.Common.{◌≡◌, ℕ, ◌-◌, Bool, true, false, ◌&&◌, cond, List, [], ◌∷◌, ◌++◌, Some, None, refl, sym, subst, arith}
use Rattle.std.specs.Prelude.{option_map}
use Rattle.std.specs.Option.{option_or, option_map_or}
use Rattle.std.specs.List.{AllByRecursion}
use Rattle.std.proofs.lemmas.Bool.{leb-true, and_parts}
use Rattle.blip_frame.specs.declared.frame.Kind.{Kind}
use Rattle.blip_mux.specs.Acknowledgements.{Acknowledgement}
use Rattle.blip_mux.specs.Sending.{Waiting, Sending, IsWithinLimit, may_send, pause_above, has_more, without_piece, back, taken_out, chosen, after_piece, picked_from, after_picked, is_of, acked, acked_in}
use Rattle.blip_mux.specs.Between.{Step, put, owe, take_ack, send, expect, sending_after, sending_in}
use Rattle.blip_mux.proofs.Cuts.{Found}

abbrev AreWithin : List Waiting → Type 0
AreWithin ws = AllByRecursion IsWithinLimit ws

within-append : (xs ys : List Waiting) → AreWithin xs → AreWithin ys → AreWithin (xs ++ ys)
within-append [] ys a b = b
within-append (x ∷ xs) ys a b = (a.0, within-append xs ys a.1 b)

-- a message that was taken out may send, and all are as they were
abbrev AreOut : Found → Type 0
AreOut None = Unit {0}
AreOut (Some found) = (may_send found.0 ≡ true) × IsWithinLimit found.0 × AreWithin found.1

out_within : (passes : Waiting → Bool) → ((w : Waiting) → passes w ≡ true → may_send w ≡ true) → (ws : List Waiting) → AreWithin ws → AreOut (taken_out passes ws)
out_within passes may [] all = tt
out_within passes may (w ∷ ws) all = go (passes w) (may w) (taken_out passes ws) (out_within passes may ws all.1) where
  go : (b : Bool) → (b ≡ true → may_send w ≡ true) → (o : Found) → AreOut o → AreOut (cond {A = Found} b (Some (w, ws)) (option_map (λ found. (found.0, w ∷ found.1)) o))
  go true is o rest = (is refl, all.0, all.1)
  go false is None rest = tt
  go false is (Some found) rest = (rest.0, rest.1, (all.0, rest.2))

chosen_within : (ws : List Waiting) → AreWithin ws → AreOut (chosen ws)
chosen_within ws all =
    go (taken_out (λ w. w.urgent && may_send w) ws) (out_within (λ w. w.urgent && may_send w) (λ w e. (and_parts w.urgent (may_send w) e).1) ws all) where
      go : (o : Found) → AreOut o → AreOut (option_or o (taken_out may_send ws))
      go None none = out_within may_send (λ w e. e) ws all
      go (Some found) some = some

back_within : (w : Waiting) → may_send w ≡ true → AreWithin (back w)
back_within w may = go (has_more w) where
  go : (b : Bool) → AreWithin (cond b (without_piece w ∷ []) [])
  go true = let low = leb-true (w.sent - w.acknowledged) pause_above may in (omega arith, tt)
  go false = tt

piece_within : (ws : List Waiting) → AreWithin ws → AreWithin (after_piece ws)
piece_within ws all = go (chosen ws) (chosen_within ws all) where
  go : (o : Found) → AreOut o → AreWithin (option_map_or (λ found. found.1 ++ back found.0) o ws)
  go None none = all
  go (Some found) some = within-append found.1 (back found.0) some.2 (back_within found.0 some.0)

acked_within : (kind : Kind) (number bytes : ℕ) (ws : List Waiting) → AreWithin ws → AreWithin (acked_in kind number bytes ws)
acked_within kind number bytes [] all = tt
acked_within kind number bytes (w ∷ ws) all = go (is_of kind number w) (acked_within kind number bytes ws all.1) where
  go : (b : Bool) → AreWithin (acked_in kind number bytes ws) → AreWithin (cond b (acked bytes w ∷ ws) (w ∷ acked_in kind number bytes ws))
  go true rest = let w_within = all.0 in (omega arith, all.1)
  go false rest = (all.0, rest)

picked_within : (s : Sending) → AreWithin s.waiting → AreWithin (after_picked s).waiting
picked_within s all = go s.acknowledgements where
  go : (acks : List Acknowledgement) → AreWithin (picked_from acks s).waiting
  go [] = piece_within s.waiting all
  go (a ∷ acks) = all

step_within : (s : Sending) (step : Step) → AreWithin s.waiting → AreWithin (sending_after s step).waiting
step_within s (put m) all = within-append s.waiting _ all (omega arith, tt)
step_within s (owe a) all = all
step_within s (take_ack kind number bytes) all = acked_within kind number bytes s.waiting all
step_within s send all = picked_within s all
step_within s (expect number) all = all

steps_within : (s : Sending) (steps : List Step) → AreWithin s.waiting → AreWithin (sending_in s steps).waiting
steps_within s [] all = all
steps_within s (step ∷ steps) all = steps_within (sending_after s step) steps (step_within s step all)

pub within : (s : Sending) (steps : List Step) → s.waiting ≡ [] → AreWithin (sending_in s steps).waiting
within s steps none = steps_within s steps (subst AreWithin (sym none) tt)
