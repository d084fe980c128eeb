-- what is kept of new states once those of one entry more are
use Rattle.std.proofs.Common.{◌≡◌, ◌≢◌, ◌<◌, ◌≤◌, ◌+◌, ℕ, zero, suc, refl, ◌∙◌, ap, arith, Bool, if◌then◌else◌, List, [], ◌∷◌, ◌++◌, length, Option, Some, None}
use Rattle.std.specs.Prelude.{slice_get, nat_eq}
use Rattle.std.specs.BTreeMap.{is_at}
use Rattle.std.specs.Map.{lookup}
use Rattle.std.specs.Ordering.{nat_cmp}
use Rattle.std.proofs.lemmas.Bool.{eq-eqb, ne_eqb}
use Rattle.std.proofs.lemmas.List.{length-append}
use Rattle.log_index.specs.declared.marks.Marked.{Marked}
use Rattle.grant_history.specs.declared.states.StateList.{StateList}
use Rattle.grant_history.specs.inner.MoreStates.{HasNoneAbove, IsOneMore}
use Rattle.grant_history.specs.NewStates.{KeptStates, list_of, winner_in}

-- what is kept at a place
abbrev pub look : {X : Type 0} → List (ℕ × X) → ℕ → Option X
look kept i = lookup (is_at (nat_cmp i)) kept

-- what a map has once it has a value at a place, where there is one
abbrev pub with_at : {X : Type 0} → ℕ → Option X → ℕ → Option X → Option X
with_at n None i old = old
with_at n (Some v) i old = if nat_eq n i then Some v else old

got_left : (xs ys : List ℕ) (i : ℕ) → i < length xs → slice_get (xs ++ ys) i ≡ slice_get xs i
got_left [] ys i h = absurd (omega (arith, h))
got_left (x ∷ xs) ys zero h = refl
got_left (x ∷ xs) ys (suc i) h = got_left xs ys i (omega (arith, h))

got_seam : (xs : List ℕ) (y : ℕ) → slice_get (xs ++ y ∷ []) (length xs) ≡ Some y
got_seam [] y = refl
got_seam (x ∷ xs) y = got_seam xs y

elsewhere : {X : Type 0} → (n i : ℕ) (w : Option X) (old : Option X) → n ≢ i → with_at n w i old ≡ old
elsewhere n i None old apart = refl
elsewhere {X} n i (Some v) old apart = ap (λ (b : Bool). if b then Some v else old) (ne_eqb n i apart)

there : {X : Type 0} → (n : ℕ) (w : Option X) (old : Option X) → old ≡ None → with_at n w n old ≡ w
there n None old none = none
there {X} n (Some v) old none = ap (λ (b : Bool). if b then Some v else old) (eq-eqb n n refl)

pub one_more : (old new : KeptStates) (w : ℕ) (m : Option Marked) (l : Option StateList) → HasNoneAbove old → new.winners ≡ old.winners ++ w ∷ []
    → ((i : ℕ) → look new.marks i ≡ with_at (length old.winners) m i (look old.marks i))
    → ((i : ℕ) → look new.lists i ≡ with_at (length old.winners) l i (look old.lists i))
    → IsOneMore old new (winner_in (Some w) m) (list_of l)
one_more old new w m l none winners marks lists = record {
  above = λ i le.
      let past : length old.winners ≤ i = omega (arith, le, count) in
      let apart : length old.winners ≢ i = λ same. omega (arith, le, count, same) in
      (marks i ∙ elsewhere (length old.winners) i m (look old.marks i) apart ∙ (none i past).0, lists i ∙ elsewhere (length old.winners) i l (look old.lists i) apart ∙ (none i past).1);
  count = count;
  written =
      ap (λ (o : Option ℕ). winner_in o (look new.marks (length old.winners))) (ap (λ (ws : List ℕ). slice_get ws (length old.winners)) winners ∙ got_seam old.winners w)
      ∙ ap (λ (o : Option Marked). winner_in (Some w) o) (marks (length old.winners) ∙ there (length old.winners) m (look old.marks (length old.winners)) (none (length old.winners) (omega arith)).0);
  marked = ap list_of (lists (length old.winners) ∙ there (length old.winners) l (look old.lists (length old.winners)) (none (length old.winners) (omega arith)).1);
  written_before = λ i low.
      let apart : length old.winners ≢ i = λ same. omega (arith, low, same) in
      ap (λ (o : Option ℕ). winner_in o (look new.marks i)) (ap (λ (ws : List ℕ). slice_get ws i) winners ∙ got_left old.winners (w ∷ []) i low)
      ∙ ap (λ (o : Option Marked). winner_in (slice_get old.winners i) o) (marks i ∙ elsewhere (length old.winners) i m (look old.marks i) apart);
  marked_before = λ i low.
      let apart : length old.winners ≢ i = λ same. omega (arith, low, same) in
      ap list_of (lists i ∙ elsewhere (length old.winners) i l (look old.lists i) apart);
}
  where
    count : length new.winners ≡ length old.winners + 1
    count = omega (arith, ap length winners, length-append old.winners (w ∷ []))
