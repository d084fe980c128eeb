-- the pieces of a text are one more than the bytes that part them
use Rattle.std.proofs.Common.{◌≡◌, ℕ, zero, suc, ◌+◌, ◌-◌, ◌<◌, Bool, true, false, List, [], ◌∷◌, length, get_or, drop, drop-cons, add-one, refl, ap, ◌∙◌, arith, if◌then◌else◌}
use Rattle.std.specs.Prelude.{nat_eq}
use Rattle.std.proofs.lemmas.List.{drop_all}
use Rattle.memchr.specs.Find.{is_byte, places, places_from}
use Rattle.sg_history.specs.Pieces.{begin_with, pieces}
use Rattle.sg_history.proofs.PieceLemmas.{pieces-some}

begun_length : (b : ℕ) (ps : List (List ℕ)) → 0 < length ps → length (begin_with b ps) ≡ length ps
begun_length b [] some = absurd (omega (arith, some))
begun_length b (p ∷ ps) some = refl

one_more : (at b : ℕ) (bs : List ℕ) (here : Bool) → length (if here then [] ∷ pieces at bs else begin_with b (pieces at bs)) ≡ (if here then 1 else 0) + length (pieces at bs)
one_more at b bs true = omega arith
one_more at b bs false = omega (arith, begun_length b (pieces at bs) (pieces-some at bs))

places_next : (at : ℕ) (text : List ℕ) (i n : ℕ)
    → length (places_from (is_byte at) text i (suc n)) ≡ (if nat_eq (get_or text i 0) at then 1 else 0) + length (places_from (is_byte at) text (i + 1) n)
unfolding places_from
places_next at text i n = go (nat_eq (get_or text i 0) at)
  where
    go : (here : Bool) → length (if here then i ∷ places_from (is_byte at) text (i + 1) n else places_from (is_byte at) text (i + 1) n)
        ≡ (if here then 1 else 0) + length (places_from (is_byte at) text (i + 1) n)
    go true = omega arith
    go false = omega arith

places_none : (at : ℕ) (text : List ℕ) (i : ℕ) → length (places_from (is_byte at) text i 0) ≡ 0
unfolding places_from
places_none at text i = refl

counted_from : (at : ℕ) (text : List ℕ) (i n : ℕ) → i + n ≡ length text → length (places_from (is_byte at) text i n) + 1 ≡ length (pieces at (drop i text))
counted_from at text i zero all =
    let none : drop i text ≡ [] = drop_all i text (omega (arith, all)) in
    omega (arith, places_none at text i, ap (λ (l : List ℕ). length (pieces at l)) none)
counted_from at text i (suc n) all =
    let inside : i < length text = omega (arith, all) in
    let cut : drop i text ≡ get_or text i 0 ∷ drop (i + 1) text = rw add-one (drop-cons text i 0 inside) in
    let more = counted_from at text (i + 1) n (omega (arith, all)) in
    let parts = ap (λ (l : List ℕ). length (pieces at l)) cut ∙ one_more at (get_or text i 0) (drop (i + 1) text) (nat_eq (get_or text i 0) at) in
    omega (arith, places_next at text i n, more, parts)

pub counted : (at : ℕ) (text : List ℕ) → length (places (is_byte at) text) + 1 ≡ length (pieces at text)
counted at text =
    let all : length text - 0 ≡ length text = omega arith in
    ap (λ (n : ℕ). length (places_from (is_byte at) text 0 n) + 1) all ∙ counted_from at text 0 (length text) (omega arith)
