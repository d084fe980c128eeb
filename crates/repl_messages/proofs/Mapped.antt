-- Values and texts that are made of items, one item after another.
use native.Mathlib.Omega.{arith}
use Rattle.std.proofs.Common.{◌≡◌, ℕ, zero, suc, ◌+◌, ◌<◌, List, [], ◌∷◌, ◌++◌, append_assoc, map, drop, length, get_or, refl, sym, ap, ◌∙◌}
use Rattle.std.specs.List.{flat_map}
use Rattle.std.proofs.lemmas.List.{map-append}
use Rattle.serde_json.specs.Data.{Data}
use Rattle.serde_json.specs.View.{view}
use Rattle.serde_json.specs.declared.value.Value.{Value}

mapped_from : {A : Type 0} (f : A → Data) (xs : List A) (i : ℕ) (x : A) → i < length xs → x ≡ get_or xs i x
    → map f (drop i xs) ≡ f x ∷ map f (drop (suc i) xs)
mapped_from f [] i x low e = absurd (omega (arith, low))
mapped_from f (y ∷ ys) zero x low e = ap (λ z. f z ∷ map f ys) (sym e)
mapped_from f (y ∷ ys) (suc i) x low e = mapped_from f ys i x (omega (arith, low)) e

-- one value more: those so far and those of the items that are left are still those of all items
pub mapped_more : {A : Type 0} (f : A → Data) (xs : List A) (i : ℕ) (x : A) (v : Value) (vs more : List Value) → i < length xs → x ≡ get_or xs i x
    → view v ≡ f x → more ≡ vs ++ v ∷ [] → map view vs ++ map f (drop i xs) ≡ map f xs → map view more ++ map f (drop (i + 1) xs) ≡ map f xs
mapped_more f xs i x v vs more low e same pushed so_far =
    let next : i + 1 ≡ suc i = omega arith in
    rw (pushed, next, map-append, append_assoc, same) (ap (λ (ds : List Data). map view vs ++ ds) (sym (mapped_from f xs i x low e)) ∙ so_far)

flat_from : {A : Type 0} (f : A → List ℕ) (xs : List A) (i : ℕ) (x : A) → i < length xs → x ≡ get_or xs i x
    → flat_map f (drop i xs) ≡ f x ++ flat_map f (drop (suc i) xs)
flat_from f [] i x low e = absurd (omega (arith, low))
flat_from f (y ∷ ys) zero x low e = ap (λ z. f z ++ flat_map f ys) (sym e)
flat_from f (y ∷ ys) (suc i) x low e = flat_from f ys i x (omega (arith, low)) e

-- the same of the text of one item more
pub flat_more : {A : Type 0} (f : A → List ℕ) (xs : List A) (i : ℕ) (x : A) (text more all : List ℕ) → i < length xs → x ≡ get_or xs i x
    → more ≡ text ++ f x → text ++ flat_map f (drop i xs) ≡ all → more ++ flat_map f (drop (i + 1) xs) ≡ all
flat_more f xs i x text more all low e pushed so_far =
    let next : i + 1 ≡ suc i = omega arith in
    rw (pushed, next, append_assoc) (ap (λ (t : List ℕ). text ++ t) (sym (flat_from f xs i x low e)) ∙ so_far)

-- three values that were put one after another, and what was put behind them
pub three_pushed : (vs0 vs1 vs2 vs3 vs : List Value) (a b c : Value) (rest : List Data) → vs0 ≡ [] → vs1 ≡ vs0 ++ a ∷ [] → vs2 ≡ vs1 ++ b ∷ []
    → vs3 ≡ vs2 ++ c ∷ [] → map view vs ≡ map view vs3 ++ rest → map view vs ≡ view a ∷ view b ∷ view c ∷ rest
three_pushed vs0 vs1 vs2 vs3 vs a b c rest none first second third last = rw (last, third, second, first, none) refl
