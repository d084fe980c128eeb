-- where a text is cut at a byte
use Rattle.std.proofs.Common.{◌≡◌, ◌≢◌, ℕ, ◌+◌, ◌<◌, true, not, List, [], ◌∷◌, ◌++◌, length, get_or, refl, sym, ap, ◌∙◌, arith, add-one}
use Rattle.std.specs.Prelude.{nat_eq, IsTrue, IfSome, IfNone, Option, Some, None}
use denote.Ref.{Bor}
use Rattle.std.proofs.lemmas.Str.Pattern.{IsSplitOnceResult, split_parts}
use Rattle.std.proofs.lemmas.Bool.{and_parts, and_from, not_from_false, not_from_true, ne_eqb, eq-eqb}
use Rattle.std.proofs.lemmas.List.Folds.{list_all-append}
use Rattle.sg_names.specs.Grammar.{lacks}

-- what stands at no place is lacking
pub lacks-from_places : (c : ℕ) (text : List ℕ) → ((i : ℕ) → i < length text → get_or text i 0 ≢ c) → lacks c text ≡ true
lacks-from_places c [] apart = refl
lacks-from_places c (b ∷ bs) apart =
    and_from _ _ (not_from_false (nat_eq b c) (ne_eqb b c (apart 0 (omega arith))))
    (lacks-from_places c bs (λ i inside. rw add-one at (apart (i + 1) (omega arith))))

-- a byte that stands somewhere is not lacking
pub lacks_seam : (c : ℕ) (text front back : List ℕ) → lacks c text ≡ true → text ≢ front ++ c ∷ back
lacks_seam c text front back none e =
    let whole = sym (ap (lacks c) e ∙ list_all-append (λ b. not (nat_eq b c)) front (c ∷ back)) ∙ none in
    let behind = (and_parts (lacks c front) (lacks c (c ∷ back)) whole).1 in
    let here = (and_parts (not (nat_eq c c)) (lacks c back) behind).0 in
    cc (here, not_from_true (nat_eq c c) (eq-eqb c c refl))

-- there is one first place
pub cut_same : (c : ℕ) (front back start rest : List ℕ) → lacks c front ≡ true → lacks c start ≡ true
    → front ++ c ∷ back ≡ start ++ c ∷ rest → (front ≡ start) × (back ≡ rest)
cut_same c [] back [] rest f s e = (refl, cc)
cut_same c [] back (b ∷ start) rest f s e = absurd (lacks_seam c (b ∷ start) [] start s (cc))
cut_same c (b ∷ front) back [] rest f s e = absurd (lacks_seam c (b ∷ front) [] front f (cc))
cut_same c (a ∷ front) back (b ∷ start) rest f s e =
    let heads : a ≡ b = cc in
    let tails : front ++ c ∷ back ≡ start ++ c ∷ rest = cc in
    let again : (front ≡ start) × (back ≡ rest) = cut_same c front back start rest (and_parts _ _ f).1 (and_parts _ _ s).1 tails in
    ((λ i. heads i ∷ again.0 i), again.1)

-- what `split_once` gives
pub cut_some : (c : ℕ) (text : List ℕ) (r : Option (Bor (List ℕ) × Bor (List ℕ))) → IsSplitOnceResult c text r → c < 128
    → IfSome r (λ p. (text ≡ p.0.now ++ c ∷ p.1.now) × IsTrue (lacks c p.0.now))
cut_some c text None split small = tt
cut_some c text (Some p) split small =
    let parts = split_parts c text (Some p) split small in (parts.0, lacks-from_places c p.0.now parts.1)

pub cut_none : (c : ℕ) (text : List ℕ) (r : Option (Bor (List ℕ) × Bor (List ℕ))) → IsSplitOnceResult c text r → c < 128
    → IfNone r (IsTrue (lacks c text))
cut_none c text None split small = lacks-from_places c text (split_parts c text None split small)
cut_none c text (Some p) split small = tt
