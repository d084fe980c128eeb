-- whether facts are the same, and equality
use Rattle.std.proofs.Common.{◌≡◌, ◌≢◌, ◌<◌, ◌+◌, ◌∙◌, refl, sym, ap, arith, ℕ, Bool, true, false, ◌&&◌, List, [], ◌∷◌, length, drop, get_or}
use Rattle.std.specs.Prelude.{nat_eq}
use Rattle.std.specs.Cmp.Lexicographic.{bytes_decides}
use Rattle.std.proofs.lemmas.Bool.{false≢true}
use Rattle.sg_names.specs.declared.grants.Grantee.{Grantee}
use Rattle.sg_names.specs.declared.grants.Grantee.TheVariants.{User, Role}
use Rattle.sg_history.specs.Principals.{same_grantee}
use Rattle.grant_tracks.proofs.Same.{text_itself, what_itself, whats}
use Rattle.grant_tracks.specs.declared.things.What.{What}
use Rattle.grant_history.specs.declared.facts.Fact.{Fact}
use Rattle.grant_tracks.specs.What.{same_what}
use Rattle.grant_history.specs.Facts.{same_fact, same_facts}
use Rattle.grant_tracks.proofs.Gathered.{split}

pub grantees : (a b : Grantee) → same_grantee a b ≡ true → a ≡ b
grantees (User a) (User b) h = ap (λ (x : List ℕ). User x) ((bytes_decides a b).0 h)
grantees (User a) (Role b) h = absurd (false≢true h)
grantees (Role a) (User b) h = absurd (false≢true h)
grantees (Role a) (Role b) h = ap (λ (x : List ℕ). Role x) ((bytes_decides a b).0 h)

pub grantee_itself : (a : Grantee) → same_grantee a a ≡ true
grantee_itself (User a) = text_itself a
grantee_itself (Role a) = text_itself a

pub fact_itself : (a : Fact) → same_fact a a ≡ true
fact_itself a = ap (λ (b : Bool). b && same_what a.what a.what) (grantee_itself a.of) ∙ what_itself a.what

two : (a b : Bool) → (a && b) ≡ true → (a ≡ true) × (b ≡ true)
two true b h = (refl, h)
two false b h = absurd (false≢true h)

facts : (a b : Fact) → same_fact a b ≡ true → a ≡ b
facts a b h =
    let both = two (same_grantee a.of b.of) (same_what a.what b.what) h in
    ap (λ (of : Grantee). record { of = of; what = a.what }) (grantees a.of b.of both.0) ∙ ap (λ (w : What). record { of = b.of; what = w }) (whats a.what b.what both.1)

pub same_lists : (xs ys : List Fact) → same_facts xs ys ≡ true → xs ≡ ys
same_lists [] [] h = refl
same_lists [] (y ∷ ys) h = absurd (false≢true h)
same_lists (x ∷ xs) [] h = absurd (false≢true h)
same_lists (x ∷ xs) (y ∷ ys) h =
    let both = two (same_fact x y) (same_facts xs ys) h in
    ap (λ (z : Fact). z ∷ xs) (facts x y both.0) ∙ ap (λ (l : List Fact). y ∷ l) (same_lists xs ys both.1)

pub list_itself : (xs : List Fact) → same_facts xs xs ≡ true
list_itself [] = refl
list_itself (x ∷ xs) = ap (λ (b : Bool). b && same_facts xs xs) (fact_itself x) ∙ list_itself xs

-- lists that are not of the same length
pub apart_lists : (xs ys : List Fact) → length xs ≢ length ys → same_facts xs ys ≡ false
apart_lists [] [] h = absurd (h refl)
apart_lists [] (y ∷ ys) h = refl
apart_lists (x ∷ xs) [] h = refl
apart_lists (x ∷ xs) (y ∷ ys) h = ap (λ (b : Bool). same_fact x y && b) (apart_lists xs ys (λ same. h (omega (arith, same)))) ∙ none (same_fact x y)
  where
    none : (b : Bool) → (b && false) ≡ false
    none true = refl
    none false = refl

-- one of each more, in a loop over both
module _ (xs ys : List Fact) (i : ℕ) (x y : Fact) (low : i < length xs) (within : i < length ys) (first : x ≡ get_or xs i x) (second : y ≡ get_or ys i y) where
  next_facts : same_facts (drop i xs) (drop i ys) ≡ (same_fact x y && same_facts (drop (i + 1) xs) (drop (i + 1) ys))
  next_facts =
      ap (λ (l : List Fact). same_facts l (drop i ys)) (sym (split xs i x low first))
      ∙ ap (λ (l : List Fact). same_facts (x ∷ drop (i + 1) xs) l) (sym (split ys i y within second))

  pub next_same : same_fact x y ≡ true → same_facts (drop (i + 1) xs) (drop (i + 1) ys) ≡ same_facts (drop i xs) (drop i ys)
  next_same h = sym (next_facts ∙ ap (λ (b : Bool). b && same_facts (drop (i + 1) xs) (drop (i + 1) ys)) h)

  pub next_apart : same_fact x y ≡ false → same_facts (drop i xs) (drop i ys) ≡ false
  next_apart h = next_facts ∙ ap (λ (b : Bool). b && same_facts (drop (i + 1) xs) (drop (i + 1) ys)) h

-- what gives nothing gives these where there are none
pub none_same : (xs : List Fact) (empty : Bool) → empty ≡ nat_eq (length xs) 0 → empty ≡ same_facts [] xs
none_same [] empty h = h ∙ none
  where
    none : nat_eq 0 0 ≡ true
    none = refl
none_same (x ∷ xs) empty h = h ∙ some (length (x ∷ xs)) (omega arith)
  where
    some : (n : ℕ) → 0 < n → nat_eq n 0 ≡ false
    some n pos = grind (arith, pos)
