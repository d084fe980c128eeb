-- the places of documents by the sequences of their first writes
use Rattle.std.proofs.Common.{◌≡◌, ◌≢◌, ◌⊎◌, inl, inr, ◌||◌, ◌<◌, ◌+◌, ℕ, zero, suc, refl, sym, ◌∙◌, ap, subst, arith, Bool, true, false, if◌then◌else◌, List, [], ◌∷◌, ◌++◌, length, map, Option, Some, None, nat_eq}
use Rattle.std.specs.Prelude.{slice_get, slice_set}
use Rattle.std.specs.BTreeMap.{BTreeMap, get}
use Rattle.std.specs.Ordering.{nat_cmp}
use Rattle.std.specs.Str.{bytes_eq}
use Rattle.std.specs.Cmp.Lexicographic.{bytes_decides}
use Rattle.std.proofs.lemmas.Bool.{eq-eqb, eqb-true, false≢true, ne_eqb}
use Rattle.std.proofs.lemmas.Option.{none-some, same_Some}
use Rattle.sg_history.specs.declared.entries.Entry.{Entry}
use Rattle.sg_history.specs.declared.entries.Write.{Write}
use Rattle.sg_history.specs.History.{among, write_to}
use Rattle.log_index.specs.Places.{earlier_or, first_seq}
use Rattle.log_index.proofs.Firsts.{one_first}
use Rattle.changes_feed.specs.inner.Segment.{ArePlaced}

-- a first write stays the first
first_stays : (e : Entry) (older : List Entry) (doc : List ℕ) → 0 < first_seq older doc → first_seq (e ∷ older) doc ≡ first_seq older doc
first_stays e older doc pos = by (write_to e doc) (first_seq older doc) refl pos
  where
    by : (o : Option Write) (n : ℕ) → first_seq older doc ≡ n → 0 < n → earlier_or o (length older + 1) n ≡ n
    by None n is pos = refl
    by (Some w) zero is pos = absurd (omega (arith, pos))
    by (Some w) (suc n) is pos = refl

pub placed_more : (e : Entry) (older : List Entry) (names : List (List ℕ)) (places : BTreeMap ℕ ℕ) → ArePlaced older names places → ArePlaced (e ∷ older) names places
placed_more e older names places are = record {
  there = λ p name at.
      let one = are.there p name at in
      let same = first_stays e older name one.0 in
      (omega (arith, one.0, same), ap (get nat_cmp places) same ∙ one.1);
  only = λ seq p is.
      let one = are.only seq p is in
      (one.0, one.1, first_stays e older one.0 (are.there p one.0 one.1).0 ∙ one.2);
}

-- the document of a first write stands there
pub placed_is : (es : List Entry) (names : List (List ℕ)) (places : BTreeMap ℕ ℕ) (doc : List ℕ) (p : ℕ) → ArePlaced es names places → get nat_cmp places (first_seq es doc) ≡ Some p → slice_get names p ≡ Some doc
placed_is es names places doc p are is =
    let one = are.only (first_seq es doc) p is in
    one.1 ∙ ap (λ (n : List ℕ). Some n) (one_first es one.0 doc (are.there p one.0 one.1).0 one.2)

-- what is among names stands somewhere
pub stands_among : (names : List (List ℕ)) (doc : List ℕ) → among names doc ≡ true → (p : ℕ) × (slice_get names p ≡ Some doc)
stands_among [] doc is = absurd (false≢true is)
stands_among (n ∷ names) doc is = by (bytes_eq n doc) refl is (λ h. stands_among names doc h)
  where
    by : (b : Bool) → bytes_eq n doc ≡ b → among (n ∷ names) doc ≡ true → (among names doc ≡ true → (p : ℕ) × (slice_get names p ≡ Some doc)) → (p : ℕ) × (slice_get (n ∷ names) p ≡ Some doc)
    by true same is rest = (0, ap (λ (x : List ℕ). Some x) ((bytes_decides n doc).0 same))
    by false other is rest =
        let one = rest (sym (ap (λ (b : Bool). b || among names doc) other) ∙ is) in
        (suc one.0, one.1)

pub is_among : (names : List (List ℕ)) (doc : List ℕ) (p : ℕ) → slice_get names p ≡ Some doc → among names doc ≡ true
is_among [] doc p is = absurd (none-some doc is)
is_among (n ∷ names) doc zero is = ap (λ (b : Bool). b || among names doc) ((bytes_decides n doc).1 (same_Some n doc is))
is_among (n ∷ names) doc (suc p) is = by (bytes_eq n doc) (is_among names doc p is)
  where
    by : (b : Bool) → among names doc ≡ true → (b || among names doc) ≡ true
    by true rest = refl
    by false rest = rest

-- a document whose first write has no place is not there
pub not_placed : (es : List Entry) (names : List (List ℕ)) (places : BTreeMap ℕ ℕ) (doc : List ℕ) → ArePlaced es names places → get nat_cmp places (first_seq es doc) ≡ None → among names doc ≡ false
not_placed es names places doc are none = by (among names doc) refl
  where
    by : (b : Bool) → among names doc ≡ b → b ≡ false
    by false is = refl
    by true is =
        let one = stands_among names doc is in
        absurd (none-some one.0 (sym none ∙ (are.there one.0 doc one.1).1))

-- behind the others
pub left_there : (names : List (List ℕ)) (x name : List ℕ) (p : ℕ) → slice_get names p ≡ Some name → slice_get (names ++ x ∷ []) p ≡ Some name
left_there [] x name p is = absurd (none-some name is)
left_there (n ∷ names) x name zero is = is
left_there (n ∷ names) x name (suc p) is = left_there names x name p is

pub last_there : (names : List (List ℕ)) (x : List ℕ) → slice_get (names ++ x ∷ []) (length names) ≡ Some x
last_there [] x = refl
last_there (n ∷ names) x = last_there names x

either_there : (names : List (List ℕ)) (x name : List ℕ) (p : ℕ) → slice_get (names ++ x ∷ []) p ≡ Some name → (slice_get names p ≡ Some name) ⊎ ((p ≡ length names) × (x ≡ name))
either_there [] x name zero is = inr (refl, same_Some x name is)
either_there [] x name (suc p) is = absurd (none-some name is)
either_there (n ∷ names) x name zero is = inl is
either_there (n ∷ names) x name (suc p) is = by (either_there names x name p is)
  where
    by : (slice_get names p ≡ Some name) ⊎ ((p ≡ length names) × (x ≡ name)) → (slice_get names p ≡ Some name) ⊎ ((suc p ≡ length (n ∷ names)) × (x ≡ name))
    by (inl is) = inl is
    by (inr two) = inr (omega (arith, two.0), two.1)

-- one document more
module _ (es : List Entry) (names : List (List ℕ)) (old new : BTreeMap ℕ ℕ) (doc : List ℕ) (first : ℕ) (are : ArePlaced es names old) (own : first ≡ first_seq es doc) (pos : 0 < first) (free : get nat_cmp old first ≡ None)
    (put : (seq : ℕ) → get nat_cmp new seq ≡ (if nat_eq first seq then Some (length names) else get nat_cmp old seq)) where
  others : (seq : ℕ) → first ≢ seq → get nat_cmp new seq ≡ get nat_cmp old seq
  others seq not = put seq ∙ ap (λ (b : Bool). if b then Some (length names) else get nat_cmp old seq) (ne_eqb first seq not)

  here : get nat_cmp new (first_seq es doc) ≡ Some (length names)
  here = put (first_seq es doc) ∙ ap (λ (b : Bool). if b then Some (length names) else get nat_cmp old (first_seq es doc)) (eq-eqb first (first_seq es doc) own)

  there : (p : ℕ) (name : List ℕ) → slice_get (names ++ doc ∷ []) p ≡ Some name → (0 < first_seq es name) × (get nat_cmp new (first_seq es name) ≡ Some p)
  there p name is = by (either_there names doc name p is)
    where
      by : (slice_get names p ≡ Some name) ⊎ ((p ≡ length names) × (doc ≡ name)) → (0 < first_seq es name) × (get nat_cmp new (first_seq es name) ≡ Some p)
      by (inl at) =
          let one = are.there p name at in
          (one.0, others (first_seq es name) (λ same. none-some p (sym (ap (get nat_cmp old) (sym same) ∙ free) ∙ one.1)) ∙ one.1)
      by (inr two) =
          subst (λ (n : List ℕ). (0 < first_seq es n) × (get nat_cmp new (first_seq es n) ≡ Some p)) two.1
          (omega (arith, own, pos), here ∙ ap (λ (n : ℕ). Some n) (sym two.0))

  only : (seq p : ℕ) → get nat_cmp new seq ≡ Some p → (name : List ℕ) × (slice_get (names ++ doc ∷ []) p ≡ Some name) × (first_seq es name ≡ seq)
  only seq p is = by (nat_eq first seq) refl
    where
      by : (b : Bool) → nat_eq first seq ≡ b → (name : List ℕ) × (slice_get (names ++ doc ∷ []) p ≡ Some name) × (first_seq es name ≡ seq)
      by true same =
          let at : length names ≡ p = same_Some (length names) p (sym (put seq ∙ ap (λ (b : Bool). if b then Some (length names) else get nat_cmp old seq) same) ∙ is) in
          (doc, ap (slice_get (names ++ doc ∷ [])) (sym at) ∙ last_there names doc, sym own ∙ eqb-true first seq same)
      by false other =
          let one = are.only seq p (sym (put seq ∙ ap (λ (b : Bool). if b then Some (length names) else get nat_cmp old seq) other) ∙ is) in
          (one.0, left_there names doc one.0 p one.1, one.2)

  pub placed_one : ArePlaced es (names ++ doc ∷ []) new
  placed_one = record { there = there; only = only }

-- names, each of which stands once, with what is said of one of them set
pub set_one : {X : Type 0} (f g : List ℕ → X) (names : List (List ℕ)) (p : ℕ) (doc : List ℕ) → slice_get names p ≡ Some doc → ((q : ℕ) (n : List ℕ) → slice_get names q ≡ Some n → q ≢ p → f n ≡ g n) → slice_set (map f names) p (g doc) ≡ map g names
set_one f g [] p doc is others = absurd (none-some doc is)
set_one f g (n ∷ names) zero doc is others =
    ap (λ x. g x ∷ map f names) (sym (same_Some n doc is)) ∙ ap (λ xs. g n ∷ xs) (all names (λ q m at. others (suc q) m at (λ same. omega (arith, same))))
  where
    all : (ns : List (List ℕ)) → ((q : ℕ) (m : List ℕ) → slice_get ns q ≡ Some m → f m ≡ g m) → map f ns ≡ map g ns
    all [] each = refl
    all (m ∷ ms) each = ap (λ x. x ∷ map f ms) (each 0 m refl) ∙ ap (λ xs. g m ∷ xs) (all ms (λ q x at. each (suc q) x at))
set_one f g (n ∷ names) (suc p) doc is others =
    ap (λ x. x ∷ slice_set (map f names) p (g doc)) (others 0 n refl (λ same. omega (arith, same)))
    ∙ ap (λ xs. g n ∷ xs) (set_one f g names p doc is (λ q m at not. others (suc q) m at (λ same. not (omega (arith, same)))))

-- two places of one name are one
pub one_place : (es : List Entry) (names : List (List ℕ)) (places : BTreeMap ℕ ℕ) → ArePlaced es names places → (p q : ℕ) (name : List ℕ) → slice_get names p ≡ Some name → slice_get names q ≡ Some name → p ≡ q
one_place es names places are p q name here there =
    same_Some p q (sym (are.there p name here).1 ∙ (are.there q name there).1)
