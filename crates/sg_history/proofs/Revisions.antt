-- the revisions that were written, as keys of a set
use Rattle.std.proofs.Common.{◌≡◌, ℕ, Bool, true, false, ◌&&◌, ◌||◌, cond, List, [], ◌∷◌, map, refl, sym, ap, ◌∙◌}
use Rattle.std.specs.List.{list_any}
use Rattle.std.specs.Str.{bytes_eq}
use Rattle.std.specs.Cmp.{nat_eq_equiv, unsigned_tied, unsigned_Decides}
use Rattle.std.specs.Prelude.{nat_eq}
use Rattle.std.specs.Ordering.{nat_cmp, ordering_then, is_eq}
use Rattle.std.specs.Cmp.Lexicographic.{slice_cmp}
use Rattle.std.specs.declared.cmp.Ordering.{Ordering}
use Rattle.std.specs.declared.cmp.Ordering.TheVariants.{Less, Equal, Greater}
use Rattle.std.proofs.lemmas.Map.Text.{is_eq-slice_cmp}
use Rattle.std.proofs.lemmas.Slice.Eq.{bytes_eq-Decides}
use Rattle.sg_names.specs.declared.rev_id.RevId.{RevId}
use Rattle.sg_history.specs.inner.Written.{DocRev, Key, AreNumbered, IsNumbered, digest_number, is_rev_of, has, key_eq}

abbrev pub doc_rev : Key → DocRev
doc_rev k = record { doc = k.1.now; rev = record { generation = k.2; digest = k.3.now } }

bytes_swap : (a b : List ℕ) → bytes_eq a b ≡ bytes_eq b a
bytes_swap [] [] = refl
bytes_swap [] (b ∷ bs) = refl
bytes_swap (a ∷ xs) [] = refl
bytes_swap (a ∷ xs) (b ∷ bs) = λ i. nat_eq_equiv.symm a b i && bytes_swap xs bs i

nat_itself : (n : ℕ) → nat_eq n n ≡ true
nat_itself n = (unsigned_Decides n n).1 refl

bytes_itself : (a : List ℕ) → bytes_eq a a ≡ true
bytes_itself a = (bytes_eq-Decides a a).1 refl

first_true : (a b : Bool) → (a && b) ≡ true → a ≡ true
first_true true b e = refl
first_true false b e = e

second_true : (a b : Bool) → (a && b) ≡ true → b ≡ true
second_true true b e = e
second_true false b e = cc e

and_second : (a b : Bool) → (b ≡ true → a ≡ true) → (a && b) ≡ b
and_second a true h = ap (λ x. x && true) (h refl)
and_second true false h = refl
and_second false false h = refl

or_second : (a b : Bool) → b ≡ true → (a || b) ≡ true
or_second true b e = refl
or_second false b e = e

-- whether keys are of the same revision, whatever their numbers
abbrev same : Key → Key → Bool
same q k = bytes_eq q.1.now k.1.now && (nat_eq q.2 k.2 && bytes_eq q.3.now k.3.now)

same_digest : (q k : Key) → same q k ≡ true → q.3.now ≡ k.3.now
same_digest q k e =
    (bytes_eq-Decides q.3.now k.3.now).0
    (second_true (nat_eq q.2 k.2) (bytes_eq q.3.now k.3.now) (second_true (bytes_eq q.1.now k.1.now) (nat_eq q.2 k.2 && bytes_eq q.3.now k.3.now) e))

-- numbered keys are equal where they are of the same revision
same_key : (q k : Key) → IsNumbered q → IsNumbered k → key_eq q k ≡ same q k
same_key q k mine its =
    and_second (nat_eq q.0 k.0) (same q k)
    (λ e. (unsigned_Decides q.0 k.0).1 (mine ∙ ap (digest_number 0) (same_digest q k e) ∙ sym its))

swapped : (q k : Key) → same q k ≡ is_rev_of (doc_rev k) q.1.now (doc_rev q).rev
swapped q k = λ i. bytes_swap q.1.now k.1.now i && (nat_eq_equiv.symm q.2 k.2 i && bytes_swap q.3.now k.3.now i)

own : (k : Key) (ks : List Key) → list_any (λ x. key_eq k x) (k ∷ ks) ≡ true
own k ks =
    λ i. (nat_itself k.0 i && (bytes_itself k.1.now i && (nat_itself k.2 i && bytes_itself k.3.now i))) || list_any (λ x. key_eq k x) ks

-- what a look at the keys finds
found : (q : Key) (ks : List Key) → IsNumbered q → AreNumbered ks → list_any (λ k. key_eq q k) ks ≡ has (map doc_rev ks) q.1.now (doc_rev q).rev
found q [] mine each = refl
found q (k ∷ ks) mine each =
    let here = same_key q k mine (each k (own k ks)) ∙ swapped q k in
    λ i. here i || found q ks mine (λ x there. each x (or_second (key_eq x k) (list_any (λ y. key_eq x y) ks) there)) i

or_of : (b x : Bool) → cond b true x ≡ (b || x)
or_of true x = refl
or_of false x = refl

-- one more key
inserted : (old new : List Key) (k : Key)
    → ((q : Key) → list_any (λ x. key_eq q x) new ≡ cond (key_eq k q) true (list_any (λ x. key_eq q x) old))
    → IsNumbered k → AreNumbered old → AreNumbered new
    → (doc : List ℕ) (rev : RevId) → has (map doc_rev new) doc rev ≡ (is_rev_of (doc_rev k) doc rev || has (map doc_rev old) doc rev)
inserted old new k each mine olds news doc rev =
    let q : Key = (digest_number 0 rev.digest, record { ref_ptr = (0, 0); now = doc }, rev.generation, record { ref_ptr = (0, 0); now = rev.digest }) in
    sym (found q new refl news) ∙ each q ∙ or_of (key_eq k q) (list_any (λ x. key_eq q x) old)
    ∙ (λ i. same_key k q mine refl i || found q old refl olds i)

-- how a set orders keys
abbrev pub key_cmp : Key → Key → Ordering
key_cmp q k =
    ordering_then (ordering_then (ordering_then (nat_cmp q.0 k.0) (slice_cmp nat_cmp q.1.now k.1.now)) (nat_cmp q.2 k.2)) (slice_cmp nat_cmp q.3.now k.3.now)

eq_then : (a b : Ordering) → is_eq (ordering_then a b) ≡ (is_eq a && is_eq b)
eq_then Less b = refl
eq_then Equal b = refl
eq_then Greater b = refl

-- four orders, one behind the other
level : (a b c d : Ordering) → is_eq (ordering_then (ordering_then (ordering_then a b) c) d) ≡ (is_eq a && (is_eq b && (is_eq c && is_eq d)))
level Less b c d = refl
level Greater b c d = refl
level Equal Less c d = refl
level Equal Greater c d = refl
level Equal Equal c d = eq_then c d

-- keys that are level are equal
same_place : (q k : Key) → is_eq (key_cmp q k) ≡ key_eq q k
same_place q k =
    level (nat_cmp q.0 k.0) (slice_cmp nat_cmp q.1.now k.1.now) (nat_cmp q.2 k.2) (slice_cmp nat_cmp q.3.now k.3.now)
    ∙ (λ i. unsigned_tied q.0 k.0 i && (is_eq-slice_cmp q.1.now k.1.now i && (unsigned_tied q.2 k.2 i && is_eq-slice_cmp q.3.now k.3.now i)))

found_place : (q : Key) (ks : List Key) → list_any (λ k. is_eq (key_cmp q k)) ks ≡ list_any (λ k. key_eq q k) ks
found_place q [] = refl
found_place q (k ∷ ks) = λ i. same_place q k i || found_place q ks i

-- a key that says this revision of this document, with its number
pub record Says (q : Key) (doc : List ℕ) (rev : RevId) : Type 0 where
  pub number : q.0 ≡ digest_number 0 rev.digest
  pub doc_is : q.1.now ≡ doc
  pub generation : q.2 ≡ rev.generation
  pub digest : q.3.now ≡ rev.digest

numbered : (q : Key) (doc : List ℕ) (rev : RevId) → Says q doc rev → IsNumbered q
numbered q doc rev says = says.number ∙ ap (digest_number 0) (sym says.digest)

-- what a look at the keys finds of a document's revision
pub found_rev : (q : Key) (ks : List Key) (doc : List ℕ) (rev : RevId) → Says q doc rev → AreNumbered ks
    → list_any (λ k. is_eq (key_cmp q k)) ks ≡ has (map doc_rev ks) doc rev
found_rev q ks doc rev says each =
    found_place q ks ∙ found q ks (numbered q doc rev says) each
    ∙ (λ i. has (map doc_rev ks) (says.doc_is i) (record { generation = says.generation i; digest = says.digest i }))

-- the looks at the keys after one more was put in
abbrev pub AreWith : List Key → List Key → Key → Type 0
AreWith old new k = (q : Key) → list_any (λ x. is_eq (key_cmp q x)) new ≡ cond (is_eq (key_cmp k q)) true (list_any (λ x. is_eq (key_cmp q x)) old)

as_equal : (old new : List Key) (k : Key) → AreWith old new k
    → (q : Key) → list_any (λ x. key_eq q x) new ≡ cond (key_eq k q) true (list_any (λ x. key_eq q x) old)
as_equal old new k each q = sym (found_place q new) ∙ each q ∙ (λ i. cond (same_place k q i) true (found_place q old i))

-- the keys stay numbered
pub numbered_with : (old new : List Key) (k : Key) (doc : List ℕ) (rev : RevId) → Says k doc rev → AreWith old new k → AreNumbered old → AreNumbered new
numbered_with old new k doc rev says each olds q there =
    decided (key_eq k q) refl (sym (as_equal old new k each q) ∙ there)
  where
    decided : (b : Bool) → key_eq k q ≡ b → cond b true (list_any (λ x. key_eq q x) old) ≡ true → IsNumbered q
    decided true alike t =
        sym ((unsigned_Decides k.0 q.0).0 (first_true (nat_eq k.0 q.0) (same k q) alike))
        ∙ numbered k doc rev says
        ∙ ap (digest_number 0) (same_digest k q (second_true (nat_eq k.0 q.0) (same k q) alike))
    decided false alike t = olds q t

pub inserted_rev : (old new : List Key) (k : Key) (doc : List ℕ) (rev : RevId) → Says k doc rev → AreWith old new k → AreNumbered old
    → (other : List ℕ) (r : RevId) → has (map doc_rev new) other r ≡ (is_rev_of (record { doc = doc; rev = rev }) other r || has (map doc_rev old) other r)
inserted_rev old new k doc rev says each olds other r =
    inserted old new k (as_equal old new k each) (numbered k doc rev says) olds (numbered_with old new k doc rev says each olds) other r
    ∙ (λ i. is_rev_of (record { doc = says.doc_is i; rev = record { generation = says.generation i; digest = says.digest i } }) other r || has (map doc_rev old) other r)
