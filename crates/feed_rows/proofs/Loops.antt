-- steps of loops over what is known of documents
use Rattle.std.proofs.Common.{◌≡◌, ℕ, ◌+◌, ◌<◌, ◌≤◌, refl, sym, ◌∙◌, ap, arith, List, [], ◌∷◌, ◌++◌, length, drop, get_or, take, map, reverse, zero, suc}
use Rattle.std.proofs.lemmas.List.{reverse-append, map-append}
use Rattle.std.specs.Prelude.{slice_index_or}
use Rattle.feed_rows.specs.declared.document.Document.{Document}
use Rattle.feed_rows.specs.Known.{Known, known_in}

-- what is known of the document in its place
pub item_there : (items : List Document) (k : ℕ) (x : Document) (d : Known) → k < length items → x ≡ get_or items k x → known_in x ≡ slice_index_or (map known_in items) k d
item_there [] k x d h is = absurd (omega arith)
item_there (y ∷ ys) zero x d h is = ap known_in is
item_there (y ∷ ys) (suc k) x d h is = item_there ys k x d (omega arith) is

-- each document is known under its name
pub known_each : (f : List ℕ → Known) (items : List Document) (k : ℕ) (d : Document) → map known_in items ≡ map f (map (λ x. x.name.now) items) → k < length items → known_in (get_or items k d) ≡ f (get_or items k d).name.now
known_each f [] k d h within = absurd (omega arith)
known_each f (y ∷ ys) zero d h within = cc
known_each f (y ∷ ys) (suc k) d h within = let rest : map known_in ys ≡ map f (map (λ x. x.name.now) ys) = cc in known_each f ys k d rest (omega arith)

pub reverse_mapped : {X Y : Type 0} (f : X → Y) (xs : List X) → reverse (map f xs) ≡ map f (reverse xs)
reverse_mapped f [] = refl
reverse_mapped f (x ∷ xs) =
    reverse-append (f x ∷ []) (map f xs) ∙ ap (λ ys. ys ++ f x ∷ []) (reverse_mapped f xs) ∙ sym (map-append f (reverse xs) (x ∷ [])) ∙ ap (map f) (sym (reverse-append (x ∷ []) xs))

-- one more of what a function gives, the last one first
mapped_suc : {X Y : Type 0} (f : X → Y) (xs : List X) (i : ℕ) (d : X) → i < length xs → map f (take (suc i) xs) ≡ map f (take i xs) ++ f (get_or xs i d) ∷ []
mapped_suc f [] i d h = absurd (omega (arith, h))
mapped_suc f (x ∷ xs) zero d h = refl
mapped_suc f (x ∷ xs) (suc i) d h = ap (λ ys. f x ∷ ys) (mapped_suc f xs i d (omega (arith, h)))

pub mapped_more : {X Y : Type 0} (f : X → Y) (xs : List X) (i : ℕ) (d : X) → i < length xs → reverse (map f (take (i + 1) xs)) ≡ f (get_or xs i d) ∷ reverse (map f (take i xs))
mapped_more f xs i d h =
    let one : ◌≡◌ {A = ℕ} (i + 1) (suc i) = omega arith in
    ap (λ (n : ℕ). reverse (map f (take n xs))) one ∙ ap (λ ys. reverse ys) (mapped_suc f xs i d h) ∙ reverse-append (map f (take i xs)) (f (get_or xs i d) ∷ [])

-- a list at one of its places
taken_suc : {X : Type 0} (xs : List X) (i : ℕ) (x : X) → i < length xs → x ≡ get_or xs i x → take (suc i) xs ≡ take i xs ++ x ∷ []
taken_suc [] i x h is = absurd (omega (arith, h))
taken_suc (y ∷ ys) zero x h is = ap (λ z. z ∷ []) (sym is)
taken_suc (y ∷ ys) (suc i) x h is = ap (λ l. y ∷ l) (taken_suc ys i x (omega (arith, h)) is)

parted_suc : {X : Type 0} (xs : List X) (i : ℕ) (x : X) → i < length xs → x ≡ get_or xs i x → xs ≡ take i xs ++ x ∷ drop (suc i) xs
parted_suc [] i x h is = absurd (omega (arith, h))
parted_suc (y ∷ ys) zero x h is = ap (λ z. z ∷ ys) (sym is)
parted_suc (y ∷ ys) (suc i) x h is = ap (λ l. y ∷ l) (parted_suc ys i x (omega (arith, h)) is)

pub taken_more : {X : Type 0} (xs : List X) (i : ℕ) (x : X) → i < length xs → x ≡ get_or xs i x → take (i + 1) xs ≡ take i xs ++ x ∷ []
taken_more xs i x h is =
    let one : ◌≡◌ {A = ℕ} (i + 1) (suc i) = omega arith in
    ap (λ (n : ℕ). take n xs) one ∙ taken_suc xs i x h is

pub parted : {X : Type 0} (xs : List X) (i : ℕ) (x : X) → i < length xs → x ≡ get_or xs i x → xs ≡ take i xs ++ x ∷ drop (i + 1) xs
parted xs i x h is =
    let one : ◌≡◌ {A = ℕ} (suc i) (i + 1) = omega arith in
    parted_suc xs i x h is ∙ ap (λ (n : ℕ). take i xs ++ x ∷ drop n xs) one

pub taken_all : {X : Type 0} (xs : List X) (i : ℕ) → length xs ≤ i → take i xs ≡ xs
taken_all [] zero h = refl
taken_all [] (suc i) h = refl
taken_all (x ∷ xs) zero h = absurd (omega (arith, h))
taken_all (x ∷ xs) (suc i) h = ap (λ l. x ∷ l) (taken_all xs i (omega (arith, h)))
