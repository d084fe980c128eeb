-- names, each once, and what is known of each
use Rattle.std.proofs.Common.{◌≡◌, ℕ, refl, sym, ◌∙◌, ap, subst, Bool, true, false, ◌||◌, if◌then◌else◌, List, [], ◌∷◌, ◌++◌, map, Some, zero, suc}
use Rattle.std.specs.Prelude.{slice_get, slice_set, slice_index_or}
use Rattle.std.specs.List.{list_any}
use Rattle.std.specs.Str.{bytes_eq}
use Rattle.std.proofs.lemmas.Bool.{false≢true, or_parts, or_from, or_left, or_right, false_from_ne_true}
use Rattle.std.proofs.lemmas.Option.{none-some, same_Some}
use Rattle.std.proofs.lemmas.List.Folds.{list_any-append}
use Rattle.std.proofs.lemmas.Slice.Eq.{bytes_eq-Decides}
use Rattle.sg_history.specs.History.{among}
use Rattle.feed_rows.specs.Known.{add_name, distinct_of}

pub same_texts : (a b : List ℕ) → bytes_eq a b ≡ true → a ≡ b
same_texts a b h = (bytes_eq-Decides a b).0 h

pub text_is_itself : (a : List ℕ) → bytes_eq a a ≡ true
text_is_itself a = (bytes_eq-Decides a a).1 refl

pub other_texts : (a b : List ℕ) → bytes_eq a b ≡ false → bytes_eq b a ≡ false
other_texts a b h = false_from_ne_true (bytes_eq b a) (λ e. false≢true (sym h ∙ (bytes_eq-Decides a b).1 (sym (same_texts b a e))))

pub texts_swap : (a b : List ℕ) → bytes_eq a b ≡ bytes_eq b a
texts_swap a b = go (bytes_eq a b) refl
  where
    go : (x : Bool) → bytes_eq a b ≡ x → x ≡ bytes_eq b a
    go true h = sym ((bytes_eq-Decides b a).1 (sym (same_texts a b h)))
    go false h = sym (other_texts a b h)

or_end : (l b : Bool) → (l || (b || false)) ≡ (b || l)
or_end true true = refl
or_end true false = refl
or_end false true = refl
or_end false false = refl

or_again : (a l : Bool) → (a || l) ≡ (a || (a || l))
or_again true l = refl
or_again false l = refl

or_inside : (a b l : Bool) → l ≡ (b || l) → (a || l) ≡ (b || (a || l))
or_inside true true l h = refl
or_inside true false l h = refl
or_inside false b l h = h

-- a name that is there already changes no search
any_absorbs : (f : List ℕ → Bool) (name : List ℕ) (names : List (List ℕ)) → among names name ≡ true → list_any f names ≡ (f name || list_any f names)
any_absorbs f name [] h = absurd (false≢true h)
any_absorbs f name (n ∷ ns) h = go (bytes_eq n name) refl (any_absorbs f name ns) h
  where
    go : (b : Bool) → bytes_eq n name ≡ b → (among ns name ≡ true → list_any f ns ≡ (f name || list_any f ns)) → (b || among ns name) ≡ true → (f n || list_any f ns) ≡ (f name || (f n || list_any f ns))
    go true e rest k =
        let P : List ℕ → Type 0 = λ x. (f n || list_any f ns) ≡ (f x || (f n || list_any f ns)) in
        subst P (same_texts n name e) (or_again (f n) (list_any f ns))
    go false e rest k = or_inside (f n) (f name) (list_any f ns) (rest k)

pub any_added : (f : List ℕ → Bool) (name : List ℕ) (names : List (List ℕ)) → list_any f (add_name name names) ≡ (f name || list_any f names)
any_added f name names = go (among names name) refl
  where
    go : (b : Bool) → among names name ≡ b → list_any f (if b then names else names ++ name ∷ []) ≡ (f name || list_any f names)
    go true h = any_absorbs f name names h
    go false h = list_any-append f names (name ∷ []) ∙ or_end (list_any f names) (f name)

pub any_distinct : (f : List ℕ → Bool) (names : List (List ℕ)) → list_any f (distinct_of names) ≡ list_any f names
any_distinct f [] = refl
any_distinct f (n ∷ ns) = any_added f n (distinct_of ns) ∙ ap (λ b. f n || b) (any_distinct f ns)

-- no name stands twice
abbrev pub Distinct : List (List ℕ) → Type 0
Distinct [] = Unit {0}
Distinct (n ∷ ns) = (among ns n ≡ false) × Distinct ns

distinct_end : (name : List ℕ) (names : List (List ℕ)) → among names name ≡ false → Distinct names → Distinct (names ++ name ∷ [])
distinct_end name [] h d = (refl, tt)
distinct_end name (n ∷ ns) h d =
    let parts = or_parts (bytes_eq n name) (among ns name) h in
    (list_any-append (λ t. bytes_eq t n) ns (name ∷ []) ∙ or_from (among ns n) _ d.0 (or_from (bytes_eq name n) false (other_texts n name parts.0) refl), distinct_end name ns parts.1 d.1)

distinct_added : (name : List ℕ) (names : List (List ℕ)) → Distinct names → Distinct (add_name name names)
distinct_added name names d = go (among names name) refl
  where
    go : (b : Bool) → among names name ≡ b → Distinct (if b then names else names ++ name ∷ [])
    go true h = d
    go false h = distinct_end name names h d

pub distinct_names : (names : List (List ℕ)) → Distinct (distinct_of names)
distinct_names [] = tt
distinct_names (n ∷ ns) = distinct_added n (distinct_of ns) (distinct_names ns)

-- the name at a place is among the names
pub placed_among : (names : List (List ℕ)) (k : ℕ) (name : List ℕ) → slice_get names k ≡ Some name → among names name ≡ true
placed_among [] k name h = absurd (none-some _ h)
placed_among (n ∷ ns) zero name h = or_left (bytes_eq n name) (among ns name) ((bytes_eq-Decides n name).1 (same_Some n name h))
placed_among (n ∷ ns) (suc k) name h = or_right (bytes_eq n name) (among ns name) (placed_among ns k name h)

-- what holds of other names holds of all names that this one is not among
pub same_elsewhere : {X : Type 0} (f g : List ℕ → X) (name : List ℕ) (names : List (List ℕ)) → among names name ≡ false → ((n : List ℕ) → bytes_eq n name ≡ false → f n ≡ g n) → map f names ≡ map g names
same_elsewhere f g name [] h others = refl
same_elsewhere f g name (n ∷ ns) h others =
    let parts = or_parts (bytes_eq n name) (among ns name) h in
    ap (λ x. x ∷ map f ns) (others n parts.0) ∙ ap (λ xs. g n ∷ xs) (same_elsewhere f g name ns parts.1 others)

not_first : (n name : List ℕ) (ns : List (List ℕ)) (k : ℕ) → among ns n ≡ false → slice_get ns k ≡ Some name → bytes_eq n name ≡ false
not_first n name ns k h e =
    false_from_ne_true (bytes_eq n name)
    (λ b. let P : List ℕ → Type 0 = λ x. among ns x ≡ true in false≢true (sym h ∙ subst P (sym (same_texts n name b)) (placed_among ns k name e)))

-- one place set to what holds of its name, where all others hold already
pub set_there : {X : Type 0} (f g : List ℕ → X) (name : List ℕ) (names : List (List ℕ)) (k : ℕ) → Distinct names → slice_get names k ≡ Some name → ((n : List ℕ) → bytes_eq n name ≡ false → f n ≡ g n) → slice_set (map f names) k (g name) ≡ map g names
set_there f g name [] k d h others = absurd (none-some _ h)
set_there f g name (n ∷ ns) zero d h others =
    let same : n ≡ name = same_Some n name h in
    let P : List ℕ → Type 0 = λ x. among ns x ≡ false in
    ap (λ x. g x ∷ map f ns) (sym same) ∙ ap (λ xs. g n ∷ xs) (same_elsewhere f g name ns (subst P same d.0) others)
set_there f g name (n ∷ ns) (suc k) d h others =
    ap (λ x. x ∷ slice_set (map f ns) k (g name)) (others n (not_first n name ns k d.0 h)) ∙ ap (λ xs. g n ∷ xs) (set_there f g name ns k d.1 h others)

pub get_there : {X : Type 0} (f : List ℕ → X) (name : List ℕ) (names : List (List ℕ)) (k : ℕ) (x : X) → slice_get names k ≡ Some name → slice_index_or (map f names) k x ≡ f name
get_there f name [] k x h = absurd (none-some _ h)
get_there f name (n ∷ ns) zero x h = ap f (same_Some n name h)
get_there f name (n ∷ ns) (suc k) x h = get_there f name ns k x h
