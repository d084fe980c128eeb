-- what a loop over a list has gathered, with what is left of the list
use Rattle.std.proofs.Common.{◌≡◌, ◌<◌, ◌≤◌, ◌+◌, ℕ, zero, suc, refl, sym, ◌∙◌, ap, arith, Bool, true, false, ◌&&◌, ◌||◌, List, [], ◌∷◌, ◌++◌, length, drop, get_or, map, append_assoc}
use Rattle.std.specs.Prelude.{slice_index_or}
use Rattle.std.specs.List.{list_any}
use Rattle.std.proofs.lemmas.List.{drop_more, drop_all, append-nil}

-- what is left is the next and those behind it
pub split : {X : Type 0} (xs : List X) (i : ℕ) (x : X) → i < length xs → x ≡ get_or xs i x → x ∷ drop (i + 1) xs ≡ drop i xs
split {X = X} xs i x within is = ap (λ (y : X). y ∷ drop (i + 1) xs) is ∙ sym (drop_more xs i x within)

-- what is put behind others for each
pub map_over : {X Y : Type 0} (f : X → Y) (xs : List X) (i : ℕ) (x : X) (old new : List Y) → i < length xs → x ≡ get_or xs i x → new ≡ old ++ f x ∷ [] → new ++ map f (drop (i + 1) xs) ≡ old ++ map f (drop i xs)
map_over {X = X} {Y = Y} f xs i x old new within is put =
    ap (λ (l : List Y). l ++ map f (drop (i + 1) xs)) put
    ∙ append_assoc old (f x ∷ []) (map f (drop (i + 1) xs))
    ∙ ap (λ (l : List X). old ++ map f l) (split xs i x within is)

pub map_end : {X Y : Type 0} (f : X → Y) (xs : List X) (i : ℕ) (list : List Y) → length xs ≤ i → list ≡ list ++ map f (drop i xs)
map_end {X = X} f xs i list le = sym (ap (λ (l : List X). list ++ map f l) (drop_all i xs le) ∙ append-nil list)

-- whether any of those so far passes, or one that was there before
pub any_over : {X : Type 0} (test : X → Bool) (xs : List X) (i : ℕ) (x : X) (old new : Bool) → i < length xs → x ≡ get_or xs i x → new ≡ (test x || old) → (list_any test (drop (i + 1) xs) || new) ≡ (list_any test (drop i xs) || old)
any_over {X = X} test xs i x old new within is more =
    ap (λ (b : Bool). list_any test (drop (i + 1) xs) || b) more
    ∙ by (list_any test (drop (i + 1) xs)) (test x)
    ∙ ap (λ (l : List X). list_any test l || old) (split xs i x within is)
  where
    by : (a b : Bool) → (a || (b || old)) ≡ ((b || a) || old)
    by true true = refl
    by true false = refl
    by false true = refl
    by false false = refl

pub any_left : {X : Type 0} (test : X → Bool) (xs : List X) (i : ℕ) (had : Bool) → length xs ≤ i → had ≡ (list_any test (drop i xs) || had)
any_left {X = X} test xs i had le = sym (ap (λ (l : List X). list_any test l || had) (drop_all i xs le))

-- two tests of which the next passes both or none
pub any_same : {X : Type 0} (one other : X → Bool) (xs : List X) (i : ℕ) (x : X) → i < length xs → x ≡ get_or xs i x → one x ≡ other x → list_any one (drop (i + 1) xs) ≡ list_any other (drop (i + 1) xs) → list_any one (drop i xs) ≡ list_any other (drop i xs)
any_same {X = X} one other xs i x within is here rest =
    ap (λ (l : List X). list_any one l) (sym (split xs i x within is))
    ∙ ap (λ (b : Bool). b || list_any one (drop (i + 1) xs)) here
    ∙ ap (λ (b : Bool). other x || b) rest
    ∙ ap (λ (l : List X). list_any other l) (split xs i x within is)

-- one more at the end passes, or none does
pub any_end : {X : Type 0} (test : X → Bool) (xs : List X) (x : X) → list_any test (xs ++ x ∷ []) ≡ (list_any test xs || test x)
any_end test [] x = by (test x)
  where
    by : (b : Bool) → (b || false) ≡ b
    by true = refl
    by false = refl
any_end test (y ∷ ys) x = ap (λ (b : Bool). test y || b) (any_end test ys x) ∙ by (test y)
  where
    by : (b : Bool) → (b || (list_any test ys || test x)) ≡ ((b || list_any test ys) || test x)
    by true = refl
    by false = refl

-- one more, if it is to be put
pub one_put : {X : Type 0} (test : X → Bool) (old new : List X) (x : X) (is_put : Bool) → new ≡ old ++ x ∷ [] → is_put ≡ true → list_any test new ≡ (list_any test old || (test x && is_put))
one_put {X = X} test old new x is_put put is =
    ap (λ (l : List X). list_any test l) put
    ∙ any_end test old x
    ∙ ap (λ (b : Bool). list_any test old || b) (all (test x) ∙ ap (λ (b : Bool). test x && b) (sym is))
  where
    all : (b : Bool) → b ≡ (b && true)
    all true = refl
    all false = refl

pub none_put : (had passes is_put : Bool) → is_put ≡ false → had ≡ (had || (passes && is_put))
none_put true passes is_put is = refl
none_put false true is_put is = sym is
none_put false false is_put is = refl

-- what holds of each of these, and of one more behind them, holds of each then
pub each_more : {X : Type 0} (P : ℕ → X → Type 0) (xs : List X) (x d : X) → ((i : ℕ) → i < length xs → P i (slice_index_or xs i d)) → P (length xs) x → (i : ℕ) → i < length (xs ++ x ∷ []) → P i (slice_index_or (xs ++ x ∷ []) i d)
each_more P [] x d before last zero w = last
each_more P [] x d before last (suc i) w = absurd (omega (arith, w))
each_more P (y ∷ ys) x d before last zero w = before 0 (omega arith)
each_more P (y ∷ ys) x d before last (suc i) w = each_more (λ j. P (suc j)) ys x d (λ j low. before (suc j) (omega (arith, low))) last i (omega (arith, w))
