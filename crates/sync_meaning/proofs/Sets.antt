-- Names that are gone over as a set: in any order, each once or more often.
use Rattle.std.proofs.Common.{◌≡◌, ℕ, ◌+◌, ◌≤◌, nat_lt, Bool, true, false, ◌&&◌, ◌||◌, cond, List, [], ◌∷◌, map, length, Ok, Err, Ordering, Less, Equal, Greater, refl, sym, ap, subst, ◌∙◌, arith}
use Rattle.std.specs.Cmp.Lexicographic.{slice_cmp, bytes_decides}
use Rattle.std.specs.List.{list_all, list_any}
use Rattle.std.specs.Str.{bytes_eq}
use Rattle.std.proofs.lemmas.Bool.{false≢true}
use Rattle.sync_tokens.specs.declared.place.Place.{Place}
use Rattle.sync_values.specs.declared.fault.FaultKind.TheVariants.{Size}
use Rattle.sync_values.specs.Found.{Found, fails}
use Rattle.sync_values.specs.Values.{found_then}
use Rattle.sync_meaning.specs.declared.effects.Effects.{Effects}
use Rattle.sync_meaning.specs.Builtins.{is_one_of, effect_count, within_limits, for_each}
use Rattle.sync_meaning.specs.inner.Arguments.{AreSame}

same_bytes : (x : List ℕ) → bytes_eq x x ≡ true
same_bytes x = (bytes_decides x x).1 refl

-- an item is one of its list
pub first_in : (x : List ℕ) (xs : List (List ℕ)) → is_one_of (x ∷ xs) x ≡ true
first_in x xs = ap (λ (b : Bool). b || is_one_of xs x) (same_bytes x)

or_true : (b : Bool) → (b || true) ≡ true
or_true true = refl
or_true false = refl

pub more_in : (x y : List ℕ) (xs : List (List ℕ)) → is_one_of xs y ≡ true → is_one_of (x ∷ xs) y ≡ true
more_in x y xs h = ap (λ (b : Bool). bytes_eq y x || b) h ∙ or_true (bytes_eq y x)

-- what is done for each name, without the count
abbrev pub each : (List ℕ → Effects → Effects) → List (List ℕ) → Effects → Effects
each g [] e = e
each g (k ∷ ks) e = each g ks (g k e)

-- it is done in any order, once is enough, and no count falls
pub record IsPut (g : List ℕ → Effects → Effects) : Type 0 where
  pub commutes : (k l : List ℕ) (e : Effects) → g k (g l e) ≡ g l (g k e)
  pub once : (k : List ℕ) (e : Effects) → g k (g k e) ≡ g k e
  pub grows : (k : List ℕ) (e : Effects) → effect_count e ≤ effect_count (g k e)

module _ (g : List ℕ → Effects → Effects) where
  past : (a : Effects → Effects) → ((k : List ℕ) (e : Effects) → a (g k e) ≡ g k (a e)) → (ks : List (List ℕ)) (e : Effects) → a (each g ks e) ≡ each g ks (a e)
  past a moves [] e = refl
  past a moves (k ∷ ks) e = past a moves ks (g k e) ∙ ap (each g ks) (moves k e)

  module _ (put : IsPut g) where
    absorbs_by : (b : Bool) (k l : List ℕ) (ks : List (List ℕ)) (e : Effects) → bytes_eq k l ≡ b → (b || is_one_of ks k) ≡ true
        → (is_one_of ks k ≡ true → g k (each g ks (g l e)) ≡ each g ks (g l e)) → g k (each g ks (g l e)) ≡ each g ks (g l e)
    absorbs_by true k l ks e is h again =
        past (g k) (λ m d. put.commutes k m d) ks (g l e) ∙ ap (each g ks) (ap (λ m. g m (g l e)) ((bytes_decides k l).0 is) ∙ put.once l e)
    absorbs_by false k l ks e is h again = again h

    absorbs : (k : List ℕ) (ks : List (List ℕ)) (e : Effects) → is_one_of ks k ≡ true → g k (each g ks e) ≡ each g ks e
    absorbs k [] e h = absurd (false≢true h)
    absorbs k (l ∷ ks) e h = absorbs_by (bytes_eq k l) k l ks e refl h (λ i. absorbs k ks (g l e) i)

    included : (xs ys : List (List ℕ)) (e : Effects) → ((x : List ℕ) → is_one_of xs x ≡ true → is_one_of ys x ≡ true) → each g xs (each g ys e) ≡ each g ys e
    included [] ys e all = refl
    included (x ∷ xs) ys e all = ap (each g xs) (absorbs x ys e (all x (first_in x xs))) ∙ included xs ys e (λ y i. all y (more_in x y xs i))

    each_same : (xs ys : List (List ℕ)) (e : Effects) → AreSame xs ys → each g xs e ≡ each g ys e
    each_same xs ys e same =
        sym (included ys xs e (λ x i. same x ∙ i))
        ∙ past (each g ys) (λ k d. sym (past (g k) (λ m c. put.commutes k m c) ys d)) xs e
        ∙ included xs ys e (λ x i. sym (same x) ∙ i)

    each_grows : (ks : List (List ℕ)) (e : Effects) → effect_count e ≤ effect_count (each g ks e)
    each_grows [] e = omega arith
    each_grows (k ∷ ks) e = omega (arith, put.grows k e, each_grows ks (g k e))

    module _ (p : Place) (f : List ℕ → Effects → Found Effects) (is : (k : List ℕ) (e : Effects) → f k e ≡ within_limits p (g k e)) where
      ends : (r : Found Effects) → found_then r (for_each f []) ≡ r
      ends (Ok e) = refl
      ends (Err e) = refl

      many : (d e : Effects) → nat_lt 1000 (effect_count d) ≡ true → effect_count d ≤ effect_count e → fails Size p ≡ within_limits p e
      unfolding within_limits
      many d e above le = ap (λ c. cond c (fails Size p) (Ok e)) (sym (nat_above (effect_count d) (effect_count e) above le))
        where
          nat_above : (m n : ℕ) → nat_lt 1000 m ≡ true → m ≤ n → nat_lt 1000 n ≡ true
          nat_above m n a b = grind arith

      then_by : (c : Bool) (l : List ℕ) (ls : List (List ℕ)) (d : Effects) → nat_lt 1000 (effect_count d) ≡ c → for_each f (l ∷ ls) d ≡ within_limits p (each g (l ∷ ls) d)
          → found_then (cond c (fails Size p) (Ok d)) (for_each f (l ∷ ls)) ≡ within_limits p (each g (l ∷ ls) d)
      then_by true l ls d above h = many d (each g (l ∷ ls) d) above (each_grows (l ∷ ls) d)
      then_by false l ls d above h = h

      within_by : (d : Effects) → within_limits p d ≡ cond (nat_lt 1000 (effect_count d)) (fails Size p) (Ok d)
      unfolding within_limits
      within_by d = refl

      through : (k : List ℕ) (ks : List (List ℕ)) (e : Effects) → for_each f (k ∷ ks) e ≡ within_limits p (each g (k ∷ ks) e)
      through k [] e = ends (f k e) ∙ is k e
      through k (l ∷ ls) e =
          ap (λ r. found_then r (for_each f (l ∷ ls))) (is k e ∙ within_by (g k e))
          ∙ then_by (nat_lt 1000 (effect_count (g k e))) l ls (g k e) refl (through l ls (g k e))

      -- two lists with the same names leave the same, or are the same fault
      pub for_each_same : (xs ys : List (List ℕ)) (e : Effects) → AreSame xs ys → for_each f xs e ≡ for_each f ys e
      for_each_same [] [] e same = refl
      for_each_same [] (y ∷ ys) e same = absurd (false≢true (same y ∙ first_in y ys))
      for_each_same (x ∷ xs) [] e same = absurd (false≢true (sym (same x) ∙ first_in x xs))
      for_each_same (x ∷ xs) (y ∷ ys) e same = through x xs e ∙ ap (within_limits p) (each_same (x ∷ xs) (y ∷ ys) e same) ∙ sym (through y ys e)

-- what is done for each item of a list, where for each of these it is the same
module _ {X : Type 0} (is : X → Bool) (f h : X → Effects → Found Effects) (alike : (x : X) (e : Effects) → is x ≡ true → f x e ≡ h x e) where
  then_alike : (r : Found Effects) (xs : List X) → ((e : Effects) → for_each f xs e ≡ for_each h xs e) → found_then r (for_each f xs) ≡ found_then r (for_each h xs)
  then_alike (Ok e) xs same = same e
  then_alike (Err e) xs same = refl

  head_is : (a b : Bool) → (a && b) ≡ true → a ≡ true
  head_is true b i = refl
  head_is false b i = i

  tail_is : (a b : Bool) → (a && b) ≡ true → b ≡ true
  tail_is true b i = i
  tail_is false b i = absurd (false≢true i)

  pub for_each_alike : (xs : List X) (e : Effects) → list_all is xs ≡ true → for_each f xs e ≡ for_each h xs e
  for_each_alike [] e all = refl
  for_each_alike (x ∷ xs) e all =
      ap (λ r. found_then r (for_each f xs)) (alike x e (head_is (is x) (list_all is xs) all))
      ∙ then_alike (h x e) xs (λ d. for_each_alike xs d (tail_is (is x) (list_all is xs) all))

-- what is done for each name of two lists
pub record ArePut (g : List ℕ → List ℕ → Effects → Effects) : Type 0 where
  pub commutes : (t c u d : List ℕ) (e : Effects) → g t c (g u d e) ≡ g u d (g t c e)
  pub once : (t c : List ℕ) (e : Effects) → g t c (g t c e) ≡ g t c e
  pub grows : (t c : List ℕ) (e : Effects) → effect_count e ≤ effect_count (g t c e)

module _ (g : List ℕ → List ℕ → Effects → Effects) (put : ArePut g) where
  inner : (t : List ℕ) → IsPut (g t)
  inner t = record { commutes = λ c d e. put.commutes t c t d e; once = λ c e. put.once t c e; grows = λ c e. put.grows t c e }

  outer : (cs : List (List ℕ)) → IsPut (λ t. each (g t) cs)
  outer cs = record {
    commutes = λ t u e. past (g u) (each (g t) cs) (λ k d. sym (past (g t) (g u k) (λ c b. put.commutes u k t c b) cs d)) cs e;
    once = λ t e. included (g t) (inner t) cs cs e (λ x i. i);
    grows = λ t e. each_grows (g t) (inner t) cs e;
  }

  module _ (p : Place) (f : List ℕ → List ℕ → Effects → Found Effects) (is : (t c : List ℕ) (e : Effects) → f t c e ≡ within_limits p (g t c e)) where
    nothing : (ts : List (List ℕ)) (e : Effects) → for_each (λ t. for_each (f t) []) ts e ≡ Ok e
    nothing [] e = refl
    nothing (t ∷ ts) e = nothing ts e

    first_same : (cs ts us : List (List ℕ)) (e : Effects) → AreSame ts us → for_each (λ t. for_each (f t) cs) ts e ≡ for_each (λ t. for_each (f t) cs) us e
    first_same [] ts us e same = nothing ts e ∙ sym (nothing us e)
    first_same (c ∷ cs) ts us e same =
        for_each_same (λ t. each (g t) (c ∷ cs)) (outer (c ∷ cs)) p (λ t. for_each (f t) (c ∷ cs)) (λ t d. through (g t) (inner t) p (f t) (λ k b. is t k b) c cs d) ts us e same

    anything : (ts : List (List ℕ)) → list_all (λ _. true) ts ≡ true
    anything [] = refl
    anything (t ∷ ts) = anything ts

    -- lists with the same names leave the same, or are the same fault
    pub for_both_same : (ts us cs ds : List (List ℕ)) (e : Effects) → AreSame ts us → AreSame cs ds
        → for_each (λ t. for_each (f t) cs) ts e ≡ for_each (λ t. for_each (f t) ds) us e
    for_both_same ts us cs ds e same alike =
        for_each_alike (λ _. true) (λ t. for_each (f t) cs) (λ t. for_each (f t) ds) (λ t d _. for_each_same (g t) (inner t) p (f t) (λ k b. is t k b) cs ds d alike) ts e (anything ts)
        ∙ first_same ds ts us e same
