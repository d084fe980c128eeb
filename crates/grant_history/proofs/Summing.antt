-- how often documents give something, before and after some of them give other facts
use Rattle.std.proofs.Common.{◌≡◌, ◌+◌, ℕ, refl, sym, ◌∙◌, ap, subst, arith, Bool, true, false, if◌then◌else◌, List, [], ◌∷◌, ◌++◌}
use Rattle.std.specs.Str.{bytes_eq}
use Rattle.std.specs.Cmp.Lexicographic.{bytes_decides}
use Rattle.std.proofs.lemmas.Bool.{false≢true}
use Rattle.sg_history.specs.declared.entries.Entry.{Entry}
use Rattle.sg_history.specs.History.{among}
use Rattle.grant_history.specs.declared.facts.Fact.{Fact}
use Rattle.grant_history.specs.Facts.{times}
use Rattle.grant_history.specs.Sources.{given_by}
use Rattle.grant_history.specs.inner.Changes.{DocumentFacts, all_times, given_with, given_after, given_before, given_at}
use Rattle.grant_history.proofs.Steps.{IsOnce, or_left, or_right, or_other}
use Rattle.grant_tracks.proofs.Same.{texts_swap}

-- what documents give is a function of their names
abbrev pub Gives : Type 0
Gives = List ℕ → List Fact

-- how often these documents give something
abbrev pub sum_given : Gives → List (List ℕ) → Fact → ℕ
sum_given g [] f = 0
sum_given g (d ∷ ds) f = times (g d) f + sum_given g ds f

pub summed : (es : List Entry) (docs : List (List ℕ)) (f : Fact) → given_by es docs f ≡ sum_given (given_at es) docs f
summed es [] f = refl
summed es (d ∷ ds) f = ap (λ (n : ℕ). times (given_at es d) f + n) (summed es ds f)

pub sum_same : (g h : Gives) → ((d : List ℕ) → g d ≡ h d) → (docs : List (List ℕ)) (f : Fact) → sum_given g docs f ≡ sum_given h docs f
sum_same g h same [] f = refl
sum_same g h same (d ∷ ds) f = let one : times (g d) f ≡ times (h d) f = ap (λ (l : List Fact). times l f) (same d) in omega (arith, one, sum_same g h same ds f)

module _ (g : Gives) (c : DocumentFacts) (f : Fact) where
  other : (d : List ℕ) → bytes_eq d c.doc ≡ false → times (given_with g c d) f ≡ times (g d) f
  other d h = ap (λ (b : Bool). times (if b then c.facts else g d) f) (texts_swap c.doc d ∙ h)

  own : (d : List ℕ) → d ≡ c.doc → times (given_with g c d) f ≡ times c.facts f
  own d same = ap (λ (b : Bool). times (if b then c.facts else g d) f) ((bytes_decides c.doc d).1 (sym same))

  sum_other : (docs : List (List ℕ)) → among docs c.doc ≡ false → sum_given (given_with g c) docs f ≡ sum_given g docs f
  sum_other [] h = refl
  sum_other (d ∷ ds) h =
      omega (arith, other d (or_left (bytes_eq d c.doc) (among ds c.doc) h), sum_other ds (or_right (bytes_eq d c.doc) (among ds c.doc) h))

  pub sum_changed : (docs : List (List ℕ)) → IsOnce docs → among docs c.doc ≡ true → sum_given (given_with g c) docs f + times (g c.doc) f ≡ sum_given g docs f + times c.facts f
  sum_changed [] alone h = absurd (false≢true h)
  sum_changed (d ∷ ds) alone h = by (bytes_eq d c.doc) refl (λ k. sum_changed ds alone.1 k)
    where
      by : (b : Bool) → bytes_eq d c.doc ≡ b → (among ds c.doc ≡ true → sum_given (given_with g c) ds f + times (g c.doc) f ≡ sum_given g ds f + times c.facts f)
          → sum_given (given_with g c) (d ∷ ds) f + times (g c.doc) f ≡ sum_given g (d ∷ ds) f + times c.facts f
      by true same rest =
          let one : d ≡ c.doc = (bytes_decides d c.doc).0 same in
          let others : sum_given (given_with g c) ds f ≡ sum_given g ds f = sum_other ds (subst (λ (x : List ℕ). among ds x ≡ false) one alone.0) in
          let before : times (g d) f ≡ times (g c.doc) f = ap (λ (x : List ℕ). times (g x) f) one in
          omega (arith, others, before, own d one)
      by false same rest =
          omega (arith, other d same, rest (or_other (bytes_eq d c.doc) (among ds c.doc) same h))

-- the documents of changes are among these
abbrev pub AreOf : List (List ℕ) → List DocumentFacts → Type 0
AreOf docs [] = Unit {0}
AreOf docs (c ∷ cs) = (among docs c.doc ≡ true) × AreOf docs cs

pub sums_changed : (docs : List (List ℕ)) → IsOnce docs → (g : Gives) (cs : List DocumentFacts) (f : Fact) → AreOf docs cs
    → sum_given (given_after g cs) docs f + all_times (given_before g cs) f ≡ sum_given g docs f + all_times cs f
sums_changed docs alone g [] f of = refl
sums_changed docs alone g (c ∷ cs) f of =
    omega (arith, sums_changed docs alone (given_with g c) cs f of.1, sum_changed g c f docs alone of.0)

with_same : (g h : Gives) → ((d : List ℕ) → g d ≡ h d) → (c : DocumentFacts) (d : List ℕ) → given_with g c d ≡ given_with h c d
with_same g h same c d = ap (λ (l : List Fact). if bytes_eq c.doc d then c.facts else l) (same d)

pub after_same : (g h : Gives) → ((d : List ℕ) → g d ≡ h d) → (cs : List DocumentFacts) (d : List ℕ) → given_after g cs d ≡ given_after h cs d
after_same g h same [] d = same d
after_same g h same (c ∷ cs) d = after_same (given_with g c) (given_with h c) (λ x. with_same g h same c x) cs d

pub before_same : (g h : Gives) → ((d : List ℕ) → g d ≡ h d) → (cs : List DocumentFacts) (f : Fact) → all_times (given_before g cs) f ≡ all_times (given_before h cs) f
before_same g h same [] f = refl
before_same g h same (c ∷ cs) f =
    let one : times (g c.doc) f ≡ times (h c.doc) f = ap (λ (l : List Fact). times l f) (same c.doc) in
    omega (arith, one, before_same (given_with g c) (given_with h c) (λ x. with_same g h same c x) cs f)

-- one change more
pub after_more : (g : Gives) (cs : List DocumentFacts) (c : DocumentFacts) (d : List ℕ) → given_after g (cs ++ c ∷ []) d ≡ given_with (λ x. given_after g cs x) c d
after_more g [] c d = refl
after_more g (x ∷ xs) c d = after_more (given_with g x) xs c d

pub before_more : (g : Gives) (cs : List DocumentFacts) (c : DocumentFacts) → given_before g (cs ++ c ∷ []) ≡ given_before g cs ++ record { doc = c.doc; facts = given_after g cs c.doc } ∷ []
before_more g [] c = refl
before_more g (x ∷ xs) c = ap (λ (l : List DocumentFacts). record { doc = x.doc; facts = g x.doc } ∷ l) (before_more (given_with g x) xs c)

pub all_append : (xs ys : List DocumentFacts) (f : Fact) → all_times (xs ++ ys) f ≡ all_times xs f + all_times ys f
all_append [] ys f = omega arith
all_append (x ∷ xs) ys f = omega (arith, all_append xs ys f)
