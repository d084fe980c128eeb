-- Lemmas on counts and totals.
use Rattle.std.proofs.Common.{◌≡◌, ◌≢◌, ◌⊎◌, ◌≤◌, ◌<◌, ◌+◌, ℕ, zero, suc, refl, sym, ap, ◌∙◌, inl, inr, ⊎_elim, arith, Bool, nat_eq, ◌&&◌, if◌then◌else◌, List, [], ◌∷◌, ◌++◌, set}
use Rattle.std.specs.Prelude.{nat_le}
use Rattle.std.proofs.lemmas.Bool.{eq-eqb, ne_eqb, le-leb, lt-leb, lt-ltb, le-ltb, cases_lt}
use mathlib.Core.Option.{some, some-injective, some-ne-none}
use native.Mathlib.Decide.{ℕ_discrete}
use lib.ListN.{get_elem?}
use Rattle.sg_history.specs.declared.book.Waiting.{Waiting}
use Rattle.sg_history.specs.World.{once_among}
use Rattle.seq_gate.specs.Counts.{count_once, times, numbers, below, total}

pub tick_same : (k n : ℕ) → n ≡ k → count_once (nat_eq n k) ≡ 1
tick_same k n e = ap count_once (eq-eqb n k e)

pub tick_else : (k n : ℕ) → n ≢ k → count_once (nat_eq n k) ≡ 0
tick_else k n e = ap count_once (ne_eqb n k e)

pub tick_cases : (k n : ℕ) → ((n ≡ k) × (count_once (nat_eq n k) ≡ 1)) ⊎ ((n ≢ k) × (count_once (nat_eq n k) ≡ 0))
tick_cases k n = elim (ℕ_discrete n k) [
  | yes e ↦ inl (e, tick_same k n e)
  | no e ↦ inr (e, tick_else k n e)
]

pub times-append : (k : ℕ) (xs ys : List ℕ) → times k (xs ++ ys) ≡ times k xs + times k ys
times-append k [] ys = omega arith
times-append k (x ∷ xs) ys = let rest = times-append k xs ys in omega (arith, rest)

pub numbers-append : (ps qs : List Waiting) → numbers (ps ++ qs) ≡ numbers ps ++ numbers qs
numbers-append [] qs = refl
numbers-append (p ∷ ps) qs = ap (λ (ns : List ℕ). p.number ∷ ns) (numbers-append ps qs)

-- ---- the first so many numbers from 1

pub once_in : (k n : ℕ) → 1 ≤ k → k ≤ n → once_among k n ≡ 1
once_in k n from low =
    ap (λ (b : Bool). if b && nat_le k n then 1 else 0) (le-leb 1 k from) ∙ ap (λ (b : Bool). if b then 1 else 0) (le-leb k n low)

pub once_zero : (n : ℕ) → once_among 0 n ≡ 0
once_zero n = refl

pub once_past : (k n : ℕ) → 1 ≤ k → n < k → once_among k n ≡ 0
once_past k n from high =
    ap (λ (b : Bool). if b && nat_le k n then 1 else 0) (le-leb 1 k from) ∙ ap (λ (b : Bool). if b then 1 else 0) (lt-leb k n high)

pub once_cases : (k n : ℕ) → ((1 ≤ k) × (k ≤ n) × (once_among k n ≡ 1)) ⊎ (((k ≡ 0) ⊎ (n < k)) × (once_among k n ≡ 0))
once_cases zero n = inr (inl refl, refl)
once_cases (suc k) n = go (cases_lt n (suc k))
  where
    go : (n < suc k) ⊎ (suc k ≤ n) → ((1 ≤ suc k) × (suc k ≤ n) × (once_among (suc k) n ≡ 1)) ⊎ (((suc k ≡ 0) ⊎ (n < suc k)) × (once_among (suc k) n ≡ 0))
    go (inl high) = inr (inr high, once_past (suc k) n (omega arith) high)
    go (inr low) = inl (omega arith, low, once_in (suc k) n (omega arith) low)

pub once_some : (k n : ℕ) → 0 < once_among k n → (0 < k) × (k ≤ n)
once_some k n least = go (once_cases k n)
  where
    go : ((1 ≤ k) × (k ≤ n) × (once_among k n ≡ 1)) ⊎ (((k ≡ 0) ⊎ (n < k)) × (once_among k n ≡ 0)) → (0 < k) × (k ≤ n)
    go (inl within) = (within.0, within.1)
    go (inr out) = let none = out.1 in absurd (omega (arith, none, least))

pub once_most : (k n : ℕ) → once_among k n ≤ 1
once_most k n = go (once_cases k n)
  where
    go : ((1 ≤ k) × (k ≤ n) × (once_among k n ≡ 1)) ⊎ (((k ≡ 0) ⊎ (n < k)) × (once_among k n ≡ 0)) → once_among k n ≤ 1
    go (inl within) = let one = within.2 in omega (arith, one)
    go (inr out) = let none = out.1 in omega (arith, none)

-- the number next to the last is one more
pub once_more : (k n : ℕ) → once_among k (suc n) ≡ once_among k n + count_once (nat_eq (suc n) k)
once_more zero n = let other = tick_else 0 (suc n) (λ e. absurd (omega (arith, e))) in omega (arith, other)
once_more (suc k) n = go (tick_cases (suc k) (suc n)) (cases_lt n (suc k))
  where
    go : ((suc n ≡ suc k) × (count_once (nat_eq (suc n) (suc k)) ≡ 1)) ⊎ ((suc n ≢ suc k) × (count_once (nat_eq (suc n) (suc k)) ≡ 0)) → (n < suc k) ⊎ (suc k ≤ n)
        → once_among (suc k) (suc n) ≡ once_among (suc k) n + count_once (nat_eq (suc n) (suc k))
    go (inl e) side =
        let same = e.0 in
        let tick = e.1 in
        let now = once_in (suc k) (suc n) (omega arith) (omega (arith, same)) in
        let old = once_past (suc k) n (omega arith) (omega (arith, same)) in
        omega (arith, now, old, tick)
    go (inr ne) (inl high) =
        let apart = ne.0 in
        let tick = ne.1 in
        let now = once_past (suc k) (suc n) (omega arith) (omega (arith, apart, high)) in
        let old = once_past (suc k) n (omega arith) high in
        omega (arith, now, old, tick)
    go (inr ne) (inr low) =
        let tick = ne.1 in
        let now = once_in (suc k) (suc n) (omega arith) (omega (arith, low)) in
        let old = once_in (suc k) n (omega arith) low in
        omega (arith, now, old, tick)

-- ---- the first so many numbers from 0

pub below_in : (k n : ℕ) → k < n → below k n ≡ 1
below_in k n within = ap count_once (lt-ltb k n within)

pub below_out : (k n : ℕ) → n ≤ k → below k n ≡ 0
below_out k n out = ap count_once (le-ltb k n out)

pub below_most : (k n : ℕ) → below k n ≤ 1
below_most k n = ⊎_elim
    (λ (x : k < n). let one = below_in k n x in omega (arith, one))
    (λ (x : n ≤ k). let none = below_out k n x in omega (arith, none))
    (cases_lt k n)

pub below_some : (k n : ℕ) → 0 < below k n → k < n
below_some k n least = ⊎_elim
    (λ (x : k < n). x)
    (λ (x : n ≤ k). let out = below_out k n x in absurd (omega (arith, out, least)))
    (cases_lt k n)

pub below_zero : (k n : ℕ) → below k n ≡ 0 → n ≤ k
below_zero k n none = ⊎_elim
    (λ (x : k < n). let within = below_in k n x in absurd (omega (arith, within, none)))
    (λ (x : n ≤ k). x)
    (cases_lt k n)

pub below_more : (k n : ℕ) → below k (suc n) ≡ below k n + count_once (nat_eq n k)
below_more k n = go (tick_cases k n) (cases_lt k n)
  where
    go : ((n ≡ k) × (count_once (nat_eq n k) ≡ 1)) ⊎ ((n ≢ k) × (count_once (nat_eq n k) ≡ 0)) → (k < n) ⊎ (n ≤ k) → below k (suc n) ≡ below k n + count_once (nat_eq n k)
    go (inl e) side =
        let same = e.0 in
        let tick = e.1 in
        let now = below_in k (suc n) (omega (arith, same)) in
        let old = below_out k n (omega (arith, same)) in
        omega (arith, now, old, tick)
    go (inr ne) (inl low) =
        let tick = ne.1 in
        let now = below_in k (suc n) (omega (arith, low)) in
        let old = below_in k n low in
        omega (arith, now, old, tick)
    go (inr ne) (inr high) =
        let apart = ne.0 in
        let tick = ne.1 in
        let now = below_out k (suc n) (omega (arith, apart, high)) in
        let old = below_out k n high in
        omega (arith, now, old, tick)

-- ---- totals

module _ {V : Type 0} where
  -- after a change of one view
  pub total_set : (f : V → ℕ) (views : List V) (id : ℕ) (v w : V) → get_elem? views id ≡ some v → total f (set views id w) + f v ≡ total f views + f w
  total_set f [] id v w at = absurd (some-ne-none v (sym at))
  total_set f (u ∷ us) zero v w at = rw (some-injective u v at) (omega arith)
  total_set f (u ∷ us) (suc id) v w at = let rest = total_set f us id v w at in omega arith

  -- of what a step leaves alone
  pub same_total : (f : V → ℕ) (views : List V) (id : ℕ) (v w : V) → get_elem? views id ≡ some v → f w ≡ f v → total f (set views id w) ≡ total f views
  same_total f views id v w at same = let t = total_set f views id v w at in omega (arith, t, same)

  pub total_has : (f : V → ℕ) (views : List V) (id : ℕ) (v : V) → get_elem? views id ≡ some v → f v ≤ total f views
  total_has f [] id v at = absurd (some-ne-none v (sym at))
  total_has f (u ∷ us) zero v at = rw (some-injective u v at) (omega arith)
  total_has f (u ∷ us) (suc id) v at = let rest = total_has f us id v at in omega arith

  pub total_snoc : (f : V → ℕ) (views : List V) (w : V) → total f (views ++ w ∷ []) ≡ total f views + f w
  total_snoc f [] w = omega arith
  total_snoc f (u ∷ us) w = let rest = total_snoc f us w in omega arith

  -- two views at different places
  pub total_two : (f : V → ℕ) (views : List V) (j k : ℕ) (v w : V) → get_elem? views j ≡ some v → get_elem? views k ≡ some w → j ≢ k → f v + f w ≤ total f views
  total_two f [] j k v w a b apart = absurd (some-ne-none v (sym a))
  total_two f (u ∷ us) zero zero v w a b apart = absurd (apart refl)
  total_two f (u ∷ us) zero (suc k) v w a b apart = let rest = total_has f us k w b in rw (some-injective u v a) (omega arith)
  total_two f (u ∷ us) (suc j) zero v w a b apart = let rest = total_has f us j v a in rw (some-injective u w b) (omega arith)
  total_two f (u ∷ us) (suc j) (suc k) v w a b apart = let rest = total_two f us j k v w a b (λ e. apart (ap suc e)) in omega arith

  -- view by view
  pub total_least : (f g : V → ℕ) (views : List V) → ((k : ℕ) (v : V) → get_elem? views k ≡ some v → f v ≤ g v) → total f views ≤ total g views
  total_least f g [] all = omega arith
  total_least f g (u ∷ us) all = let rest = total_least f g us (λ k v at. all (suc k) v at) in let this = all 0 u refl in omega arith

  pub total_less : (f g : V → ℕ) (views : List V) (id : ℕ) (v : V) → ((k : ℕ) (v : V) → get_elem? views k ≡ some v → f v ≤ g v) → get_elem? views id ≡ some v → total f views + g v ≤ total g views + f v
  total_less f g [] id v all at = absurd (some-ne-none v (sym at))
  total_less f g (u ∷ us) zero v all at = let rest = total_least f g us (λ k v at. all (suc k) v at) in rw (some-injective u v at) (omega arith)
  total_less f g (u ∷ us) (suc id) v all at = let rest = total_less f g us id v (λ k v at. all (suc k) v at) at in let this = all 0 u refl in omega arith

  pub total_none : (g : V → ℕ) (views : List V) → total g views ≡ 0 → (k : ℕ) (u : V) → get_elem? views k ≡ some u → g u ≡ 0
  total_none g views none k u at = let h = total_has g views k u at in omega (arith, h, none)

  pub total_zero : (f : V → ℕ) (views : List V) → ((k : ℕ) (u : V) → get_elem? views k ≡ some u → f u ≡ 0) → total f views ≡ 0
  total_zero f [] all = refl
  total_zero f (u ∷ us) all = let rest = total_zero f us (λ k v at. all (suc k) v at) in let this = all 0 u refl in omega (arith, rest, this)

  -- where one view has all of g, it has all of f too
  pub total_whole : (f g : V → ℕ) (views : List V) (id : ℕ) (v : V) → get_elem? views id ≡ some v → total g views ≡ g v → ((k : ℕ) (u : V) → get_elem? views k ≡ some u → g u ≡ 0 → f u ≡ 0) → total f views ≡ f v
  total_whole f g [] id v at all none = absurd (some-ne-none v (sym at))
  total_whole f g (u ∷ us) zero v at all none =
      let same : u ≡ v = some-injective u v at in
      let gs : g u ≡ g v = ap g same in
      let fs : f u ≡ f v = ap f same in
      let rest = total_zero f us (λ k x there. none (suc k) x there (total_none g us (omega (arith, all, gs)) k x there)) in
      omega (arith, rest, fs)
  total_whole f g (u ∷ us) (suc id) v at all none =
      let has = total_has g us id v at in
      let this = none 0 u refl (omega (arith, has, all)) in
      let rest = total_whole f g us id v at (omega (arith, has, all)) (λ k x there. none (suc k) x there) in
      omega (arith, rest, this)
