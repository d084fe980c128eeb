-- the last place that is kept of marks of a revision, by a part of the map
use Rattle.std.proofs.Common.{◌≡◌, ◌<◌, ◌≤◌, ◌++◌, ℕ, refl, sym, ◌∙◌, ap, arith, true, false, true≢false, List, [], ◌∷◌, Option, Some, None}
use Rattle.std.specs.Prelude.{is_some}
use Rattle.std.specs.BTreeMap.{BTreeMap, get}
use Rattle.std.specs.BTreeMap.Range.{IsInRange, IsRangeOf}
use Rattle.std.specs.declared.ops.Bound.TheVariants.{Included, Excluded}
use Rattle.std.specs.Ordering.{nat_cmp, ordering_then, is_gt, is_lt, MatchOrdering}
use Rattle.std.specs.Cmp.{ranked, nat_cmp_is}
use Rattle.std.specs.declared.cmp.Ordering.{Ordering}
use Rattle.std.specs.declared.cmp.Ordering.TheVariants.{Less, Equal, Greater}
use Rattle.log_index.specs.Representation.{place_at, IsLast}
use Rattle.log_index.proofs.PlaceKeys.{pair_cmp}

same : (n : ℕ) → nat_cmp n n ≡ Equal
same n = sym (nat_cmp_is n n Equal refl)

less : (a b : ℕ) → a < b → nat_cmp a b ≡ Less
less a b h = sym (nat_cmp_is a b Less h)

not_above : (a b : ℕ) → a ≤ b → is_gt (nat_cmp a b) ≡ false
not_above a b h = by (nat_cmp a b) (ranked a b (nat_cmp a b) refl)
  where
    by : (o : Ordering) → MatchOrdering o (a < b) (a ≡ b) (b < a) → is_gt o ≡ false
    by Less r = refl
    by Equal r = refl
    by Greater r = absurd (omega (arith, h, r))

-- a pair that is below another
below_pair : (a b c d : ℕ) → ordering_then (nat_cmp a c) (nat_cmp b d) ≡ Less → (a ≤ c) × (a ≡ c → b < d)
below_pair a b c d h = by (nat_cmp a c) (nat_cmp b d) (ranked a c (nat_cmp a c) refl) (ranked b d (nat_cmp b d) refl) h
  where
    by : (o p : Ordering) → MatchOrdering o (a < c) (a ≡ c) (c < a) → MatchOrdering p (b < d) (b ≡ d) (d < b) → ordering_then o p ≡ Less → (a ≤ c) × (a ≡ c → b < d)
    by Less p r t h = (omega (arith, r), λ e. absurd (omega (arith, r, e)))
    by Equal Less r t h = (omega (arith, r), λ e. t)
    by Equal Equal r t h = absurd (true≢false (sym (ap is_lt h)))
    by Equal Greater r t h = absurd (true≢false (sym (ap is_lt h)))
    by Greater p r t h = absurd (true≢false (sym (ap is_lt h)))

-- a pair that is not above another
upto_pair : (a b c d : ℕ) → is_gt (ordering_then (nat_cmp a c) (nat_cmp b d)) ≡ false → (a ≤ c) × (a ≡ c → b ≤ d)
upto_pair a b c d h = by (nat_cmp a c) (nat_cmp b d) (ranked a c (nat_cmp a c) refl) (ranked b d (nat_cmp b d) refl) h
  where
    by : (o p : Ordering) → MatchOrdering o (a < c) (a ≡ c) (c < a) → MatchOrdering p (b < d) (b ≡ d) (d < b) → is_gt (ordering_then o p) ≡ false → (a ≤ c) × (a ≡ c → b ≤ d)
    by Less p r t h = (omega (arith, r), λ e. absurd (omega (arith, r, e)))
    by Equal Less r t h = (omega (arith, r), λ e. omega (arith, t))
    by Equal Equal r t h = (omega (arith, r), λ e. omega (arith, t))
    by Equal Greater r t h = absurd (true≢false h)
    by Greater p r t h = absurd (true≢false h)

abbrev InRange : ℕ → ℕ → ℕ → ℕ × ℕ → Type 0
InRange first after up_to q = IsInRange pair_cmp (Excluded (first, after)) (Included (first, up_to)) q

inside : (first after up_to s : ℕ) → after < s → s ≤ up_to → InRange first after up_to (first, s)
inside first after up_to s low high = (
  ap (λ (o : Ordering). ordering_then o (nat_cmp after s)) (same first) ∙ less after s low,
  ap (λ (o : Ordering). is_gt (ordering_then o (nat_cmp s up_to))) (same first) ∙ not_above s up_to high,
)

-- what is in the range
record Within (first after up_to : ℕ) (q : ℕ × ℕ) : Type 0 where
  own : q.0 ≡ first
  low : after < q.1
  high : q.1 ≤ up_to

within : (first after up_to : ℕ) (q : ℕ × ℕ) → InRange first after up_to q → Within first after up_to q
within first after up_to q h =
    let low = below_pair first after q.0 q.1 h.0 in
    let high = upto_pair q.0 q.1 first up_to h.1 in
    let own : q.0 ≡ first = omega (arith, low.0, high.0) in
    record { own = own; low = low.1 (sym own); high = high.1 own }

module _ (m : BTreeMap (ℕ × ℕ) ℕ) (first after up_to : ℕ) (r : List ((ℕ × ℕ) × ℕ)) (is : IsRangeOf pair_cmp (Excluded (first, after)) (Included (first, up_to)) m r) where
  pub no_place : r ≡ [] → (s : ℕ) → after < s → s ≤ up_to → place_at m first s ≡ None
  no_place empty s low high = is.5 empty (first, s) (inside first after up_to s low high)

  module _ (key : ℕ × ℕ) (mark : ℕ) (t : List ((ℕ × ℕ) × ℕ)) (ends : r ≡ t ++ (key, mark) ∷ []) where
    last : Within first after up_to key
    last = within first after up_to key (is.3 (key, mark) t ends).0

    there : place_at m first key.1 ≡ Some mark
    there = ap (λ (n : ℕ). get pair_cmp m (n, key.1)) (sym last.own) ∙ (is.3 (key, mark) t ends).1

    none_above : (s : ℕ) → key.1 < s → s ≤ up_to → place_at m first s ≡ None
    none_above s above high = by (place_at m first s) refl
      where
        later : is_lt (pair_cmp key (first, s)) ≡ true
        later =
            ap (λ (n : ℕ). is_lt (ordering_then (nat_cmp n first) (nat_cmp key.1 s))) last.own
            ∙ ap (λ (o : Ordering). is_lt (ordering_then o (nat_cmp key.1 s))) (same first)
            ∙ ap is_lt (less key.1 s above)

        by : (o : Option ℕ) → place_at m first s ≡ o → o ≡ None
        by None at = refl
        by (Some x) at =
            absurd (true≢false (sym later ∙ is.4 (key, mark) t ends (first, s) (inside first after up_to s (omega (arith, last.low, above)) high) (ap is_some at)))

    pub last_is : IsLast (place_at m first) after up_to (Some (record { sync = key.1; mark = mark }))
    last_is = (last.low, last.high, there, none_above)
