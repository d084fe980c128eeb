-- the order of keys, by their numbers
use Rattle.std.proofs.Common.{◌≡◌, ◌⊎◌, inl, inr, ℕ, ◌<◌, sym, Bool, true, false, ◌&&◌, refl}
use Rattle.std.proofs.lemmas.Bool.{false≢true}
use Rattle.std.proofs.lemmas.Cmp.{by_ranked, ranked}
use Rattle.std.specs.Ordering.{MatchOrdering, is_lt, nat_cmp, ordering_then}
use Rattle.std.specs.declared.cmp.Ordering.{Ordering}
use Rattle.std.specs.declared.cmp.Ordering.TheVariants.{Less, Equal, Greater}
use Rattle.sg_names.specs.declared.key.Key.{Key}
use Rattle.sg_names.specs.Key.{key_cmp}
use Rattle.sg_history.specs.declared.row.Row.{Row}
use Rattle.sg_history.specs.declared.row.Options.{Options}
use Rattle.sg_history.specs.Feed.{keeps}

-- one key is below another, as numbers
abbrev pub Under : Key → Key → Type 0
Under a b = (a.by < b.by) ⊎ ((a.by ≡ b.by) × (a.seq < b.seq))

by_numbers : (x y z w : ℕ) → MatchOrdering (ordering_then (nat_cmp x y) (nat_cmp z w)) ((x < y) ⊎ ((x ≡ y) × (z < w))) ((x ≡ y) × (z ≡ w)) ((y < x) ⊎ ((y ≡ x) × (w < z)))
by_numbers x y z w =
    by_ranked (x < y) (x ≡ y) (y < x) (nat_cmp x y) (ranked x y _ refl)
    (λ e h. rw e (inl h))
    (λ e h. rw e (by_ranked (z < w) (z ≡ w) (w < z) (nat_cmp z w) (ranked z w _ refl) (λ f k. rw f (inr (h, k))) (λ f k. rw f (h, k)) (λ f k. rw f (inr (sym h, k)))))
    (λ e h. rw e (inl h))

pub under_from_below : (a b : Key) → key_cmp a b ≡ Less → Under a b
under_from_below a b h = rw h at (by_numbers a.by b.by a.seq b.seq)

first : (a b : Bool) → (a && b) ≡ true → a ≡ true
first true b h = refl
first false b h = absurd (false≢true h)

-- a row that is asked for is above the key
pub kept_above : (options : Options) (since : Key) (row : Row) → keeps options since row ≡ true → key_cmp since row.key ≡ Less
kept_above options since row kept = less (key_cmp since row.key) (first (is_lt (key_cmp since row.key)) _ (first _ _ kept))
  where
    less : (o : Ordering) → is_lt o ≡ true → o ≡ Less
    less Less h = refl
    less Equal h = absurd (false≢true h)
    less Greater h = absurd (false≢true h)
