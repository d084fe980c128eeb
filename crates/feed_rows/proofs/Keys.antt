-- the order of keys
use Rattle.std.proofs.Common.{◌≡◌, ℕ, ◌<◌, ◌≤◌, refl, sym, inl, inr, ◌⊎◌, ⊎_elim, arith}
use Rattle.std.proofs.lemmas.Bool.{cases_lt}
use Rattle.std.proofs.lemmas.Cmp.{then_total, on_total, nat_cmp_total, ranked, by_ranked}
use Rattle.std.specs.Cmp.{IsTotalOrder}
use Rattle.std.specs.Ordering.{nat_cmp, ordering_then, MatchOrdering}
use Rattle.std.specs.declared.cmp.Ordering.{Ordering}
use Rattle.std.specs.declared.cmp.Ordering.TheVariants.{Less, Equal, Greater}
use Rattle.sg_names.specs.declared.key.Key.{Key}
use Rattle.sg_names.specs.Key.{key_cmp}
use Rattle.sg_history.specs.Device.{plain}
use Rattle.feed_rows.specs.Laws.{IsBelow}

-- one key is below another, as numbers
abbrev pub Under : Key → Key → Type 0
Under a b = (a.by < b.by) ⊎ ((a.by ≡ b.by) × (a.seq < b.seq))

pub key_total : IsTotalOrder key_cmp
key_total = then_total (on_total (λ (k : Key). k.by) nat_cmp_total) (on_total (λ (k : Key). k.seq) nat_cmp_total)

-- the order by both numbers
by_numbers : (x y z w : ℕ) → MatchOrdering (ordering_then (nat_cmp x y) (nat_cmp z w)) ((x < y) ⊎ ((x ≡ y) × (z < w))) ((x ≡ y) × (z ≡ w)) ((y < x) ⊎ ((y ≡ x) × (w < z)))
by_numbers x y z w =
    by_ranked (x < y) (x ≡ y) (y < x) (nat_cmp x y) (ranked x y _ refl)
    (λ e h. rw e (inl h))
    (λ e h. rw e (by_ranked (z < w) (z ≡ w) (w < z) (nat_cmp z w) (ranked z w _ refl) (λ f k. rw f (inr (h, k))) (λ f k. rw f (h, k)) (λ f k. rw f (inr (sym h, k)))))
    (λ e h. rw e (inl h))

-- what the order of two keys says of their numbers
pub key_ranked : (a b : Key) → MatchOrdering (key_cmp a b) (Under a b) ((a.by ≡ b.by) × (a.seq ≡ b.seq)) (Under b a)
key_ranked a b = by_numbers a.by b.by a.seq b.seq

pub under_from_below : (a b : Key) → IsBelow a b → Under a b
under_from_below a b h = rw h at (key_ranked a b)

pub below_from_under : (a b : Key) → Under a b → IsBelow a b
below_from_under a b u =
    by_ranked (Under a b) ((a.by ≡ b.by) × (a.seq ≡ b.seq)) (Under b a) (key_cmp a b) (key_ranked a b) (λ e h. e) (λ e h. absurd (omega arith)) (λ e h. absurd (omega arith))

pub not_below_itself : (a : Key) → IsBelow a a → ⊥
not_below_itself a h = let u = under_from_below a a h in omega arith

pub key_path : (a b : Key) → a.by ≡ b.by → a.seq ≡ b.seq → a ≡ b
key_path a b p q = λ i. record { by = p i; seq = q i }

pub same_from_tie : (a b : Key) → key_cmp a b ≡ Equal → a ≡ b
same_from_tie a b h = let e = rw h at (key_ranked a b) in key_path a b e.0 e.1

pub below_trans : (a b c : Key) → IsBelow a b → IsBelow b c → IsBelow a c
below_trans = key_total.trans

-- what is below a key of places up to a number is below that number
under_plain : (a b : Key) (n : ℕ) → Under a b → b.seq ≤ b.by → b.by ≤ n → Under a (plain n)
under_plain a b n (inl h) s k = inl (omega arith)
under_plain a b n (inr h) s k = ⊎_elim (λ l. inl l) (λ g. inr (omega arith, omega arith)) (cases_lt a.by n)

pub below_plain : (a b : Key) (n : ℕ) → IsBelow a b → b.seq ≤ b.by → b.by ≤ n → IsBelow a (plain n)
below_plain a b n h s k = below_from_under a (plain n) (under_plain a b n (under_from_below a b h) s k)

pub below_or_not : (a b : Key) → IsBelow a b ⊎ (IsBelow a b → ⊥)
below_or_not a b = go (key_cmp a b)
  where
    go : (o : Ordering) → (o ≡ Less) ⊎ (o ≡ Less → ⊥)
    go Less = inl refl
    go Equal = inr (λ h. cc)
    go Greater = inr (λ h. cc)
