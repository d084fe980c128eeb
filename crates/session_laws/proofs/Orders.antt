-- The order of rows.
use Rattle.std.proofs.Common.{◌≡◌, ◌⊎◌, inl, inr, ◌<◌, List, [], ◌∷◌, ◌++◌, refl, subst, arith}
use Rattle.std.proofs.lemmas.Cmp.{then_total, on_total, nat_cmp_total, ranked, by_ranked}
use Rattle.std.specs.Cmp.{IsTotalOrder}
use Rattle.std.specs.Ordering.{nat_cmp}
use Rattle.sg_names.specs.declared.key.Key.{Key}
use Rattle.sg_names.specs.Key.{key_cmp}
use Rattle.sg_history.specs.declared.row.Row.{Row}
use Rattle.feed_rows.specs.Laws.{HasRow, IsBelow, Precedes, Rising}

key_total : IsTotalOrder key_cmp
key_total = then_total (on_total (λ (k : Key). k.by) nat_cmp_total) (on_total (λ (k : Key). k.seq) nat_cmp_total)

below_trans : (a b c : Key) → IsBelow a b → IsBelow b c → IsBelow a c
below_trans = key_total.trans

-- a key of a lesser place is below
pub lesser_below : (a b : Key) → a.by < b.by → IsBelow a b
lesser_below a b less =
    by_ranked (a.by < b.by) (a.by ≡ b.by) (b.by < a.by) (nat_cmp a.by b.by) (ranked a.by b.by (nat_cmp a.by b.by) refl)
    (λ e h. rw e refl) (λ e h. absurd (omega (arith, h, less))) (λ e h. absurd (omega (arith, h, less)))

-- ---- rows

pub has_first : (first second : List Row) (row : Row) → HasRow first row → HasRow (first ++ second) row
has_first [] second row has = absurd has
has_first (one ∷ first) second row (inl is) = inl is
has_first (one ∷ first) second row (inr has) = inr (has_first first second row has)

pub has_second : (first second : List Row) (row : Row) → HasRow second row → HasRow (first ++ second) row
has_second [] second row has = has
has_second (one ∷ first) second row has = inr (has_second first second row has)

either_on : (one : Row) (first second : List Row) (row : Row) → HasRow first row ⊎ HasRow second row → HasRow (one ∷ first) row ⊎ HasRow second row
either_on one first second row (inl has) = inl (inr has)
either_on one first second row (inr has) = inr has

pub has_either : (first second : List Row) (row : Row) → HasRow (first ++ second) row → HasRow first row ⊎ HasRow second row
has_either [] second row has = inr has
has_either (one ∷ first) second row (inl is) = inl (inl is)
has_either (one ∷ first) second row (inr has) = either_on one first second row (has_either first second row has)

-- the first row is below all others
head_below : (row : Row) (rows : List Row) (other : Row) → Precedes row rows → Rising rows → HasRow rows other → IsBelow row.key other.key
head_below row [] other before rising has = absurd has
head_below row (next ∷ rows) other before rising (inl is) = subst (λ (r : Row). IsBelow row.key r.key) is before
head_below row (next ∷ rows) other before (first, rising) (inr has) = below_trans row.key next.key other.key before (head_below next rows other first rising has)

-- of rising rows each of the first ones is below each of the others
pub rising_below : (first second : List Row) (row other : Row) → Rising (first ++ second) → HasRow first row → HasRow second other → IsBelow row.key other.key
rising_below [] second row other rising has there = absurd has
rising_below (one ∷ first) second row other (before, rising) (inl is) there =
    subst (λ (r : Row). IsBelow r.key other.key) is (head_below one (first ++ second) other before rising (has_second first second other there))
rising_below (one ∷ first) second row other (before, rising) (inr has) there = rising_below first second row other rising has there

-- rising rows after rising rows, all of which they are above
precedes_on : (row : Row) (first second : List Row) → Precedes row first → ((other : Row) → HasRow second other → IsBelow row.key other.key) → Precedes row (first ++ second)
precedes_on row [] [] before below = tt
precedes_on row [] (other ∷ second) before below = below other (inl refl)
precedes_on row (one ∷ first) second before below = before

pub rising_on : (first second : List Row) → Rising first → Rising second → ((row other : Row) → HasRow first row → HasRow second other → IsBelow row.key other.key) → Rising (first ++ second)
rising_on [] second a b below = b
rising_on (row ∷ first) second (before, a) b below =
    (precedes_on row first second before (λ other has. below row other (inl refl) has), rising_on first second a b (λ r other has there. below r other (inr has) there))
