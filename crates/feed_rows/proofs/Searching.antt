-- the last period of a channel that has begun at a place, found by halves
use Rattle.std.proofs.Common.{◌≡◌, ℕ, ◌<◌, ◌≤◌, ◌-◌, refl, sym, ◌∙◌, ap, subst, arith, Bool, true, false, ◌&&◌, ◌||◌, List, [], ◌∷◌, length, Option, Some, None, zero, suc}
use Rattle.std.specs.Prelude.{nat_le, nat_lt, slice_index_or, unwrap_or}
use Rattle.std.specs.Ordering.{nat_cmp, is_lt, is_eq, ordering_then}
use Rattle.std.specs.declared.cmp.Ordering.{Ordering}
use Rattle.std.specs.declared.cmp.Ordering.TheVariants.{Less, Equal, Greater}
use Rattle.std.specs.Cmp.Lexicographic.{slice_cmp, bytes_decides}
use Rattle.std.specs.List.Sorted.{IsPartitionedBy}
use Rattle.std.specs.Str.{bytes_eq}
use Rattle.std.proofs.lemmas.Bool.{false≢true, or_from, lt-leb, le-leb, leb-true, leb-false}
use Rattle.std.proofs.lemmas.Cmp.{nat_list_cmp_total}
use Rattle.std.proofs.lemmas.Map.Text.{is_eq-slice_cmp}
use Rattle.sg_names.specs.ItemList.{rises}
use Rattle.grant_history.specs.declared.periods.Period.{Period}
use Rattle.grant_history.specs.Periods.{AreInOrder, ArePeriodsApart, EndsBeforeLater, HavePlaces, period_has, period_order, periods_have}
use Rattle.grant_tracks.specs.Spells.{ends_after, EndsBefore}
use Rattle.feed_rows.specs.Lasting.{Lasts, begun_by, is_begun}

or_is : (a b : Bool) → b ≡ false → (a || b) ≡ a
or_is true b h = refl
or_is false b h = h

and_none : (b : Bool) → (b && false) ≡ false
and_none true = refl
and_none false = refl

first : (a b : Bool) → (a && b) ≡ true → a ≡ true
first true b h = refl
first false b h = h

second : (a b : Bool) → (a && b) ≡ true → b ≡ true
second true b h = h
second false b h = absurd (false≢true h)

-- names that tie are one
one_name : (a b : List ℕ) → slice_cmp nat_cmp a b ≡ Equal → a ≡ b
one_name a b is = (bytes_decides a b).0 (sym (is_eq-slice_cmp a b) ∙ ap is_eq is)

named : (a b : List ℕ) (o : Ordering) → slice_cmp nat_cmp a b ≡ o → bytes_eq a b ≡ is_eq o
named a b o is = sym (is_eq-slice_cmp a b) ∙ ap is_eq is

-- of two periods in their order the first has begun where the second has
begun_before : (p q : Period) (c : List ℕ) (k : ℕ) → is_lt (period_order p q) ≡ true → is_begun c k q ≡ true → is_begun c k p ≡ true
begun_before p q c k less begun = by (slice_cmp nat_cmp p.channel q.channel) (slice_cmp nat_cmp q.channel c) refl refl less begun
  where
    less_than : slice_cmp nat_cmp p.channel c ≡ Less → is_begun c k p ≡ true
    less_than is = ap (λ (o : Ordering). begun_by o p.from k) is

    earlier : nat_le q.from k ≡ true → is_lt (nat_cmp p.from q.from) ≡ true → nat_le p.from k ≡ true
    earlier le below = grind (arith, le, below)

    by : (a b : Ordering) → slice_cmp nat_cmp p.channel q.channel ≡ a → slice_cmp nat_cmp q.channel c ≡ b → is_lt (ordering_then a (nat_cmp p.from q.from)) ≡ true → begun_by b q.from k ≡ true → is_begun c k p ≡ true
    by Less Less pq qc lt is = less_than (nat_list_cmp_total.trans p.channel q.channel c pq qc)
    by Less Equal pq qc lt is = less_than (ap (λ (n : List ℕ). slice_cmp nat_cmp p.channel n) (sym (one_name q.channel c qc)) ∙ pq)
    by Less Greater pq qc lt is = absurd (false≢true is)
    by Equal Less pq qc lt is = less_than (ap (λ (n : List ℕ). slice_cmp nat_cmp n c) (one_name p.channel q.channel pq) ∙ qc)
    by Equal Equal pq qc lt is = ap (λ (o : Ordering). begun_by o p.from k) (ap (λ (n : List ℕ). slice_cmp nat_cmp n c) (one_name p.channel q.channel pq) ∙ qc) ∙ earlier is lt
    by Equal Greater pq qc lt is = absurd (false≢true is)
    by Greater b pq qc lt is = absurd (false≢true lt)

first_begun : (p : Period) (ps : List Period) (c : List ℕ) (k j : ℕ) (d : Period) → AreInOrder (p ∷ ps) → j < length ps → is_begun c k (slice_index_or ps j d) ≡ true → is_begun c k p ≡ true
first_begun p [] c k j d order within is = absurd (omega (arith, within))
first_begun p (q ∷ qs) c k zero d order within is = begun_before p q c k (first (is_lt (period_order p q)) (rises period_order (q ∷ qs)) order) is
first_begun p (q ∷ qs) c k (suc j) d order within is =
    begun_before p q c k (first (is_lt (period_order p q)) (rises period_order (q ∷ qs)) order)
    (first_begun q qs c k j d (second (is_lt (period_order p q)) (rises period_order (q ∷ qs)) order) (omega (arith, within)) is)

later_in_order : (p : Period) (ps : List Period) → AreInOrder (p ∷ ps) → AreInOrder ps
later_in_order p [] order = refl
later_in_order p (q ∷ qs) order = second (is_lt (period_order p q)) (rises period_order (q ∷ qs)) order

-- periods in their order have begun up to some place among them
pub parted : (ps : List Period) (c : List ℕ) (k : ℕ) → AreInOrder ps → IsPartitionedBy (λ p. is_begun c k p) ps
parted [] c k order i j d le within is = absurd (omega (arith, within))
parted (p ∷ ps) c k order zero zero d le within is = is
parted (p ∷ ps) c k order zero (suc j) d le within is = first_begun p ps c k j d order (omega (arith, within)) is
parted (p ∷ ps) c k order (suc i) zero d le within is = absurd (omega (arith, le))
parted (p ∷ ps) c k order (suc i) (suc j) d le within is = parted ps c k (later_in_order p ps order) i j d (omega (arith, le)) (omega (arith, within)) is

-- one that has not begun has no place of the channel
unbegun : (p : Period) (c : List ℕ) (k j : ℕ) → is_begun c k p ≡ false → j ≤ k → (bytes_eq p.channel c && period_has j p) ≡ false
unbegun p c k j is le = by (slice_cmp nat_cmp p.channel c) refl is
  where
    by : (o : Ordering) → slice_cmp nat_cmp p.channel c ≡ o → begun_by o p.from k ≡ false → (bytes_eq p.channel c && period_has j p) ≡ false
    by Less same h = absurd (false≢true (sym h))
    by Equal same h =
        ap (λ (b : Bool). bytes_eq p.channel c && (b && ends_after p.to j)) (lt-leb p.from j (omega (arith, leb-false p.from k h, le)))
        ∙ and_none (bytes_eq p.channel c)
    by Greater same h = ap (λ (b : Bool). b && period_has j p) (named p.channel c Greater same)

none_begun : (ps : List Period) (c : List ℕ) (k : ℕ) → ((i : ℕ) (d : Period) → i < length ps → is_begun c k (slice_index_or ps i d) ≡ false) → (j : ℕ) → j ≤ k → periods_have ps c j ≡ false
none_begun [] c k later j le = refl
none_begun (p ∷ ps) c k later j le =
    or_from _ _ (unbegun p c k j (later 0 p (omega arith)) le) (none_begun ps c k (λ i d w. later (suc i) d (omega (arith, w))) j le)

-- where the last that has begun is of another channel, the channel has no place
less_step : (p q : Period) (c : List ℕ) → is_lt (period_order p q) ≡ true → slice_cmp nat_cmp q.channel c ≡ Less → slice_cmp nat_cmp p.channel c ≡ Less
less_step p q c less qc = by (slice_cmp nat_cmp p.channel q.channel) refl less
  where
    by : (o : Ordering) → slice_cmp nat_cmp p.channel q.channel ≡ o → is_lt (ordering_then o (nat_cmp p.from q.from)) ≡ true → slice_cmp nat_cmp p.channel c ≡ Less
    by Less pq lt = nat_list_cmp_total.trans p.channel q.channel c pq qc
    by Equal pq lt = ap (λ (n : List ℕ). slice_cmp nat_cmp n c) (one_name p.channel q.channel pq) ∙ qc
    by Greater pq lt = absurd (false≢true lt)

less_by : (p : Period) (ps : List Period) (c : List ℕ) (i : ℕ) (d : Period) → AreInOrder (p ∷ ps) → i < length ps → slice_cmp nat_cmp (slice_index_or ps i d).channel c ≡ Less → slice_cmp nat_cmp p.channel c ≡ Less
less_by p [] c i d order within less = absurd (omega (arith, within))
less_by p (q ∷ qs) c zero d order within less = less_step p q c (first (is_lt (period_order p q)) (rises period_order (q ∷ qs)) order) less
less_by p (q ∷ qs) c (suc i) d order within less =
    less_step p q c (first (is_lt (period_order p q)) (rises period_order (q ∷ qs)) order)
    (less_by q qs c i d (second (is_lt (period_order p q)) (rises period_order (q ∷ qs)) order) (omega (arith, within)) less)

other_begun : (ps : List Period) (c : List ℕ) (i k : ℕ) (x : Period) → AreInOrder ps → i < length ps → slice_cmp nat_cmp (slice_index_or ps i x).channel c ≡ Less
    → ((m : ℕ) (d : Period) → i < m → m < length ps → is_begun c k (slice_index_or ps m d) ≡ false) → (j : ℕ) → j ≤ k → periods_have ps c j ≡ false
other_begun [] c i k x order within less later j le = absurd (omega (arith, within))
other_begun (p ∷ ps) c zero k x order within less later j le =
    or_from _ _ (ap (λ (b : Bool). b && period_has j p) (named p.channel c Less less)) (none_begun ps c k (λ m d w. later (suc m) d (omega arith) (omega (arith, w))) j le)
other_begun (p ∷ ps) c (suc i) k x order within less later j le =
    or_from _ _ (ap (λ (b : Bool). b && period_has j p) (named p.channel c Less (less_by p ps c i x order (omega (arith, within)) less)))
    (other_begun ps c i k x (later_in_order p ps order) (omega (arith, within)) less (λ m d a w. later (suc m) d (omega (arith, a)) (omega (arith, w))) j le)

-- one of another name that has begun is of an earlier channel
pub earlier_channel : (p : Period) (c : List ℕ) (k : ℕ) → is_begun c k p ≡ true → bytes_eq p.channel c ≡ false → slice_cmp nat_cmp p.channel c ≡ Less
earlier_channel p c k begun other = by (slice_cmp nat_cmp p.channel c) refl begun
  where
    by : (o : Ordering) → slice_cmp nat_cmp p.channel c ≡ o → begun_by o p.from k ≡ true → slice_cmp nat_cmp p.channel c ≡ Less
    by Less is h = is
    by Equal is h = absurd (false≢true (sym other ∙ named p.channel c Equal is))
    by Greater is h = absurd (false≢true h)

-- one of the channel that has begun begins at the place or before
pub own_begin : (p : Period) (c : List ℕ) (k : ℕ) → is_begun c k p ≡ true → bytes_eq p.channel c ≡ true → p.from ≤ k
own_begin p c k begun own = by (slice_cmp nat_cmp p.channel c) refl begun
  where
    by : (o : Ordering) → slice_cmp nat_cmp p.channel c ≡ o → begun_by o p.from k ≡ true → p.from ≤ k
    by Less is h = absurd (false≢true (sym (named p.channel c Less is) ∙ own))
    by Equal is h = leb-true p.from k h
    by Greater is h = absurd (false≢true h)

-- where one of the channel has begun, and those behind it have not, it alone can have a place
each_before : (p : Period) (ps : List Period) (i : ℕ) (d : Period) → EndsBeforeLater p ps → i < length ps → bytes_eq p.channel (slice_index_or ps i d).channel ≡ true → EndsBefore p.to (slice_index_or ps i d).from
each_before p [] i d h within same = absurd (omega (arith, within))
each_before p (q ∷ qs) zero d h within same = h.0 same
each_before p (q ∷ qs) (suc i) d h within same = each_before p qs i d h.1 (omega (arith, within)) same

over : (p : Period) (c : List ℕ) (at : Period) (j : ℕ) → (bytes_eq p.channel at.channel ≡ true → EndsBefore p.to at.from) → bytes_eq at.channel c ≡ true → at.from ≤ j → (bytes_eq p.channel c && period_has j p) ≡ false
over p c at j ends own le = by (bytes_eq p.channel c) refl
  where
    same : bytes_eq p.channel c ≡ true → bytes_eq p.channel at.channel ≡ true
    same is = subst (λ (n : List ℕ). bytes_eq p.channel n ≡ true) (sym ((bytes_decides at.channel c).0 own)) is

    ended : EndsBefore p.to at.from → period_has j p ≡ false
    ended e =
        ap (λ (o : Option ℕ). nat_le p.from j && ends_after o j) e.1
        ∙ ap (λ (b : Bool). nat_le p.from j && b) (lt-leb (suc j) e.0 (omega (arith, e.2, le)))
        ∙ and_none (nat_le p.from j)

    by : (b : Bool) → bytes_eq p.channel c ≡ b → (b && period_has j p) ≡ false
    by true is = ended (ends (same is))
    by false is = refl

pub one_begun : (ps : List Period) (c : List ℕ) (i k : ℕ) (x : Period) → ArePeriodsApart ps → i < length ps → bytes_eq (slice_index_or ps i x).channel c ≡ true
    → ((m : ℕ) (d : Period) → i < m → m < length ps → is_begun c k (slice_index_or ps m d) ≡ false) → (j : ℕ) → (slice_index_or ps i x).from ≤ j → j ≤ k → periods_have ps c j ≡ ends_after (slice_index_or ps i x).to j
one_begun [] c i k x apart within own later j low high = absurd (omega (arith, within))
one_begun (p ∷ ps) c zero k x apart within own later j low high =
    or_is (bytes_eq p.channel c && period_has j p) (periods_have ps c j) (none_begun ps c k (λ m d w. later (suc m) d (omega arith) (omega (arith, w))) j high)
    ∙ ap (λ (b : Bool). b && period_has j p) own
    ∙ ap (λ (b : Bool). b && ends_after p.to j) (le-leb p.from j low)
one_begun (p ∷ ps) c (suc i) k x apart within own later j low high =
    ap (λ (b : Bool). b || periods_have ps c j) (over p c (slice_index_or ps i x) j (each_before p ps i x apart.0 (omega (arith, within))) own low)
    ∙ one_begun ps c i k x apart.1 (omega (arith, within)) own (λ m d a w. later (suc m) d (omega (arith, a)) (omega (arith, w))) j low high

-- each period has a place
pub own_place : (ps : List Period) (i : ℕ) (d : Period) → HavePlaces ps → i < length ps → ends_after (slice_index_or ps i d).to (slice_index_or ps i d).from ≡ true
own_place [] i d h within = absurd (omega (arith, within))
own_place (p ∷ ps) zero d h within = h.0
own_place (p ∷ ps) (suc i) d h within = own_place ps i d h.1 (omega (arith, within))

-- what a test that never holds leaves
never : (test : ℕ → Bool) (k : ℕ) → ((j : ℕ) → j ≤ k → test j ≡ false) → Lasts test k (record { holds = false; since = 0 })
never test k none = record {
  now = sym (none k (omega arith));
  past = omega arith;
  same = λ j low high. none j high ∙ sym (none k (omega arith));
}

pub lasts_none : (ps : List Period) (c : List ℕ) (k : ℕ) → ((i : ℕ) (d : Period) → i < length ps → is_begun c k (slice_index_or ps i d) ≡ false) → Lasts (λ j. periods_have ps c j) k (record { holds = false; since = 0 })
lasts_none ps c k later = never (λ j. periods_have ps c j) k (none_begun ps c k later)

pub lasts_other : (ps : List Period) (c : List ℕ) (i k : ℕ) (x : Period) → AreInOrder ps → i < length ps → is_begun c k (slice_index_or ps i x) ≡ true → bytes_eq (slice_index_or ps i x).channel c ≡ false
    → ((m : ℕ) (d : Period) → i < m → m < length ps → is_begun c k (slice_index_or ps m d) ≡ false) → Lasts (λ j. periods_have ps c j) k (record { holds = false; since = 0 })
lasts_other ps c i k x order within begun other later =
    never (λ j. periods_have ps c j) k (other_begun ps c i k x order within (earlier_channel (slice_index_or ps i x) c k begun other) later)

-- what a period that has begun leaves of a test that follows it
pub lasts_ended : (p : Period) (k since : ℕ) (test : ℕ → Bool) → since ≡ unwrap_or p.to k → ends_after p.to k ≡ false → p.from ≤ k → ends_after p.to p.from ≡ true → ((j : ℕ) → p.from ≤ j → j ≤ k → test j ≡ ends_after p.to j) → Lasts test k (record { holds = false; since = since })
lasts_ended p k since test end ended began placed says = go p.to refl
  where
    go : (to : Option ℕ) → p.to ≡ to → Lasts test k (record { holds = false; since = since })
    go None is = absurd (false≢true (sym ended ∙ ap (λ (o : Option ℕ). ends_after o k) is))
    go (Some to) is =
        let at : since ≡ to = end ∙ ap (λ (o : Option ℕ). unwrap_or o k) is in
        let over : nat_lt k to ≡ false = sym (ap (λ (o : Option ℕ). ends_after o k) is) ∙ ended in
        let past : to ≤ k = omega (arith, leb-false (suc k) to over) in
        let own : nat_lt p.from to ≡ true = sym (ap (λ (o : Option ℕ). ends_after o p.from) is) ∙ placed in
        let low : p.from < to = omega (arith, leb-true (suc p.from) to own) in
        let none : (j : ℕ) → to ≤ j → j ≤ k → test j ≡ false = λ j a b. says j (omega (arith, low, a)) b ∙ ap (λ (o : Option ℕ). ends_after o j) is ∙ lt-leb (suc j) to (omega (arith, a)) in
        record { now = sym (none k past (omega arith)); past = omega (arith, at, past); same = λ j a b. none j (omega (arith, at, a)) b ∙ sym (none k past (omega arith)) }

pub lasts_open : (p : Period) (k : ℕ) (test : ℕ → Bool) → ends_after p.to k ≡ true → p.from ≤ k → ((j : ℕ) → p.from ≤ j → j ≤ k → test j ≡ ends_after p.to j) → Lasts test k (record { holds = true; since = p.from })
lasts_open p k test placed began says =
    let each : (j : ℕ) → p.from ≤ j → j ≤ k → test j ≡ true = λ j a b. says j a b ∙ still p.to j b placed in
    record { now = sym (each k began (omega arith)); past = began; same = λ j a b. each j a b ∙ sym (each k began (omega arith)) }
  where
    still : (to : Option ℕ) (j : ℕ) → j ≤ k → ends_after to k ≡ true → ends_after to j ≡ true
    still None j le h = refl
    still (Some to) j le h = le-leb (suc j) to (omega (arith, leb-true (suc k) to h, le))

-- so many of these periods have begun, and this is the last of them
module _ (ps : List Period) (c : List ℕ) (n k : ℕ) (last : Period) (some : 0 < n) (within : n ≤ length ps) (is : last ≡ slice_index_or ps (n - 1) last)
    (before : (i : ℕ) (d : Period) → i < n → is_begun c k (slice_index_or ps i d) ≡ true)
    (after : (i : ℕ) (d : Period) → n ≤ i → i < length ps → is_begun c k (slice_index_or ps i d) ≡ false) where
  pub lasts_before : AreInOrder ps → bytes_eq last.channel c ≡ false → Lasts (λ j. periods_have ps c j) k (record { holds = false; since = 0 })
  lasts_before order other =
      lasts_other ps c (n - 1) k last order (omega (arith, some, within)) (before (n - 1) last (omega (arith, some))) (ap (λ (p : Period). bytes_eq p.channel c) (sym is) ∙ other)
      (λ m d a w. after m d (omega (arith, a)) w)

  pub last_begun : bytes_eq last.channel c ≡ true → last.from ≤ k
  last_begun own = own_begin last c k (ap (λ (p : Period). is_begun c k p) is ∙ before (n - 1) last (omega (arith, some))) own

  pub last_placed : HavePlaces ps → ends_after last.to last.from ≡ true
  last_placed have = ap (λ (p : Period). ends_after p.to p.from) is ∙ own_place ps (n - 1) last have (omega (arith, some, within))

  pub lasts_by : ArePeriodsApart ps → bytes_eq last.channel c ≡ true → (j : ℕ) → last.from ≤ j → j ≤ k → periods_have ps c j ≡ ends_after last.to j
  lasts_by apart own j low high =
      one_begun ps c (n - 1) k last apart (omega (arith, some, within)) (ap (λ (p : Period). bytes_eq p.channel c) (sym is) ∙ own) (λ m d a w. after m d (omega (arith, a)) w) j
      (subst (λ (p : Period). p.from ≤ j) is low) high
      ∙ ap (λ (p : Period). ends_after p.to j) (sym is)
