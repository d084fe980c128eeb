-- places at which a test may change, as they are gathered, and a sweep over them
use Rattle.std.proofs.Common.{◌≡◌, ◌<◌, ◌≤◌, ◌+◌, ◌-◌, ℕ, zero, suc, refl, sym, ◌∙◌, ap, subst, arith, Bool, true, false, ◌&&◌, ◌||◌, cond, nat_le, nat_lt, List, [], ◌∷◌, ◌++◌, length, drop, get_or}
use Rattle.std.specs.Prelude.{nat_eq}
use Rattle.std.specs.List.{list_any}
use Rattle.std.specs.List.Sorted.{IsPermutation}
use Rattle.std.proofs.lemmas.Bool.{true≢false}
use Rattle.std.proofs.lemmas.List.{drop_more, drop_all}
use Rattle.std.proofs.lemmas.List.Sorted.{list_any-IsPermutation}
use Rattle.grant_tracks.specs.declared.ways.Ways.{Ways}
use Rattle.grant_tracks.specs.declared.spells.Sweep.{Sweep}
use Rattle.grant_tracks.specs.declared.track.Span.{Span}
use Rattle.grant_tracks.specs.declared.track.Track.{Track}
use Rattle.grant_tracks.specs.inner.Cuts.{is_cut, IsSteady, Covers, Rise}
use Rattle.grant_tracks.specs.Spells.{Stays, Swept, spells_have, open_has}
use Rattle.grant_tracks.specs.Tracks.{has_place, was_held, held_last, held_at}
use Rattle.grant_tracks.specs.Counts.{up_to, open_at}
use Rattle.grant_tracks.specs.Ways.{gifts_open, is_within, track_has, ways_have}
use Rattle.grant_tracks.proofs.Counting.{first as count_first}
use Rattle.grant_tracks.proofs.Gathered.{any_same}
use Rattle.grant_tracks.proofs.Sweeping.{stretched}

cut_parts : (xs ys : List ℕ) (k : ℕ) → is_cut (xs ++ ys) k ≡ false → (is_cut xs k ≡ false) × (is_cut ys k ≡ false)
cut_parts [] ys k h = (refl, h)
cut_parts (x ∷ xs) ys k h = by (nat_eq k x) refl h (λ g. cut_parts xs ys k g)
  where
    by : (b : Bool) → nat_eq k x ≡ b → (b || is_cut (xs ++ ys) k) ≡ false → (is_cut (xs ++ ys) k ≡ false → (is_cut xs k ≡ false) × (is_cut ys k ≡ false)) → (is_cut (x ∷ xs) k ≡ false) × (is_cut ys k ≡ false)
    by true is h rest = absurd (true≢false h)
    by false is h rest = let p = rest h in (ap (λ (b : Bool). b || is_cut xs k) is ∙ p.0, p.1)

first_none : (a b : Bool) → (a || b) ≡ false → a ≡ false
first_none true b h = h
first_none false b h = refl

second_none : (a b : Bool) → (a || b) ≡ false → b ≡ false
second_none true b h = absurd (true≢false h)
second_none false b h = h

-- a span that neither begins nor ends at a place has it where it has the place before
span_steady : (s : Span) (k : ℕ) → nat_eq (k + 1) s.from ≡ false → nat_eq (k + 1) s.to ≡ false → has_place (k + 1) s ≡ has_place k s
span_steady s k from to = grind (arith, from, to)

-- where a span begins and where it ends
pub span_covers : (old new : List ℕ) (s : Span) → new ≡ old ++ s.from ∷ s.to ∷ [] → Covers old new (λ k. has_place k s)
span_covers old new s is = record {
  kept = λ k h. (parts k h).0;
  steady = λ k h.
      let two = (parts (k + 1) h).1 in
      let from = first_none (nat_eq (k + 1) s.from) (nat_eq (k + 1) s.to || false) two in
      let to = first_none (nat_eq (k + 1) s.to) false (second_none (nat_eq (k + 1) s.from) (nat_eq (k + 1) s.to || false) two) in
      span_steady s k from to;
}
  where
    parts : (k : ℕ) → is_cut new k ≡ false → (is_cut old k ≡ false) × (is_cut (s.from ∷ s.to ∷ []) k ≡ false)
    parts k h = cut_parts old (s.from ∷ s.to ∷ []) k (ap (λ (l : List ℕ). is_cut l k) (sym is) ∙ h)

-- where none of those that are left changes a test, none of all does
pub record CoversBefore {X : Type 0} (test : X → ℕ → Bool) (xs : List X) (i : ℕ) (start cuts : List ℕ) : Type 0 where
  pub kept : (k : ℕ) → is_cut cuts k ≡ false → is_cut start k ≡ false
  pub rest : (k : ℕ) → is_cut cuts (k + 1) ≡ false → list_any (λ x. test x (k + 1)) (drop i xs) ≡ list_any (λ x. test x k) (drop i xs)
      → list_any (λ x. test x (k + 1)) xs ≡ list_any (λ x. test x k) xs

pub covers_begin : {X : Type 0} (test : X → ℕ → Bool) (xs : List X) (start : List ℕ) → CoversBefore test xs 0 start start
covers_begin test xs start = record { kept = λ k h. h; rest = λ k h same. same }

pub covers_more : {X : Type 0} (test : X → ℕ → Bool) (xs : List X) (i : ℕ) (x : X) (start old new : List ℕ) → i < length xs → x ≡ get_or xs i x → CoversBefore test xs i start old → Covers old new (test x) → CoversBefore test xs (i + 1) start new
covers_more test xs i x start old new within is before c = record {
  kept = λ k h. before.kept k (c.kept k h);
  rest = λ k h same. before.rest k (c.kept (k + 1) h) (any_same (λ y. test y (k + 1)) (λ y. test y k) xs i x within is (c.steady k h) same);
}

pub covers_end : {X : Type 0} (test : X → ℕ → Bool) (xs : List X) (i : ℕ) (start cuts : List ℕ) → length xs ≤ i → CoversBefore test xs i start cuts → Covers start cuts (λ k. list_any (λ x. test x k) xs)
covers_end {X = X} test xs i start cuts le before = record {
  kept = before.kept;
  steady = λ k h. before.rest k h (ap (λ (l : List X). list_any (λ x. test x (k + 1)) l) none ∙ ap (λ (l : List X). list_any (λ x. test x k) l) (sym none));
}
  where
    none : drop i xs ≡ []
    none = drop_all i xs le

-- the last span changes where it begins and where it ended
last_steady : (count opened until k : ℕ) → nat_eq (k + 1) opened ≡ false → nat_eq (k + 1) until ≡ false
    → (nat_le opened (k + 1) && (nat_lt 0 count || nat_lt (k + 1) until)) ≡ (nat_le opened k && (nat_lt 0 count || nat_lt k until))
last_steady count opened until k from to =
    ap (λ (b : Bool). b && (nat_lt 0 count || nat_lt (k + 1) until)) (begins opened from)
    ∙ ap (λ (b : Bool). nat_le opened k && (nat_lt 0 count || b)) (ends until to)
  where
    begins : (o : ℕ) → nat_eq (k + 1) o ≡ false → nat_le o (k + 1) ≡ nat_le o k
    begins o h = grind (arith, h)

    ends : (o : ℕ) → nat_eq (k + 1) o ≡ false → nat_lt (k + 1) o ≡ nat_lt k o
    ends o h = grind (arith, h)

pub track_covers : (t : Track) (start middle new : List ℕ) → Covers start middle (was_held t) → new ≡ middle ++ t.opened ∷ t.until ∷ [] → Covers start new (held_at t)
track_covers t start middle new c is = record {
  kept = λ k h. c.kept k (parts k h).0;
  steady = λ k h.
      let p = parts (k + 1) h in
      let from = first_none (nat_eq (k + 1) t.opened) (nat_eq (k + 1) t.until || false) p.1 in
      let to = first_none (nat_eq (k + 1) t.until) false (second_none (nat_eq (k + 1) t.opened) (nat_eq (k + 1) t.until || false) p.1) in
      ap (λ (b : Bool). b || held_last t (k + 1)) (c.steady k p.0)
      ∙ ap (λ (b : Bool). was_held t k || b) (last_steady t.count t.opened t.until k from to);
}
  where
    parts : (k : ℕ) → is_cut new k ≡ false → (is_cut middle k ≡ false) × (is_cut (t.opened ∷ t.until ∷ []) k ≡ false)
    parts k h = cut_parts middle (t.opened ∷ t.until ∷ []) k (ap (λ (l : List ℕ). is_cut l k) (sym is) ∙ h)

-- a test in other words
pub covers_same : (old new : List ℕ) (one other : ℕ → Bool) → Covers old new one → ((k : ℕ) → other k ≡ one k) → Covers old new other
covers_same old new one other c same = record { kept = c.kept; steady = λ k h. same (k + 1) ∙ c.steady k h ∙ sym (same k) }

-- those of a user: while it has the role, its own, and those of its roles
pub ways_cover : (start a b c d : List ℕ) (w : Ways) → Covers start a (is_within w.within) → Covers a b (track_has w.own.exists) → Covers b c (track_has w.own.channel) → Covers c d (gifts_open w.gifts) → Covers start d (ways_have w)
ways_cover start a b c d w within exists channel gifts = record {
  kept = λ k h. within.kept k (exists.kept k (channel.kept k (gifts.kept k h)));
  steady = λ k h.
      let third : is_cut c (k + 1) ≡ false = gifts.kept (k + 1) h in
      let second : is_cut b (k + 1) ≡ false = channel.kept (k + 1) third in
      let first : is_cut a (k + 1) ≡ false = exists.kept (k + 1) second in
      parts (within.steady k first) (exists.steady k second) (channel.steady k third) (gifts.steady k h);
}
  where
    parts : {i j e f c d g h : Bool} → i ≡ j → e ≡ f → c ≡ d → g ≡ h → (i && (e && (g || (c || (w.is_everyone || false))))) ≡ (j && (f && (h || (d || (w.is_everyone || false)))))
    parts {i = i} {j = j} {e = e} {f = f} {c = c} {d = d} {g = g} {h = h} one two three four =
        ap (λ (b : Bool). b && (e && (g || (c || (w.is_everyone || false))))) one
        ∙ ap (λ (b : Bool). j && (b && (g || (c || (w.is_everyone || false))))) two
        ∙ ap (λ (b : Bool). j && (f && (g || (b || (w.is_everyone || false))))) three
        ∙ ap (λ (b : Bool). j && (f && (b || (d || (w.is_everyone || false))))) four

-- in another order
pub sorted_steady : (start cuts sorted : List ℕ) (test : ℕ → Bool) → Covers start cuts test → IsPermutation cuts sorted → IsSteady sorted test
sorted_steady start cuts sorted test c moved k h = c.steady k (list_any-IsPermutation (nat_eq (k + 1)) cuts sorted moved ∙ h)

-- at a place where none of these is as many are before it or there
count_steady : (xs : List ℕ) (k : ℕ) → is_cut xs (k + 1) ≡ false → up_to xs (k + 1) ≡ up_to xs k
count_steady [] k h = refl
count_steady (x ∷ xs) k h =
    count_first x xs (k + 1)
    ∙ ap (λ (b : Bool). cond b 1 0 + up_to xs (k + 1)) (begins x (first_none (nat_eq (k + 1) x) (is_cut xs (k + 1)) h))
    ∙ ap (λ (n : ℕ). cond (nat_le x k) 1 0 + n) (count_steady xs k (second_none (nat_eq (k + 1) x) (is_cut xs (k + 1)) h))
    ∙ sym (count_first x xs k)
  where
    begins : (o : ℕ) → nat_eq (k + 1) o ≡ false → nat_le o (k + 1) ≡ nat_le o k
    begins o h = grind (arith, h)

-- where spells begin and where they end
pub events_cover : (old middle new begins ends : List ℕ) → middle ≡ old ++ begins → new ≡ middle ++ ends → Covers old new (open_at begins ends)
events_cover old middle new begins ends one two = record {
  kept = λ k h. (parts k h).0;
  steady = λ k h.
      let p = parts (k + 1) h in
      ap (λ (n : ℕ). nat_lt n (up_to begins (k + 1))) (count_steady ends k p.2) ∙ ap (λ (n : ℕ). nat_lt (up_to ends k) n) (count_steady begins k p.1);
}
  where
    parts : (k : ℕ) → is_cut new k ≡ false → (is_cut old k ≡ false) × (is_cut begins k ≡ false) × (is_cut ends k ≡ false)
    parts k h =
        let last = cut_parts middle ends k (ap (λ (l : List ℕ). is_cut l k) (sym two) ∙ h) in
        let first = cut_parts old begins k (ap (λ (l : List ℕ). is_cut l k) (sym one) ∙ last.0) in
        (first.0, first.1, last.1)

-- each of these from a place on is greater
none_later : (cuts : List ℕ) (i m : ℕ) → ((n : ℕ) → i ≤ n → n < length cuts → m < get_or cuts n m) → is_cut (drop i cuts) m ≡ false
none_later [] zero m h = refl
none_later [] (suc i) m h = refl
none_later (x ∷ xs) zero m h =
    let first : m < x = h 0 (omega arith) (omega arith) in
    ap (λ (b : Bool). b || is_cut xs m) (apart first) ∙ none_later xs zero m (λ n le within. h (suc n) (omega arith) (omega (arith, within)))
  where
    apart : m < x → nat_eq m x ≡ false
    apart below = grind (arith, below)
none_later (x ∷ xs) (suc i) m h = none_later xs i m (λ n le within. h (suc n) (omega (arith, le)) (omega (arith, within)))

pub none_left : (cuts : List ℕ) (i m : ℕ) → length cuts ≤ i → is_cut (drop i cuts) m ≡ false
none_left cuts i m le = none_later cuts i m (λ n from within. absurd (omega (arith, le, from, within)))

module _ (test : ℕ → Bool) (cuts : List ℕ) (i at k : ℕ) (rise : Rise cuts) (within : i < length cuts) (is : k ≡ get_or cuts i 0)
    (rest : (j : ℕ) → at ≤ j → is_cut (drop i cuts) (j + 1) ≡ false → test (j + 1) ≡ test j) where
  -- before the next of them the test does not change
  before_next : (j : ℕ) → at ≤ j → j + 1 < k → test (j + 1) ≡ test j
  before_next j le below = rest j le (none_later cuts i (j + 1) (λ n from inside.
      let low : get_or cuts i (j + 1) ≤ get_or cuts n (j + 1) = rise i n (j + 1) from inside in
      let here : get_or cuts i (j + 1) ≡ k = same_default cuts i (j + 1) 0 within ∙ sym is in
      omega (arith, low, here, below)))
    where
      same_default : (xs : List ℕ) (i d e : ℕ) → i < length xs → get_or xs i d ≡ get_or xs i e
      same_default [] i d e h = absurd (omega (arith, h))
      same_default (x ∷ xs) zero d e h = refl
      same_default (x ∷ xs) (suc i) d e h = same_default xs i d e (omega (arith, h))

  pub stays_before : Stays test at k
  stays_before j le below = subst (λ (m : ℕ). test m ≡ test at) (omega (arith, le)) (by (j - at) (omega (arith, le, below)))
    where
      by : (more : ℕ) → at + more < k → test (at + more) ≡ test at
      by zero h = ap test (omega arith)
      by (suc more) h =
          let step : test (at + more + 1) ≡ test (at + more) = before_next (at + more) (omega arith) (omega (arith, h)) in
          ap test (omega arith) ∙ step ∙ by more (omega (arith, h))

  -- behind it the test changes at the others alone
  pub rest_after : (now : ℕ) → at ≤ now → k ≤ now → (j : ℕ) → now ≤ j → is_cut (drop (i + 1) cuts) (j + 1) ≡ false → test (j + 1) ≡ test j
  rest_after now low high j le h = rest j (omega (arith, low, le))
      (ap (λ (l : List ℕ). is_cut l (j + 1)) (drop_more cuts i 0 within)
      ∙ ap (λ (b : Bool). b || is_cut (drop (i + 1) cuts) (j + 1)) (apart (get_or cuts i 0) (sym is)) ∙ h)
    where
      apart : (m : ℕ) → m ≡ k → nat_eq (j + 1) m ≡ false
      apart m same =
          let below : m < j + 1 = omega (arith, same, high, le) in
          grind (arith, below)

-- behind all of them it never changes
pub says_all : (sweep : Sweep) (test : ℕ → Bool) (at : ℕ) → Swept sweep test at → ((j : ℕ) → at ≤ j → test (j + 1) ≡ test j) → (k : ℕ) → (spells_have sweep.list.items k || open_has sweep.begun k) ≡ test k
says_all sweep test at s still k = (stretched sweep test at k s (λ j low high. subst (λ (m : ℕ). test m ≡ test at) (omega (arith, low)) (by (j - at)))).says k (omega arith)
  where
    by : (more : ℕ) → test (at + more) ≡ test at
    by zero = ap test (omega arith)
    by (suc more) =
        let step : test (at + more + 1) ≡ test (at + more) = still (at + more) (omega arith) in
        ap test (omega arith) ∙ step ∙ by more

-- what the roles so far, one more and those that are left have
pub moves_over : {X Y : Type 0} (f : Y → Bool) (test : X → Bool) (all : List X) (i : ℕ) (x : X) (old new : List Y) → i < length all → x ≡ get_or all i x → list_any f new ≡ (list_any f old || test x)
    → (list_any f new || list_any test (drop (i + 1) all)) ≡ (list_any f old || list_any test (drop i all))
moves_over {X = X} f test all i x old new within is more =
    ap (λ (b : Bool). b || list_any test (drop (i + 1) all)) more
    ∙ by (list_any f old)
    ∙ ap (λ (l : List X). list_any f old || list_any test l) (ap (λ (y : X). y ∷ drop (i + 1) all) is ∙ sym (drop_more all i x within))
  where
    by : (b : Bool) → ((b || test x) || list_any test (drop (i + 1) all)) ≡ (b || (test x || list_any test (drop (i + 1) all)))
    by true = refl
    by false = refl

pub none_over : {X Y : Type 0} (f : Y → Bool) (test : X → Bool) (all : List X) (i : ℕ) (list : List Y) → length all ≤ i → list_any f list ≡ (list_any f list || list_any test (drop i all))
none_over {X = X} f test all i list le = by (list_any f list) ∙ ap (λ (l : List X). list_any f list || list_any test l) (sym (drop_all i all le))
  where
    by : (b : Bool) → b ≡ (b || false)
    by true = refl
    by false = refl
