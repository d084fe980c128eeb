-- periods of one channel more
use Rattle.std.proofs.Common.{◌≡◌, ◌<◌, ℕ, zero, suc, refl, sym, ◌∙◌, ap, subst, arith, Bool, true, false, ◌&&◌, ◌||◌, List, [], ◌∷◌, ◌++◌, map, take, drop, length, get_or, ◌+◌, Option, Some, None}
use Rattle.std.specs.List.{list_any}
use Rattle.std.specs.BTreeMap.{get_by_text}
use Rattle.std.specs.Str.{bytes_eq}
use Rattle.std.specs.Cmp.Lexicographic.{bytes_decides}
use Rattle.std.proofs.lemmas.Bool.{false≢true, true≢false}
use Rattle.sg_history.specs.History.{among}
use Rattle.sg_history.specs.Principals.{everyone}
use Rattle.grant_tracks.specs.declared.things.What.{What}
use Rattle.grant_tracks.specs.declared.things.What.TheVariants as what
use Rattle.grant_tracks.specs.declared.held.Held.{Held}
use Rattle.log_views.specs.Sorted.{AreSorted}
use Rattle.grant_history.specs.declared.periods.Period.{Period}
use Rattle.grant_tracks.specs.declared.spells.Spell.{Spell}
use Rattle.grant_tracks.specs.Tracks.{held_at}
use Rattle.grant_tracks.specs.Holdings.{Holders, held_in}
use Rattle.grant_tracks.specs.Reads.{is_channel, channel_among, channel_by, gives_channel, by_roles, list_channel}
use Rattle.grant_tracks.specs.Spells.{spell_has, spells_have, IsBeforeAll, AreApart}
use Rattle.grant_history.specs.Periods.{period_has, periods_have, EndsBeforeLater, ArePeriodsApart, HavePlaces, ever_among, ever_by, ever_gives, ever_by_roles, may_have, period_of, period_order, Adds, AreOf, AreSoFar, AreInOrder, AreAllPeriods}
use Rattle.sg_names.specs.ItemList.{rises}
use Rattle.std.specs.Ordering.{nat_cmp, is_lt, is_eq, ordering_then}
use Rattle.std.specs.Cmp.Lexicographic.{slice_cmp}
use Rattle.std.specs.declared.cmp.Ordering.{Ordering}
use Rattle.std.specs.declared.cmp.Ordering.TheVariants.{Less, Equal, Greater}
use Rattle.std.proofs.lemmas.Cmp.{nat_list_cmp_total}
use Rattle.std.proofs.lemmas.Map.Text.{is_eq-slice_cmp}
use Rattle.grant_tracks.proofs.Same.{text_itself}
use Rattle.grant_tracks.specs.Things.{Things}

among_append : (xs : List (List ℕ)) (y x : List ℕ) → among (xs ++ y ∷ []) x ≡ (among xs x || bytes_eq y x)
among_append [] y x = by (bytes_eq y x)
  where
    by : (b : Bool) → (b || false) ≡ b
    by true = refl
    by false = refl
among_append (z ∷ zs) y x = ap (λ (b : Bool). bytes_eq z x || b) (among_append zs y x) ∙ by (bytes_eq z x)
  where
    by : (b : Bool) → (b || (among zs x || bytes_eq y x)) ≡ ((b || among zs x) || bytes_eq y x)
    by true = refl
    by false = refl

have_append : (xs ys : List Period) (c : List ℕ) (k : ℕ) → periods_have (xs ++ ys) c k ≡ (periods_have xs c k || periods_have ys c k)
have_append [] ys c k = refl
have_append (x ∷ xs) ys c k = ap (λ (b : Bool). (bytes_eq x.channel c && period_has k x) || b) (have_append xs ys c k) ∙ by (bytes_eq x.channel c && period_has k x)
  where
    by : (b : Bool) → (b || (periods_have xs c k || periods_have ys c k)) ≡ ((b || periods_have xs c k) || periods_have ys c k)
    by true = refl
    by false = refl

mapped_have : (c x : List ℕ) (spells : List Spell) (k : ℕ) → periods_have (map (period_of c) spells) x k ≡ (bytes_eq c x && spells_have spells k)
mapped_have c x [] k = by (bytes_eq c x)
  where
    by : (b : Bool) → false ≡ (b && false)
    by true = refl
    by false = refl
mapped_have c x (s ∷ ss) k = ap (λ (b : Bool). (bytes_eq c x && spell_has k s) || b) (mapped_have c x ss k) ∙ by (bytes_eq c x)
  where
    by : (b : Bool) → ((b && spell_has k s) || (b && spells_have ss k)) ≡ (b && (spell_has k s || spells_have ss k))
    by true = refl
    by false = refl

mapped_before : (c : List ℕ) (s : Spell) (ss : List Spell) → IsBeforeAll s ss → EndsBeforeLater (period_of c s) (map (period_of c) ss)
mapped_before c s [] h = tt
mapped_before c s (t ∷ ts) h = ((λ same. h.0), mapped_before c s ts h.2)

mapped_apart : (c : List ℕ) (spells : List Spell) → AreApart spells → ArePeriodsApart (map (period_of c) spells)
mapped_apart c [] h = tt
mapped_apart c (s ∷ ss) h = (mapped_before c s ss h.1, mapped_apart c ss h.2)

mapped_places : (c : List ℕ) (spells : List Spell) → AreApart spells → HavePlaces (map (period_of c) spells)
mapped_places c [] h = tt
mapped_places c (s ∷ ss) h = (h.0, mapped_places c ss h.2)

places_joined : (xs ys : List Period) → HavePlaces xs → HavePlaces ys → HavePlaces (xs ++ ys)
places_joined [] ys h g = g
places_joined (x ∷ xs) ys h g = (h.0, places_joined xs ys h.1 g)

later_append : (p : Period) (xs : List Period) (c : List ℕ) (spells : List Spell) → EndsBeforeLater p xs → bytes_eq p.channel c ≡ false → EndsBeforeLater p (xs ++ map (period_of c) spells)
later_append p [] c [] h apart = tt
later_append p [] c (s ∷ ss) h apart = ((λ same. absurd (true≢false (sym same ∙ apart))), later_append p [] c ss tt apart)
later_append p (x ∷ xs) c spells h apart = (h.0, later_append p xs c spells h.1 apart)

differ : (names : List (List ℕ)) (p c : List ℕ) → among names p ≡ true → among names c ≡ false → bytes_eq p c ≡ false
differ names p c there absent = by (bytes_eq p c) refl
  where
    by : (b : Bool) → bytes_eq p c ≡ b → b ≡ false
    by false is = refl
    by true is = absurd (true≢false (sym there ∙ ap (λ (y : List ℕ). among names y) ((bytes_decides p c).0 is) ∙ absent))

apart_joined : (names : List (List ℕ)) (xs : List Period) (c : List ℕ) (spells : List Spell) → ArePeriodsApart xs → AreOf names xs → among names c ≡ false → AreApart spells → ArePeriodsApart (xs ++ map (period_of c) spells)
apart_joined names [] c spells h of absent apart = mapped_apart c spells apart
apart_joined names (x ∷ xs) c spells h of absent apart = (later_append x xs c spells h.0 (differ names x.channel c of.0 absent), apart_joined names xs c spells h.1 of.1 absent apart)

of_more : (names : List (List ℕ)) (c : List ℕ) (xs : List Period) → AreOf names xs → AreOf (names ++ c ∷ []) xs
of_more names c [] h = tt
of_more names c (x ∷ xs) h = (among_append names c x.channel ∙ ap (λ (b : Bool). b || bytes_eq c x.channel) h.0, of_more names c xs h.1)

of_mapped : (names : List (List ℕ)) (c : List ℕ) (spells : List Spell) → AreOf (names ++ c ∷ []) (map (period_of c) spells)
of_mapped names c [] = tt
of_mapped names c (s ∷ ss) = (among_append names c c ∙ right (among names c) (bytes_eq c c) (text_itself c), of_mapped names c ss)
  where
    right : (a b : Bool) → b ≡ true → (a || b) ≡ true
    right true b h = refl
    right false b h = h

of_joined : (names : List (List ℕ)) (xs ys : List Period) → AreOf names xs → AreOf names ys → AreOf names (xs ++ ys)
of_joined names [] ys h g = g
of_joined names (x ∷ xs) ys h g = (h.0, of_joined names xs ys h.1 g)

-- order
itself : (c : List ℕ) → slice_cmp nat_cmp c c ≡ Equal
itself c = by (slice_cmp nat_cmp c c) (is_eq-slice_cmp c c ∙ text_itself c)
  where
    by : (o : Ordering) → is_eq o ≡ true → o ≡ Equal
    by Less h = absurd (false≢true h)
    by Equal h = refl
    by Greater h = absurd (false≢true h)

is_less : (o : Ordering) → is_lt o ≡ true → o ≡ Less
is_less Less h = refl
is_less Equal h = absurd (false≢true h)
is_less Greater h = absurd (false≢true h)

mapped_in_order : (c : List ℕ) (spells : List Spell) → AreApart spells → AreInOrder (map (period_of c) spells)
mapped_in_order c [] h = refl
mapped_in_order c (s ∷ []) h = refl
mapped_in_order c (s ∷ t ∷ ts) h =
    ap (λ (o : Ordering). is_lt (ordering_then o (nat_cmp s.from t.from)) && rises period_order (map (period_of c) (t ∷ ts))) (itself c)
    ∙ ap (λ (b : Bool). b && rises period_order (map (period_of c) (t ∷ ts))) (less s.from t.from h.1.1)
    ∙ mapped_in_order c (t ∷ ts) h.2
  where
    less : (a b : ℕ) → a < b → is_lt (nat_cmp a b) ≡ true
    less a b below = grind (arith, below)

-- the channels of these are before this one
abbrev AreBefore : List Period → List ℕ → Type 0
AreBefore [] c = Unit {0}
AreBefore (p ∷ ps) c = (slice_cmp nat_cmp p.channel c ≡ Less) × AreBefore ps c

in_order_joined : (xs : List Period) (c : List ℕ) (spells : List Spell) → AreBefore xs c → AreInOrder xs → AreInOrder (map (period_of c) spells) → AreInOrder (xs ++ map (period_of c) spells)
in_order_joined [] c spells before h g = g
in_order_joined (x ∷ []) c [] before h g = refl
in_order_joined (x ∷ []) c (s ∷ ss) before h g =
    ap (λ (o : Ordering). is_lt (ordering_then o (nat_cmp x.from s.from)) && rises period_order (map (period_of c) (s ∷ ss))) before.0 ∙ g
in_order_joined (x ∷ y ∷ ys) c spells before h g = by (is_lt (period_order x y)) refl h (λ k. in_order_joined (y ∷ ys) c spells before.1 k g)
  where
    by : (b : Bool) → is_lt (period_order x y) ≡ b → (b && rises period_order (y ∷ ys)) ≡ true → (rises period_order (y ∷ ys) ≡ true → AreInOrder (y ∷ ys ++ map (period_of c) spells)) → AreInOrder (x ∷ y ∷ ys ++ map (period_of c) spells)
    by true is h rest = ap (λ (b : Bool). b && rises period_order (y ∷ ys ++ map (period_of c) spells)) is ∙ rest h
    by false is h rest = absurd (false≢true h)

-- one of names that rise comes before one behind them
name_before : (names : List (List ℕ)) (c : List ℕ) (rest : List (List ℕ)) (p : List ℕ) → AreSorted (names ++ c ∷ rest) → among names p ≡ true → slice_cmp nat_cmp p c ≡ Less
name_before [] c rest p sorted there = absurd (false≢true there)
name_before (x ∷ names) c rest p sorted there = by (bytes_eq x p) refl there (λ q s t. name_before names c rest q s t)
  where
    second : (a b : Bool) → (a && b) ≡ true → b ≡ true
    second true b k = k
    second false b k = absurd (false≢true k)

    first : (a b : Bool) → (a && b) ≡ true → a ≡ true
    first true b k = refl
    first false b k = absurd (false≢true k)

    tail : (names : List (List ℕ)) → AreSorted (x ∷ names ++ c ∷ rest) → AreSorted (names ++ c ∷ rest)
    tail [] h = second (is_lt (slice_cmp nat_cmp x c)) (rises (slice_cmp nat_cmp) (c ∷ rest)) h
    tail (y ∷ ys) h = second (is_lt (slice_cmp nat_cmp x y)) (rises (slice_cmp nat_cmp) (y ∷ ys ++ c ∷ rest)) h

    head : (names : List (List ℕ)) → AreSorted (x ∷ names ++ c ∷ rest) → ((q : List ℕ) → among names q ≡ true → slice_cmp nat_cmp q c ≡ Less) → slice_cmp nat_cmp x c ≡ Less
    head [] h all = is_less (slice_cmp nat_cmp x c) (first (is_lt (slice_cmp nat_cmp x c)) (rises (slice_cmp nat_cmp) (c ∷ rest)) h)
    head (y ∷ ys) h all =
        nat_list_cmp_total.trans x y c
        (is_less (slice_cmp nat_cmp x y) (first (is_lt (slice_cmp nat_cmp x y)) (rises (slice_cmp nat_cmp) (y ∷ ys ++ c ∷ rest)) h))
        (all y (ap (λ (b : Bool). b || among ys y) (text_itself y)))

    by : (b : Bool) → bytes_eq x p ≡ b → (b || among names p) ≡ true → ((q : List ℕ) → AreSorted (names ++ c ∷ rest) → among names q ≡ true → slice_cmp nat_cmp q c ≡ Less) → slice_cmp nat_cmp p c ≡ Less
    by true is h again = ap (λ (q : List ℕ). slice_cmp nat_cmp q c) (sym ((bytes_decides x p).0 is)) ∙ head names sorted (λ q t. again q (tail names sorted) t)
    by false is h again = again p (tail names sorted) h

all_before : (names : List (List ℕ)) (c : List ℕ) (rest : List (List ℕ)) (periods : List Period) → AreSorted (names ++ c ∷ rest) → AreOf names periods → AreBefore periods c
all_before names c rest [] sorted of = tt
all_before names c rest (p ∷ ps) sorted of = (name_before names c rest p.channel sorted of.0, all_before names c rest ps sorted of.1)

-- one of names that rise is not among those before it
not_there : (names : List (List ℕ)) (c : List ℕ) (rest : List (List ℕ)) → AreSorted (names ++ c ∷ rest) → among names c ≡ false
not_there names c rest sorted = by (among names c) refl
  where
    apart : (o : Ordering) → o ≡ Less → o ≡ Equal → ⊥
    apart Less h g = less_equal g
      where
        is : Ordering → Bool
        is Less = true
        is Equal = false
        is Greater = false

        less_equal : Less ≡ Equal → ⊥
        less_equal e = true≢false (ap is e)
    apart Equal h g = equal_less h
      where
        is : Ordering → Bool
        is Less = true
        is Equal = false
        is Greater = false

        equal_less : Equal ≡ Less → ⊥
        equal_less e = false≢true (ap is e)
    apart Greater h g = greater_less h
      where
        is : Ordering → Bool
        is Less = true
        is Equal = false
        is Greater = false

        greater_less : Greater ≡ Less → ⊥
        greater_less e = false≢true (ap is e)

    by : (b : Bool) → among names c ≡ b → b ≡ false
    by false is = refl
    by true is = absurd (apart (slice_cmp nat_cmp c c) (name_before names c rest c sorted is) (itself c))

pub parted : (names : List (List ℕ)) (i : ℕ) (x : List ℕ) → i < length names → x ≡ get_or names i x → names ≡ take i names ++ x ∷ drop (i + 1) names
parted [] i x within is = absurd (omega (arith, within))
parted (y ∷ ys) zero x within is = ap (λ (z : List ℕ). z ∷ ys) (sym is)
parted (y ∷ ys) (suc i) x within is =
    let next : suc (i + 1) ≡ suc i + 1 = omega arith in
    ap (λ (l : List (List ℕ)). y ∷ l) (parted ys i x (omega (arith, within)) is)
    ∙ ap (λ (n : ℕ). y ∷ (take i ys ++ x ∷ drop n (y ∷ ys))) next

pub none_so_far : (periods : List Period) (test : List ℕ → ℕ → Bool) → periods ≡ [] → AreSoFar [] periods test
none_so_far periods test empty = subst (λ (l : List Period). AreSoFar [] l test) (sym empty) (record { says = λ c k. refl; apart = tt; have_places = tt; of = tt; in_order = refl })

pub more_so_far : (names : List (List ℕ)) (old new : List Period) (c : List ℕ) (rest : List (List ℕ)) (test : List ℕ → ℕ → Bool) → AreSoFar names old test → AreSorted (names ++ c ∷ rest) → Adds old new c (test c) → AreSoFar (names ++ c ∷ []) new test
more_so_far names old new c rest test s sorted adds = subst (λ (l : List Period). AreSoFar (names ++ c ∷ []) l test) (sym adds.added) (record {
  says = λ x k.
      have_append old (map (period_of c) adds.spells) x k
      ∙ ap (λ (b : Bool). b || periods_have (map (period_of c) adds.spells) x k) (s.says x k)
      ∙ ap (λ (b : Bool). (among names x && test x k) || b) (mapped_have c x adds.spells k)
      ∙ by x k (bytes_eq c x) refl
      ∙ ap (λ (b : Bool). b && test x k) (sym (among_append names c x));
  apart = apart_joined names old c adds.spells s.apart s.of (not_there names c rest sorted) adds.apart;
  have_places = places_joined old (map (period_of c) adds.spells) s.have_places (mapped_places c adds.spells adds.apart);
  of = of_joined (names ++ c ∷ []) old (map (period_of c) adds.spells) (of_more names c old s.of) (of_mapped names c adds.spells);
  in_order = in_order_joined old c adds.spells (all_before names c rest old sorted s.of) s.in_order (mapped_in_order c adds.spells adds.apart);
})
  where
    joined : (a t : Bool) → ((a && t) || t) ≡ ((a || true) && t)
    joined true true = refl
    joined true false = refl
    joined false t = refl

    alone : (a t : Bool) → ((a && t) || false) ≡ ((a || false) && t)
    alone true true = refl
    alone true false = refl
    alone false t = refl

    by : (x : List ℕ) (k : ℕ) → (b : Bool) → bytes_eq c x ≡ b → ((among names x && test x k) || (b && spells_have adds.spells k)) ≡ ((among names x || b) && test x k)
    by x k true same = ap (λ (b : Bool). (among names x && test x k) || b) (adds.says k ∙ ap (λ (y : List ℕ). test y k) ((bytes_decides c x).0 same)) ∙ joined (among names x) (test x k)
    by x k false same = alone (among names x) (test x k)

-- a channel that a user has at a place is one that it may ever have had
any_weaker : {X : Type 0} (p q : X → Bool) → ((x : X) → p x ≡ true → q x ≡ true) → (xs : List X) → list_any p xs ≡ true → list_any q xs ≡ true
any_weaker {X} p q f [] h = absurd (false≢true h)
any_weaker {X} p q f (x ∷ xs) h = by (p x) refl h (λ k. any_weaker p q f xs k)
  where
    right : (b : Bool) → list_any q xs ≡ true → (b || list_any q xs) ≡ true
    right true k = refl
    right false k = k

    by : (b : Bool) → p x ≡ b → (b || list_any p xs) ≡ true → (list_any p xs ≡ true → list_any q xs ≡ true) → (q x || list_any q xs) ≡ true
    by true is h rest = ap (λ (b : Bool). b || list_any q xs) (f x is)
    by false is h rest = right (q x) (rest h)

second_of : (a b : Bool) → (a && b) ≡ true → b ≡ true
second_of true b h = h
second_of false b h = absurd (false≢true h)

ever_channel : (list : List Held) (k : ℕ) (x : List ℕ) → channel_among list k x ≡ true → ever_among list x ≡ true
ever_channel list k x h = any_weaker (λ h. held_at h.track k && is_channel h.what x) (λ h. is_channel h.what x) (λ h is. second_of (held_at h.track k) (is_channel h.what x) is) list h

ever_role : (o : Option Things) (k : ℕ) (x : List ℕ) → channel_by o k x ≡ true → ever_by o x ≡ true
ever_role None k x h = h
ever_role (Some list) k x h = ever_channel list.items k x (second_of (held_in list.items what.Exists k) (channel_among list.items k x) h)

ever_given : (roles : Holders) (w : What) (k : ℕ) (x : List ℕ) → gives_channel roles w k x ≡ true → ever_gives roles w x ≡ true
ever_given roles what.Exists k x h = h
ever_given roles (what.Channel c) k x h = h
ever_given roles (what.Role r) k x h = ever_role (get_by_text roles r) k x h

ever_roles : (roles : Holders) (list : List Held) (k : ℕ) (x : List ℕ) → by_roles roles list k x ≡ true → ever_by_roles roles list x ≡ true
ever_roles roles list k x h = any_weaker (λ h. held_at h.track k && gives_channel roles h.what k x) (λ h. ever_gives roles h.what x) (λ h is. ever_given roles h.what k x (second_of (held_at h.track k) (gives_channel roles h.what k x) is)) list h

or_weaker : (a b c d : Bool) → (a ≡ true → c ≡ true) → (b ≡ true → d ≡ true) → (a || b) ≡ true → (c || d) ≡ true
or_weaker true b c d f g h = ap (λ (x : Bool). x || d) (f refl)
or_weaker false b c d f g h = right c (g h)
  where
    right : (x : Bool) → d ≡ true → (x || d) ≡ true
    right true k = refl
    right false k = k

had : (roles : Holders) (all : List Held) (k : ℕ) (x : List ℕ) → list_channel roles all k x ≡ true → may_have roles all x ≡ true
had roles all k x h =
    or_weaker (by_roles roles all k x) (channel_among all k x || (bytes_eq everyone x || false)) (ever_by_roles roles all x) (ever_among all x || (bytes_eq everyone x || false))
    (ever_roles roles all k x)
    (or_weaker (channel_among all k x) (bytes_eq everyone x || false) (ever_among all x) (bytes_eq everyone x || false) (ever_channel all k x) (λ is. is))
    (second_of (held_in all what.Exists k) (by_roles roles all k x || (channel_among all k x || (bytes_eq everyone x || false))) h)

pub all_so_far : (names : List (List ℕ)) (periods : List Period) (roles : Holders) (all : List Held) (test : List ℕ → ℕ → Bool) → AreSoFar names periods test → ((x : List ℕ) → among names x ≡ may_have roles all x) → ((x : List ℕ) (k : ℕ) → test x k ≡ list_channel roles all k x)
    → AreAllPeriods periods (λ c k. list_channel roles all k c)
all_so_far names periods roles all test s are same = record {
  says = λ c k. s.says c k ∙ ap (λ (b : Bool). among names c && b) (same c k) ∙ by c k (list_channel roles all k c) refl;
  apart = s.apart;
  have_places = s.have_places;
  in_order = s.in_order;
}
  where
    none : (a : Bool) → (a && false) ≡ false
    none true = refl
    none false = refl

    by : (c : List ℕ) (k : ℕ) (b : Bool) → list_channel roles all k c ≡ b → (among names c && list_channel roles all k c) ≡ list_channel roles all k c
    by c k true is = ap (λ (b : Bool). b && list_channel roles all k c) (are c ∙ had roles all k c is)
    by c k false is = ap (λ (b : Bool). among names c && b) is ∙ none (among names c) ∙ sym is

pub no_periods : (periods : List Period) (test : List ℕ → ℕ → Bool) → periods ≡ [] → ((c : List ℕ) (k : ℕ) → test c k ≡ false) → AreAllPeriods periods test
no_periods periods test empty never = subst (λ (l : List Period). AreAllPeriods l test) (sym empty) (record { says = λ c k. sym (never c k); apart = tt; have_places = tt; in_order = refl })
