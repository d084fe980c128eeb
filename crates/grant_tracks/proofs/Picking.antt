-- lists of what may be held, which miss nothing
use Rattle.std.proofs.Common.{◌≡◌, ◌⊎◌, inl, inr, ◌<◌, ◌≤◌, ℕ, zero, suc, refl, sym, ◌∙◌, ap, arith, Bool, true, false, ◌&&◌, ◌||◌, nat_lt, nat_le, List, [], ◌∷◌, ◌++◌, length, Option, Some, None}
use Rattle.std.specs.Prelude.{nat_eq, slice_get, slice_set}
use Rattle.std.specs.Borrow.{Bor}
use Rattle.std.specs.List.{list_any}
use Rattle.std.specs.Option.{option_copied}
use Rattle.std.specs.Slice.{IsItemAt}
use Rattle.std.proofs.lemmas.Bool.{false≢true, cases_lt, le-leb}
use Rattle.std.proofs.lemmas.Option.{none-some, same_Some, slice_get-get_or, slice_get_past}
use Rattle.grant_tracks.proofs.Same.{both_ways}
use Rattle.grant_tracks.specs.declared.held.Held.{Held}
use Rattle.grant_tracks.specs.declared.track.Track.{Track}
use Rattle.grant_tracks.specs.declared.blocks.Blocks.{Blocks}
use Rattle.grant_tracks.specs.Tracks.{IsTrack, Moves, BeginsAt, was_held, held_at, held_last}
use Rattle.grant_tracks.specs.HeldLists.{AreUpTo}
use Rattle.grant_tracks.specs.Listed.{is_in}
use Rattle.grant_tracks.specs.Blocks.{near}
use Rattle.grant_tracks.specs.Near.{MissNothing}
use Rattle.grant_tracks.specs.inner.Passing.{passes, passes_at, is_given, is_given_at, given_in}
use Rattle.grant_tracks.proofs.Ordered.{none_left}
use Rattle.grant_tracks.proofs.Tracked.{track_up_to, fresh_held}

or_left : (a b : Bool) → a ≡ true → (a || b) ≡ true
or_left true b h = refl
or_left false b h = absurd (false≢true h)

or_right : (a b : Bool) → b ≡ true → (a || b) ≡ true
or_right true b h = refl
or_right false b h = h

and_first : (a b : Bool) → (a && b) ≡ true → a ≡ true
and_first true b h = refl
and_first false b h = absurd (false≢true h)

-- one that passes
got_any : (q : Held → Bool) (xs : List Held) (i : ℕ) (x : Held) → slice_get xs i ≡ Some x → q x ≡ true → list_any q xs ≡ true
got_any q [] i x got h = absurd (none-some x got)
got_any q (y ∷ ys) zero x got h = or_left (q y) (list_any q ys) (ap q (same_Some y x got) ∙ h)
got_any q (y ∷ ys) (suc i) x got h = or_right (q y) (list_any q ys) (got_any q ys i x got h)

record Found (q : Held → Bool) (xs : List Held) : Type 0 where
  pub at : ℕ
  pub one : Held
  pub got : slice_get xs at ≡ Some one
  pub does : q one ≡ true

found : (q : Held → Bool) (xs : List Held) → list_any q xs ≡ true → Found q xs
found q [] h = absurd (false≢true h)
found q (x ∷ xs) h = by (q x) refl h (found q xs)
  where
    by : (b : Bool) → q x ≡ b → (b || list_any q xs) ≡ true → (list_any q xs ≡ true → Found q xs) → Found q (x ∷ xs)
    by true is h rest = record { at = 0; one = x; got = refl; does = is }
    by false is h rest = let f = rest h in record { at = suc f.at; one = f.one; got = f.got; does = f.does }

in_any : (f : ℕ → Bool) (xs : List ℕ) (i : ℕ) → is_in xs i ≡ true → f i ≡ true → list_any f xs ≡ true
in_any f [] i h does = absurd (false≢true h)
in_any f (x ∷ xs) i h does = by (nat_eq i x) refl h (λ k. in_any f xs i k does)
  where
    same : (b : Bool) → nat_eq i x ≡ b → b ≡ true → i ≡ x
    same b is h = let both : nat_eq i x ≡ true = is ∙ h in grind (arith, both)

    by : (b : Bool) → nat_eq i x ≡ b → (b || is_in xs i) ≡ true → (is_in xs i ≡ true → list_any f xs ≡ true) → (f x || list_any f xs) ≡ true
    by true is h rest = or_left (f x) (list_any f xs) (ap f (sym (same true is refl)) ∙ does)
    by false is h rest = or_right (f x) (list_any f xs) (rest h)

picked : (all : List Held) (k : ℕ) (test : Held → Bool) (list : List ℕ) → list_any (passes_at all k test) list ≡ true → list_any (λ h. held_at h.track k && test h) all ≡ true
picked all k test [] h = absurd (false≢true h)
picked all k test (i ∷ is) h = by (slice_get all i) refl h (picked all k test is)
  where
    some : (x : Held) (b : Bool) → (held_at x.track k && test x) ≡ b → slice_get all i ≡ Some x → (b || list_any (passes_at all k test) is) ≡ true → (list_any (passes_at all k test) is ≡ true → list_any (λ h. held_at h.track k && test h) all ≡ true) → list_any (λ h. held_at h.track k && test h) all ≡ true
    some x true is got h rest = got_any (λ h. held_at h.track k && test h) all i x got is
    some x false is got h rest = rest h

    by : (o : Option Held) → slice_get all i ≡ o → (passes k test o || list_any (passes_at all k test) is) ≡ true → (list_any (passes_at all k test) is ≡ true → list_any (λ h. held_at h.track k && test h) all ≡ true) → list_any (λ h. held_at h.track k && test h) all ≡ true
    by None got h rest = rest h
    by (Some x) got h rest = some x (held_at x.track k && test x) refl got h rest

-- what is held at a place and passes a test is in the list of what may be held there
pub picks : (all : List Held) (blocks : Blocks) (k : ℕ) (test : Held → Bool) → MissNothing all blocks → list_any (passes_at all k test) (near blocks k) ≡ list_any (λ h. held_at h.track k && test h) all
picks all blocks k test misses = both_ways (list_any (passes_at all k test) (near blocks k)) (list_any (λ h. held_at h.track k && test h) all) (picked all k test (near blocks k)) (λ h.
    let f = found (λ h. held_at h.track k && test h) all h in
    in_any (passes_at all k test) (near blocks k) f.at
    (misses f.at k f.one f.got (and_first (held_at f.one.track k) (test f.one) f.does))
    (ap (passes k test) f.got ∙ f.does))

-- lists that have all that others had
pub grown : (all : List Held) (old new : Blocks) → ((k x : ℕ) → is_in (near old k) x ≡ true → is_in (near new k) x ≡ true) → MissNothing all old → MissNothing all new
grown all old new kept misses i k h got held = kept k i (misses i k h got held)

-- what is held from a place on is given by a source
pub given_on : (t : Track) (n k : ℕ) → IsTrack t n → n ≤ k → held_at t k ≡ true → 0 < t.count
given_on t n k is le held =
    let none = none_left t.closed.items k (λ i d w. omega (arith, le, is.ended i d w)) in
    let last : held_last t k ≡ true = ap (λ (b : Bool). b || held_last t k) (sym none) ∙ held in
    elim (cases_lt 0 t.count) [
      | inl pos ↦ pos
      | inr none ↦
          let ended : t.until ≤ k = omega (arith, is.until (omega (arith, none)), le) in
          absurd (false≢true (sym (over t.opened t.count t.until none ended) ∙ last))
    ]
  where
    over : (opened count until : ℕ) → count ≤ 0 → until ≤ k → (nat_le opened k && (nat_lt 0 count || nat_lt k until)) ≡ false
    over opened count until none ended = grind (arith, none, ended)

-- a block more, which has what a source gives
pub begun_miss : (all : List Held) (old new : Blocks) (at : ℕ) (last given : List ℕ) → AreUpTo all at → old.from ≤ at → MissNothing all old
    → ((k : ℕ) → old.from ≤ k → last ≡ near old k) → ((x : ℕ) → is_in given x ≡ given_in all last x)
    → ((k x : ℕ) → is_in (near old k) x ≡ true → (at ≤ k → is_in given x ≡ true) → is_in (near new k) x ≡ true) → MissNothing all new
begun_miss all old new at last given up low misses lists has kept i k h got held = kept k i (misses i k h got held) (λ le.
    let pos = given_on h.track at k (track_up_to all i at h got up) le held in
    has i ∙ in_any (λ j. nat_eq i j && is_given_at all j) last i
    (ap (λ (l : List ℕ). is_in l i) (lists k (omega (arith, low, le))) ∙ misses i k h got held)
    (ap (λ (b : Bool). b && is_given_at all i) (itself i) ∙ ap is_given got ∙ le-leb 1 h.track.count pos))
  where
    itself : (m : ℕ) → nat_eq m m ≡ true
    itself m = grind arith

got_added : (all : List Held) (x h : Held) (i : ℕ) → slice_get (all ++ x ∷ []) i ≡ Some h → (slice_get all i ≡ Some h) ⊎ ((i ≡ length all) × (x ≡ h))
got_added [] x h zero got = inr (refl, same_Some x h got)
got_added [] x h (suc i) got = absurd (none-some h got)
got_added (y ∷ ys) x h zero got = inl got
got_added (y ∷ ys) x h (suc i) got = elim (got_added ys x h i got) [
  | inl there ↦ inl there
  | inr end ↦ inr (omega (arith, end.0), end.1)
]

-- one thing more, which begins to be held
pub added_miss : (all : List Held) (old new : Blocks) (x : Held) (at : ℕ) → MissNothing all old → ((k y : ℕ) → is_in (near old k) y ≡ true → is_in (near new k) y ≡ true)
    → ((k : ℕ) → at ≤ k → is_in (near new k) (length all) ≡ true) → BeginsAt x.track at → MissNothing (all ++ x ∷ []) new
added_miss all old new x at misses kept has begins i k h got held = elim (got_added all x h i got) [
  | inl there ↦ kept k i (misses i k h there held)
  | inr end ↦ ap (λ (m : ℕ). is_in (near new k) m) end.0 ∙ elim (cases_lt k at) [
    | inl below ↦ absurd (false≢true (sym (begins.moves.before k below ∙ fresh_held begins.fresh k begins.is_fresh) ∙ ap (λ (y : Held). held_at y.track k) end.1 ∙ held))
    | inr above ↦ has k above
  ]
]

got_set : (all : List Held) (i j : ℕ) (x h : Held) → slice_get (slice_set all i x) j ≡ Some h → (slice_get all j ≡ Some h) ⊎ ((j ≡ i) × (x ≡ h))
got_set [] i j x h got = inl got
got_set (y ∷ ys) zero zero x h got = inr (refl, same_Some x h got)
got_set (y ∷ ys) zero (suc j) x h got = inl got
got_set (y ∷ ys) (suc i) zero x h got = inl got
got_set (y ∷ ys) (suc i) (suc j) x h got = elim (got_set ys i j x h got) [
  | inl there ↦ inl there
  | inr here ↦ inr (omega (arith, here.0), here.1)
]

-- one track moved
pub set_miss : (all : List Held) (old new : Blocks) (i : ℕ) (x : Held) → MissNothing all old → ((k y : ℕ) → is_in (near old k) y ≡ true → is_in (near new k) y ≡ true)
    → ((k : ℕ) → held_at x.track k ≡ true → is_in (near new k) i ≡ true) → MissNothing (slice_set all i x) new
set_miss all old new i x misses kept has j k h got held = elim (got_set all i j x h got) [
  | inl there ↦ kept k j (misses j k h there held)
  | inr here ↦ ap (λ (m : ℕ). is_in (near new k) m) here.0 ∙ has k (ap (λ (y : Held). held_at y.track k) here.1 ∙ held)
]

-- what has a source is held from where it began
given_held : (t : Track) (n k : ℕ) → IsTrack t n → n ≤ k → 0 < t.count → held_at t k ≡ true
given_held t n k is le pos =
    let low : t.opened ≤ k = omega (arith, is.opened, le) in
    or_right (was_held t k) (held_last t k)
    (ap (λ (b : Bool). b && (nat_lt 0 t.count || nat_lt k t.until)) (le-leb t.opened k low) ∙ ap (λ (b : Bool). b || nat_lt k t.until) (le-leb 1 t.count pos))

module _ (all : List Held) (old new : Blocks) (i at sources : ℕ) (h : Held) (t : Track) (got : slice_get all i ≡ Some h) (up : AreUpTo all at) (misses : MissNothing all old)
    (kept : (k y : ℕ) → is_in (near old k) y ≡ true → is_in (near new k) y ≡ true) (moves : Moves h.track t at sources) where
  abbrev moved : Held
  moved = record { what = h.what; track = t }

  -- one that a source gave
  pub moved_given : 0 < h.track.count → MissNothing (slice_set all i moved) new
  moved_given pos = set_miss all old new i moved misses kept (λ k held. elim (cases_lt k at) [
    | inl below ↦ kept k i (misses i k h got (sym (moves.before k below) ∙ held))
    | inr above ↦ kept k i (misses i k h got (given_held h.track at k (track_up_to all i at h got up) above pos))
  ])

  -- one that is among what may be held from there on
  pub moved_begun : ((k : ℕ) → at ≤ k → is_in (near new k) i ≡ true) → MissNothing (slice_set all i moved) new
  moved_begun has = set_miss all old new i moved misses kept (λ k held. elim (cases_lt k at) [
    | inl below ↦ kept k i (misses i k h got (sym (moves.before k below) ∙ held))
    | inr above ↦ has k above
  ])

-- what is read at a place of a list
pub got : (all : List Held) (i : ℕ) (r : Option (Bor Held)) → IsItemAt all i r → option_copied r ≡ slice_get all i
got all i None is = sym (slice_get_past all i is.3)
got all i (Some x) is = sym (slice_get-get_or all i x.now is.3.0 ∙ ap (λ (h : Held). Some h) (sym is.1))
