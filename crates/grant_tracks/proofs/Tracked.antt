-- a list of what is held, of which one changed or to which one was added
use Rattle.std.proofs.Common.{◌≡◌, ◌<◌, ◌≤◌, ◌+◌, ◌-◌, ℕ, zero, suc, refl, sym, ◌∙◌, ap, subst, arith, Bool, true, false, if◌then◌else◌, List, [], ◌∷◌, ◌++◌, length, get_or, Option, Some, None, Result, Ok, Err, nat_le, nat_lt, ◌&&◌, ◌||◌}
use Rattle.std.specs.List.{list_any}
use Rattle.std.specs.Prelude.{option_map, slice_get, slice_set, OnOk, OnErr}
use Rattle.std.proofs.lemmas.Bool.{false≢true}
use Rattle.std.proofs.lemmas.Option.{none-some, same_Some, get_or_from_slice_get}
use Rattle.grant_tracks.specs.declared.things.What.{What}
use Rattle.grant_tracks.specs.declared.held.Held.{Held}
use Rattle.grant_tracks.specs.declared.track.Track.{Track}
use Rattle.grant_tracks.specs.Dated.{Dated}
use Rattle.grant_tracks.specs.declared.track.Span.{Span}
use Rattle.grant_tracks.specs.Tracks.{IsTrack, IsFresh, Moves, BeginsAt, closed_with, has_place, was_held, held_at}
use Rattle.grant_tracks.proofs.Ordered.{HaveEnded, closed_any, closed_ended}
use Rattle.grant_tracks.specs.What.{same_what}
use Rattle.grant_tracks.specs.Holdings.{place_of, count_in, held_in, AreUpTo, one_more, one_less}
use Rattle.grant_tracks.proofs.Same.{whats, what_itself, both_ways}

pub whats_swap : (a b : What) → same_what a b ≡ same_what b a
whats_swap a b = both_ways (same_what a b) (same_what b a)
    (λ h. subst (λ (x : What). same_what x a ≡ true) (whats a b h) (what_itself a))
    (λ h. subst (λ (x : What). same_what x b ≡ true) (whats b a h) (what_itself b))

pub later_track : (t : Track) (n m : ℕ) → n ≤ m → IsTrack t n → IsTrack t m
later_track t n m h is = record {
  ended = λ i d w. omega (arith, h, is.ended i d w);
  opened = omega (arith, h, is.opened);
  until = λ none. omega (arith, h, is.until none);
}

-- the place of the first that passes is one more where the first does not
place_zero : (o : Option ℕ) → option_map (λ (n : ℕ). n + 1) o ≡ Some 0 → ⊥
place_zero None h = none-some _ h
place_zero (Some n) h = absurd (omega (arith, same_Some (n + 1) 0 h))

place_next : (o : Option ℕ) (i : ℕ) → option_map (λ (n : ℕ). n + 1) o ≡ Some (suc i) → o ≡ Some i
place_next None i h = absurd (none-some _ h)
place_next (Some n) i h = ap (λ (m : ℕ). Some m) (omega (arith, same_Some (n + 1) (suc i) h))

place_none : (o : Option ℕ) → option_map (λ (n : ℕ). n + 1) o ≡ None → o ≡ None
place_none None h = refl
place_none (Some n) h = absurd (none-some (n + 1) (sym h))

-- where something stands, there is a track of it
pub record PrincipalState (list : List Held) (w : What) (i : ℕ) : Type 0 where
  pub held : Held
  pub within : i < length list
  pub got : slice_get list i ≡ Some held
  pub what_is : held.what ≡ w
  pub count : count_in list w ≡ held.track.count
  pub holds : (k : ℕ) → held_in list w k ≡ held_at held.track k

pub state : (list : List Held) (w : What) (i : ℕ) → place_of list w ≡ Some i → PrincipalState list w i
state [] w i h = absurd (none-some i h)
state (x ∷ xs) w i h = by (same_what x.what w) refl i h (λ j k. state xs w j k)
  where
    by : (b : Bool) → same_what x.what w ≡ b → (i : ℕ) → (if b then Some 0 else option_map (λ (n : ℕ). n + 1) (place_of xs w)) ≡ Some i → ((j : ℕ) → place_of xs w ≡ Some j → PrincipalState xs w j) → PrincipalState (x ∷ xs) w i
    by true same zero h rest = record {
      held = x;
      within = omega arith;
      got = refl;
      what_is = whats x.what w same;
      count = ap (λ (b : Bool). if b then x.track.count else count_in xs w) same;
      holds = λ k. ap (λ (b : Bool). if b then held_at x.track k else held_in xs w k) same;
    }
    by true same (suc i) h rest = absurd (omega (arith, same_Some 0 (suc i) h))
    by false same zero h rest = absurd (place_zero (place_of xs w) h)
    by false same (suc i) h rest =
        let one = rest i (place_next (place_of xs w) i h) in
        record {
          held = one.held;
          within = omega (arith, one.within);
          got = one.got;
          what_is = one.what_is;
          count = ap (λ (b : Bool). if b then x.track.count else count_in xs w) same ∙ one.count;
          holds = λ k. ap (λ (b : Bool). if b then held_at x.track k else held_in xs w k) same ∙ one.holds k;
        }

pub nowhere_count : (list : List Held) (w : What) → place_of list w ≡ None → count_in list w ≡ 0
nowhere_count [] w h = refl
nowhere_count (x ∷ xs) w h = by (same_what x.what w) refl h (λ k. nowhere_count xs w k)
  where
    by : (b : Bool) → same_what x.what w ≡ b → (if b then Some 0 else option_map (λ (n : ℕ). n + 1) (place_of xs w)) ≡ None → (place_of xs w ≡ None → count_in xs w ≡ 0) → (if same_what x.what w then x.track.count else count_in xs w) ≡ 0
    by true same h rest = absurd (none-some 0 (sym h))
    by false same h rest = ap (λ (b : Bool). if b then x.track.count else count_in xs w) same ∙ rest (place_none (place_of xs w) h)

pub nowhere_held : (list : List Held) (w : What) → place_of list w ≡ None → (k : ℕ) → held_in list w k ≡ false
nowhere_held [] w h k = refl
nowhere_held (x ∷ xs) w h k = by (same_what x.what w) refl h (λ j. nowhere_held xs w j k)
  where
    by : (b : Bool) → same_what x.what w ≡ b → (if b then Some 0 else option_map (λ (n : ℕ). n + 1) (place_of xs w)) ≡ None → (place_of xs w ≡ None → held_in xs w k ≡ false) → (if same_what x.what w then held_at x.track k else held_in xs w k) ≡ false
    by true same h rest = absurd (none-some 0 (sym h))
    by false same h rest = ap (λ (b : Bool). if b then held_at x.track k else held_in xs w k) same ∙ rest (place_none (place_of xs w) h)

-- the list with this one in the place of another of the same
module _ (w : What) (new : Held) (is : new.what ≡ w) where
  pub set_place : (list : List Held) (i : ℕ) → place_of list w ≡ Some i → (x : What) → place_of (slice_set list i new) x ≡ place_of list x
  set_place [] i h x = absurd (none-some i h)
  set_place (y ∷ ys) i h x = by (same_what y.what w) refl i h (λ j k. set_place ys j k x)
    where
      by : (b : Bool) → same_what y.what w ≡ b → (i : ℕ) → (if b then Some 0 else option_map (λ (n : ℕ). n + 1) (place_of ys w)) ≡ Some i → ((j : ℕ) → place_of ys w ≡ Some j → place_of (slice_set ys j new) x ≡ place_of ys x) → place_of (slice_set (y ∷ ys) i new) x ≡ place_of (y ∷ ys) x
      by true same zero h rest = ap (λ (v : What). if same_what v x then Some 0 else option_map (λ (n : ℕ). n + 1) (place_of ys x)) (is ∙ sym (whats y.what w same))
      by true same (suc i) h rest = absurd (omega (arith, same_Some 0 (suc i) h))
      by false same zero h rest = absurd (place_zero (place_of ys w) h)
      by false same (suc i) h rest = ap (λ (o : Option ℕ). if same_what y.what x then Some 0 else option_map (λ (n : ℕ). n + 1) o) (rest i (place_next (place_of ys w) i h))

  pub set_count : (list : List Held) (i : ℕ) → place_of list w ≡ Some i → (x : What) → count_in (slice_set list i new) x ≡ (if same_what w x then new.track.count else count_in list x)
  set_count [] i h x = absurd (none-some i h)
  set_count (y ∷ ys) i h x = by (same_what y.what w) refl i h (λ j k. set_count ys j k x)
    where
      here : (c : Bool) → (if c then new.track.count else count_in ys x) ≡ (if c then new.track.count else (if c then y.track.count else count_in ys x))
      here true = refl
      here false = refl

      there : (c d : Bool) → same_what y.what x ≡ c → same_what w x ≡ d → same_what y.what w ≡ false → (if c then y.track.count else (if d then new.track.count else count_in ys x)) ≡ (if d then new.track.count else (if c then y.track.count else count_in ys x))
      there true true p q apart = absurd (false≢true (sym apart ∙ subst (λ (v : What). same_what y.what v ≡ true) (whats y.what x p ∙ sym (whats w x q) ∙ refl) (what_itself y.what)))
      there true false p q apart = refl
      there false true p q apart = refl
      there false false p q apart = refl

      by : (b : Bool) → same_what y.what w ≡ b → (i : ℕ) → (if b then Some 0 else option_map (λ (n : ℕ). n + 1) (place_of ys w)) ≡ Some i → ((j : ℕ) → place_of ys w ≡ Some j → count_in (slice_set ys j new) x ≡ (if same_what w x then new.track.count else count_in ys x)) → count_in (slice_set (y ∷ ys) i new) x ≡ (if same_what w x then new.track.count else count_in (y ∷ ys) x)
      by true same zero h rest =
          ap (λ (v : What). if same_what v x then new.track.count else count_in ys x) is
          ∙ here (same_what w x)
          ∙ ap (λ (v : What). if same_what w x then new.track.count else (if same_what v x then y.track.count else count_in ys x)) (sym (whats y.what w same))
      by true same (suc i) h rest = absurd (omega (arith, same_Some 0 (suc i) h))
      by false same zero h rest = absurd (place_zero (place_of ys w) h)
      by false same (suc i) h rest =
          ap (λ (n : ℕ). if same_what y.what x then y.track.count else n) (rest i (place_next (place_of ys w) i h))
          ∙ there (same_what y.what x) (same_what w x) refl refl same

  pub set_held : (list : List Held) (i : ℕ) → place_of list w ≡ Some i → (x : What) (k : ℕ) → held_at new.track k ≡ held_in list w k → held_in (slice_set list i new) x k ≡ held_in list x k
  set_held [] i h x k same_held = absurd (none-some i h)
  set_held (y ∷ ys) i h x k same_held = by (same_what y.what w) refl i h same_held (λ j p q. set_held ys j p x k q)
    where
      by : (b : Bool) → same_what y.what w ≡ b → (i : ℕ) → (if b then Some 0 else option_map (λ (n : ℕ). n + 1) (place_of ys w)) ≡ Some i → held_at new.track k ≡ (if same_what y.what w then held_at y.track k else held_in ys w k)
          → ((j : ℕ) → place_of ys w ≡ Some j → held_at new.track k ≡ held_in ys w k → held_in (slice_set ys j new) x k ≡ held_in ys x k) → held_in (slice_set (y ∷ ys) i new) x k ≡ held_in (y ∷ ys) x k
      by true same zero h now rest =
          ap (λ (v : What). if same_what v x then held_at new.track k else held_in ys x k) (is ∙ sym (whats y.what w same))
          ∙ ap (λ (v : Bool). if same_what y.what x then v else held_in ys x k) (now ∙ ap (λ (b : Bool). if b then held_at y.track k else held_in ys w k) same)
      by true same (suc i) h now rest = absurd (omega (arith, same_Some 0 (suc i) h))
      by false same zero h now rest = absurd (place_zero (place_of ys w) h)
      by false same (suc i) h now rest =
          ap (λ (v : Bool). if same_what y.what x then held_at y.track k else v) (rest i (place_next (place_of ys w) i h) (now ∙ ap (λ (b : Bool). if b then held_at y.track k else held_in ys w k) same))

  pub set_up_to : (list : List Held) (i n at : ℕ) → place_of list w ≡ Some i → n ≤ at → AreUpTo list n → ((old : Held) → slice_get list i ≡ Some old → IsTrack old.track n → IsTrack new.track at) → AreUpTo (slice_set list i new) at
  set_up_to [] i n at h le up turns = absurd (none-some i h)
  set_up_to (y ∷ ys) i n at h le up turns = by (same_what y.what w) refl i h turns (λ j p t. set_up_to ys j n at p le up.2 t)
    where
      rest_later : (l : List Held) → AreUpTo l n → AreUpTo l at
      rest_later [] u = tt
      rest_later (z ∷ zs) u = (later_track z.track n at le u.0, u.1, rest_later zs u.2)

      by : (b : Bool) → same_what y.what w ≡ b → (i : ℕ) → (if b then Some 0 else option_map (λ (m : ℕ). m + 1) (place_of ys w)) ≡ Some i → ((old : Held) → slice_get (y ∷ ys) i ≡ Some old → IsTrack old.track n → IsTrack new.track at)
          → ((j : ℕ) → place_of ys w ≡ Some j → ((old : Held) → slice_get ys j ≡ Some old → IsTrack old.track n → IsTrack new.track at) → AreUpTo (slice_set ys j new) at) → AreUpTo (slice_set (y ∷ ys) i new) at
      by true same zero h turns rest = (turns y refl up.0, ap (λ (v : What). place_of ys v) (is ∙ sym (whats y.what w same)) ∙ up.1, rest_later ys up.2)
      by true same (suc i) h turns rest = absurd (omega (arith, same_Some 0 (suc i) h))
      by false same zero h turns rest = absurd (place_zero (place_of ys w) h)
      by false same (suc i) h turns rest =
          let next = place_next (place_of ys w) i h in
          (later_track y.track n at le up.0, set_place ys i next y.what ∙ up.1, rest i next turns)

-- one track moved
pub set_dated : (list : List Held) (w : What) (i at sources : ℕ) (old new : Held) → place_of list w ≡ Some i → slice_get list i ≡ Some old → new.what ≡ old.what → Moves old.track new.track at sources
    → Dated count_in held_in AreUpTo list (slice_set list i new) at (λ x. if same_what w x then sources else count_in list x)
set_dated list w i at sources old new place got kept moves =
    let stands = state list w i place in
    let one : stands.held ≡ old = same_Some stands.held old (sym stands.got ∙ got) in
    let is : new.what ≡ w = kept ∙ ap (λ (h : Held). h.what) (sym one) ∙ stands.what_is in
    record {
      counts = λ x. set_count w new is list i place x ∙ ap (λ (n : ℕ). if same_what w x then n else count_in list x) moves.count;
      before = λ x k below. set_held w new is list i place x k (moves.before k below ∙ ap (λ (h : Held). held_at h.track k) (sym one) ∙ sym (stands.holds k));
      up_to = λ n le up. set_up_to w new is list i n at place le up (λ other at_place right. moves.up_to n le (subst (λ (h : Held). IsTrack h.track n) (same_Some other old (sym at_place ∙ got)) right));
    }

-- the counts of a list where the one thing's is the same as before are its own
pub same_counts : (list : List Held) (w x : What) (sources : ℕ) → sources ≡ count_in list w → (if same_what w x then sources else count_in list x) ≡ count_in list x
same_counts list w x sources is = by (same_what w x) refl
  where
    by : (b : Bool) → same_what w x ≡ b → (if b then sources else count_in list x) ≡ count_in list x
    by true same = is ∙ ap (count_in list) (whats w x same)
    by false same = refl

pub more_counts : (list : List Held) (w x : What) (sources : ℕ) → sources ≡ count_in list w + 1 → (if same_what w x then sources else count_in list x) ≡ one_more (count_in list) w x
more_counts list w x sources is = by (same_what w x) refl
  where
    by : (b : Bool) → same_what w x ≡ b → (if b then sources else count_in list x) ≡ (if b then count_in list x + 1 else count_in list x)
    by true same = is ∙ ap (λ (v : What). count_in list v + 1) (whats w x same)
    by false same = refl

pub less_counts : (list : List Held) (w x : What) (sources : ℕ) → sources ≡ count_in list w - 1 → (if same_what w x then sources else count_in list x) ≡ one_less (count_in list) w x
less_counts list w x sources is = by (same_what w x) refl
  where
    by : (b : Bool) → same_what w x ≡ b → (if b then sources else count_in list x) ≡ (if b then count_in list x - 1 else count_in list x)
    by true same = is ∙ ap (λ (v : What). count_in list v - 1) (whats w x same)
    by false same = refl

pub recounted : (list new : List Held) (at : ℕ) (one other : What → ℕ) → Dated count_in held_in AreUpTo list new at one → ((x : What) → one x ≡ other x) → Dated count_in held_in AreUpTo list new at other
recounted list new at one other d same = record { counts = λ x. d.counts x ∙ same x; before = d.before; up_to = d.up_to }

-- one more at the end
pub apart_from : (y : Held) (ys : List Held) (w : What) → place_of (y ∷ ys) w ≡ None → (same_what y.what w ≡ false) × (place_of ys w ≡ None)
apart_from y ys w h = by (same_what y.what w) refl h
  where
    by : (b : Bool) → same_what y.what w ≡ b → (if b then Some 0 else option_map (λ (m : ℕ). m + 1) (place_of ys w)) ≡ None → (same_what y.what w ≡ false) × (place_of ys w ≡ None)
    by true same h = absurd (none-some 0 (sym h))
    by false same h = (same, place_none (place_of ys w) h)

pub place_append : (list : List Held) (x : Held) (v : What) → place_of list v ≡ None → same_what x.what v ≡ false → place_of (list ++ x ∷ []) v ≡ None
place_append [] x v h apart = ap (λ (b : Bool). if b then Some 0 else None) apart
place_append (y ∷ ys) x v h apart =
    let parts = apart_from y ys v h in
    ap (λ (b : Bool). if b then Some 0 else option_map (λ (m : ℕ). m + 1) (place_of (ys ++ x ∷ []) v)) parts.0
    ∙ ap (λ (o : Option ℕ). option_map (λ (m : ℕ). m + 1) o) (place_append ys x v parts.1 apart)

pub fresh_held : (t : Track) (k : ℕ) → IsFresh t → held_at t k ≡ false
fresh_held t k is = by t.count t.opened t.until t.closed.items is.none is.opened is.until is.empty
  where
    by : (count opened until : ℕ) (spans : List Span) → count ≡ 0 → opened ≡ 0 → until ≡ 0 → spans ≡ []
        → (list_any (has_place k) spans || (nat_le opened k && (nat_lt 0 count || nat_lt k until))) ≡ false
    by count opened until spans none first last empty = grind (arith, none, first, last, empty)

pub fresh_up_to : (t : Track) (n : ℕ) → IsFresh t → IsTrack t n
fresh_up_to t n is = record {
  ended = λ i d w. absurd (omega (arith, w, ap length is.empty));
  opened = omega (arith, is.opened);
  until = λ none. omega (arith, is.until);
}

module _ (w : What) (x : Held) (fresh : Track) (at : ℕ) (is : x.what ≡ w) (is_fresh : IsFresh fresh) (moves : Moves fresh x.track at (fresh.count + 1)) where
  one : x.track.count ≡ 1
  one = moves.count ∙ ap (λ (n : ℕ). n + 1) is_fresh.none

  added_count : (list : List Held) → place_of list w ≡ None → (v : What) → count_in (list ++ x ∷ []) v ≡ one_more (count_in list) w v
  added_count [] h v = ap (λ (u : What). if same_what u v then x.track.count else 0) is ∙ ap (λ (n : ℕ). if same_what w v then n else 0) one
  added_count (y ∷ ys) h v =
      let parts = apart_from y ys w h in
      ap (λ (n : ℕ). if same_what y.what v then y.track.count else n) (added_count ys parts.1 v) ∙ by (same_what y.what v) (same_what w v) refl refl parts.0
    where
      by : (b c : Bool) → same_what y.what v ≡ b → same_what w v ≡ c → same_what y.what w ≡ false → (if b then y.track.count else (if c then count_in ys v + 1 else count_in ys v)) ≡ (if c then (if b then y.track.count else count_in ys v) + 1 else (if b then y.track.count else count_in ys v))
      by true true p q apart = absurd (false≢true (sym apart ∙ subst (λ (u : What). same_what y.what u ≡ true) (whats y.what v p ∙ sym (whats w v q)) (what_itself y.what)))
      by true false p q apart = refl
      by false true p q apart = refl
      by false false p q apart = refl

  added_held : (list : List Held) (v : What) (k : ℕ) → k < at → held_in (list ++ x ∷ []) v k ≡ held_in list v k
  added_held [] v k below = by (same_what x.what v)
    where
      by : (b : Bool) → (if b then held_at x.track k else false) ≡ false
      by true = moves.before k below ∙ fresh_held fresh k is_fresh
      by false = refl
  added_held (y ∷ ys) v k below = ap (λ (b : Bool). if same_what y.what v then held_at y.track k else b) (added_held ys v k below)

  added_up_to : (list : List Held) (n : ℕ) → place_of list w ≡ None → n ≤ at → AreUpTo list n → AreUpTo (list ++ x ∷ []) at
  added_up_to [] n h le up = (moves.up_to at (omega arith) (fresh_up_to fresh at is_fresh), refl, tt)
  added_up_to (y ∷ ys) n h le up =
      let parts = apart_from y ys w h in (
        later_track y.track n at le up.0,
        place_append ys x y.what up.1 (ap (λ (u : What). same_what u y.what) is ∙ whats_swap w y.what ∙ parts.0),
        added_up_to ys n parts.1 le up.2,
      )

  pub added : (list : List Held) → place_of list w ≡ None → Dated count_in held_in AreUpTo list (list ++ x ∷ []) at (one_more (count_in list) w)
  added list h = record {
    counts = added_count list h;
    before = added_held list;
    up_to = λ n le up. added_up_to list n h le up;
  }

-- one thing more, which begins
pub begun : (w : What) (x : Held) (at : ℕ) → x.what ≡ w → BeginsAt x.track at → (list new : List Held) → new ≡ list ++ x ∷ [] → place_of list w ≡ None → Dated count_in held_in AreUpTo list new at (one_more (count_in list) w)
begun w x at is b list new pushed none =
    subst (λ (l : List Held). Dated count_in held_in AreUpTo list l at (one_more (count_in list) w)) (sym pushed) (added w x b.fresh at is b.is_fresh b.moves list none)

-- what moved at the place of the last change is right up to it
pub moved_up : (old new : List Held) (at changed : ℕ) (after : What → ℕ) → changed ≡ at → AreUpTo old changed → Dated count_in held_in AreUpTo old new at after → AreUpTo new changed
moved_up old new at changed after same up d = subst (λ (n : ℕ). AreUpTo new n) (sym same) (d.up_to changed (omega (arith, same)) up)

pub track_up_to : (list : List Held) (i n : ℕ) (h : Held) → slice_get list i ≡ Some h → AreUpTo list n → IsTrack h.track n
track_up_to [] i n h got up = absurd (none-some h got)
track_up_to (y ∷ ys) zero n h got up = subst (λ (x : Held). IsTrack x.track n) (same_Some y h got) up.0
track_up_to (y ∷ ys) (suc i) n h got up = track_up_to ys i n h got up.2

-- what a list is once the track that stands at a place of it moved
module _ (list : List Held) (w : What) (i : ℕ) (old : Held) (place : place_of list w ≡ Some i) (is : old ≡ get_or list i old) where
  pub got_old : slice_get list i ≡ Some old
  got_old =
      let stands = state list w i place in
      stands.got ∙ ap (λ (h : Held). Some h) (sym (is ∙ get_or_from_slice_get list i stands.held old stands.got))

  pub count_here : count_in list w ≡ old.track.count
  count_here =
      let stands = state list w i place in
      stands.count ∙ ap (λ (h : Held). h.track.count) (same_Some stands.held old (sym stands.got ∙ got_old))

  pub held_here : (k : ℕ) → held_at old.track k ≡ held_in list w k
  held_here k =
      let stands = state list w i place in
      ap (λ (h : Held). held_at h.track k) (same_Some old stands.held (sym got_old ∙ stands.got)) ∙ sym (stands.holds k)

  pub up_here : (n : ℕ) → AreUpTo list n → IsTrack old.track n
  up_here n up = track_up_to list i n old got_old up

  module _ (t : Track) (at : ℕ) where
    abbrev new : Held
    new = record { what = old.what; track = t }

    pub gave : Moves old.track t at (old.track.count + 1) → Dated count_in held_in AreUpTo list (slice_set list i new) at (one_more (count_in list) w)
    gave moves = recounted list (slice_set list i new) at _ _ (set_dated list w i at (old.track.count + 1) old new place got_old refl moves) (λ x. more_counts list w x (old.track.count + 1) (ap (λ (n : ℕ). n + 1) (sym count_here)))

    pub gave_none : Moves old.track t at old.track.count → Dated count_in held_in AreUpTo list (slice_set list i new) at (count_in list)
    gave_none moves = recounted list (slice_set list i new) at _ _ (set_dated list w i at old.track.count old new place got_old refl moves) (λ x. same_counts list w x old.track.count (sym count_here))

    pub took : Moves old.track t at (old.track.count - 1) → Dated count_in held_in AreUpTo list (slice_set list i new) at (one_less (count_in list) w)
    took moves = recounted list (slice_set list i new) at _ _ (set_dated list w i at (old.track.count - 1) old new place got_old refl moves) (λ x. less_counts list w x (old.track.count - 1) (ap (λ (n : ℕ). n - 1) (sym count_here)))

pub on_ok : {A E : Type 0} (r : Result A E) (P Q : Type 0) → (P → Q) → OnOk r P → OnOk r Q
on_ok (Ok x) P Q f h = f h
on_ok (Err e) P Q f h = tt

pub on_err : {A E : Type 0} (r : Result A E) (P Q : Type 0) → (P → Q) → OnErr r P → OnErr r Q
on_err (Ok x) P Q f h = tt
on_err (Err e) P Q f h = f h

pub later_list : (list : List Held) (n m : ℕ) → n ≤ m → AreUpTo list n → AreUpTo list m
later_list [] n m le up = tt
later_list (h ∷ hs) n m le up = (later_track h.track n m le up.0, up.1, later_list hs n m le up.2)

pub still_list : (old after : List Held) (at : ℕ) → after ≡ old → Dated count_in held_in AreUpTo old after at (count_in old)
still_list old after at same = record {
  counts = λ x. ap (λ (l : List Held). count_in l x) same;
  before = λ x k below. ap (λ (l : List Held). held_in l x k) same;
  up_to = λ n le up. subst (λ (l : List Held). AreUpTo l at) (sym same) (later_list old n at le up);
}

pub any_err : {A E : Type 0} (r : Result A E) (P : Type 0) → P → OnErr r P
any_err (Ok x) P h = tt
any_err (Err e) P h = h

pub on_both : {A E : Type 0} (r : Result A E) (P Q R : Type 0) → (P → Q → R) → OnOk r P → OnOk r Q → OnOk r R
on_both (Ok x) P Q R f p q = f p q
on_both (Err e) P Q R f p q = tt

pub on_both_err : {A E : Type 0} (r : Result A E) (P Q R : Type 0) → (P → Q → R) → OnErr r P → OnErr r Q → OnErr r R
on_both_err (Ok x) P Q R f p q = tt
on_both_err (Err e) P Q R f p q = f p q

pub either : {A E : Type 0} (r : Result A E) (P : Type 0) → OnOk r P → OnErr r P → P
either (Ok x) P p q = p
either (Err e) P p q = q

-- a track that no source gave, once the next span begins
pub begun_again : (old new : Track) (at : ℕ) → old.count ≡ 0 → new.count ≡ 1 → new.opened ≡ at → new.closed.items ≡ closed_with old.closed.items old.opened old.until → Moves old new at (old.count + 1)
begun_again old new at none one opened closed = record {
  count = omega (arith, none, one);
  before = λ k below.
      later k below
      ∙ ap (λ (l : List Span). list_any (has_place k) l) closed
      ∙ closed_any old.closed.items old.opened old.until k
      ∙ ap (λ (n : ℕ). was_held old k || (nat_le old.opened k && (nat_lt 0 n || nat_lt k old.until))) (sym none);
  up_to = λ n le is. record {
    ended = subst (λ (l : List Span). HaveEnded l at) (sym closed) (closed_ended old.closed.items old.opened old.until n at is.ended (is.until none) le);
    opened = omega (arith, opened);
    until = λ empty. absurd (omega (arith, one, empty));
  };
}
  where
    first : (b c : Bool) → b ≡ false → (c || (b && true)) ≡ c
    first b true h = refl
    first b false h = ap (λ (x : Bool). x && true) h

    later : (k : ℕ) → k < at → held_at new k ≡ was_held new k
    later k below =
        let after : nat_le new.opened k ≡ false = grind (arith, opened, below) in
        ap (λ (n : ℕ). was_held new k || (nat_le new.opened k && (nat_lt 0 n || nat_lt k new.until))) one
        ∙ first (nat_le new.opened k) (was_held new k) after
