-- holders of which one has another list
use Rattle.std.proofs.Common.{◌≡◌, ◌≤◌, ◌+◌, ◌-◌, ℕ, refl, sym, ◌∙◌, ap, subst, arith, Bool, true, false, ◌&&◌, if◌then◌else◌, List, [], Option, Some, None, le-leb, ◌||◌, nat_lt, ◌∷◌}
use Rattle.std.specs.BTreeMap.{get_by_text}
use Rattle.std.specs.Str.{bytes_eq}
use Rattle.std.specs.Cmp.Lexicographic.{bytes_decides}
use Rattle.std.proofs.lemmas.Option.{same_Some}
use Rattle.grant_tracks.specs.declared.things.What.{What}
use Rattle.grant_tracks.specs.declared.held.Held.{Held}
use Rattle.grant_tracks.specs.Dated.{Dated}
use Rattle.grant_tracks.specs.What.{same_what}
use Rattle.grant_tracks.specs.Holdings.{count_in, held_in, AreUpTo, Holders, count_by_list, held_by_list, count_of, held_of, AreAllUpTo, one_more, one_less, more_of, less_of}
use Rattle.grant_tracks.proofs.Tracked.{later_list}
use Rattle.grant_tracks.specs.Things.{Things}
use Rattle.grant_tracks.specs.declared.track.Track.{Track}
use Rattle.grant_tracks.specs.Tracks.{IsTrack, held_at, held_last}
use Rattle.grant_tracks.proofs.Ordered.{none_left}

abbrev pub items_in : Option Things → List Held
items_in None = []
items_in (Some list) = list.items

count_items : (o : Option Things) (w : What) → count_in (items_in o) w ≡ count_by_list o w
count_items None w = refl
count_items (Some list) w = refl

held_items : (o : Option Things) (w : What) (k : ℕ) → held_in (items_in o) w k ≡ held_by_list o w k
held_items None w k = refl
held_items (Some list) w k = refl

module _ (old new : Holders) (name : List ℕ) (list : Things)
    (sets : (other : List ℕ) → get_by_text new other ≡ (if bytes_eq name other then Some list else get_by_text old other)) where
  new_count : (after : What → ℕ) (x : List ℕ × What) → ((w : What) → count_in list.items w ≡ after w) → count_of new x ≡ (if bytes_eq name x.0 then after x.1 else count_of old x)
  new_count after x d = ap (λ (o : Option Things). count_by_list o x.1) (sets x.0) ∙ by (bytes_eq name x.0)
    where
      by : (b : Bool) → count_by_list (if b then Some list else get_by_text old x.0) x.1 ≡ (if b then after x.1 else count_of old x)
      by true = d x.1
      by false = refl

  new_held : (x : List ℕ × What) (k : ℕ) → (held_in list.items x.1 k ≡ held_by_list (get_by_text old name) x.1 k) → held_of new x k ≡ held_of old x k
  new_held x k d = ap (λ (o : Option Things). held_by_list o x.1 k) (sets x.0) ∙ by (bytes_eq name x.0) refl
    where
      by : (b : Bool) → bytes_eq name x.0 ≡ b → held_by_list (if b then Some list else get_by_text old x.0) x.1 k ≡ held_of old x k
      by true same = d ∙ ap (λ (other : List ℕ). held_by_list (get_by_text old other) x.1 k) ((bytes_decides name x.0).0 same)
      by false same = refl

  new_up_to : (n at : ℕ) → n ≤ at → AreAllUpTo old n → AreUpTo list.items at × (list.since ≤ at) × (list.changed ≤ at) → AreAllUpTo new at
  new_up_to n at le up here other found is = by (bytes_eq name other) refl
    where
      by : (b : Bool) → bytes_eq name other ≡ b → AreUpTo found.items at × (found.since ≤ at) × (found.changed ≤ at)
      by true same = subst (λ (l : Things). AreUpTo l.items at × (l.since ≤ at) × (l.changed ≤ at)) (same_Some list found (sym (ap (λ (b : Bool). if b then Some list else get_by_text old other) same) ∙ sym (sets other) ∙ is)) here
      by false same =
          let had = up other found (sym (ap (λ (b : Bool). if b then Some list else get_by_text old other) same) ∙ sym (sets other) ∙ is) in
          (later_list found.items n at le had.0, omega (arith, le, had.1), omega (arith, le, had.2))

  old_up_to : (n : ℕ) (o : Option Things) → get_by_text old name ≡ o → AreAllUpTo old n → AreUpTo (items_in o) n
  old_up_to n None is up = tt
  old_up_to n (Some l) is up = (up name l is).0

  pub holder_dated : (o : Option Things) (at : ℕ) (after : What → ℕ) → get_by_text old name ≡ o → list.since ≤ at → list.changed ≤ at → Dated count_in held_in AreUpTo (items_in o) list.items at after
      → Dated count_of held_of AreAllUpTo old new at (λ x. if bytes_eq name x.0 then after x.1 else count_of old x)
  holder_dated o at after is since changed d = record {
    counts = λ x. new_count after x d.counts;
    before = λ x k below. new_held x k (d.before x.1 k below ∙ held_items o x.1 k ∙ ap (λ (p : Option Things). held_by_list p x.1 k) (sym is));
    up_to = λ n le up. new_up_to n at le up (d.up_to n le (old_up_to n o is up), since, changed);
  }

pub recounted_of : (old new : Holders) (at : ℕ) (one other : List ℕ × What → ℕ) → Dated count_of held_of AreAllUpTo old new at one → ((x : List ℕ × What) → one x ≡ other x) → Dated count_of held_of AreAllUpTo old new at other
recounted_of old new at one other d same = record { counts = λ x. d.counts x ∙ same x; before = d.before; up_to = d.up_to }

module _ (old : Holders) (name : List ℕ) (o : Option Things) (is : get_by_text old name ≡ o) where
  there : (x : List ℕ × What) → bytes_eq name x.0 ≡ true → count_in (items_in o) x.1 ≡ count_of old x
  there x same = count_items o x.1 ∙ ap (λ (p : Option Things). count_by_list p x.1) (sym is) ∙ ap (λ (other : List ℕ). count_by_list (get_by_text old other) x.1) ((bytes_decides name x.0).0 same)

  pub kept_counts : (x : List ℕ × What) → (if bytes_eq name x.0 then count_in (items_in o) x.1 else count_of old x) ≡ count_of old x
  kept_counts x = by (bytes_eq name x.0) refl
    where
      by : (b : Bool) → bytes_eq name x.0 ≡ b → (if b then count_in (items_in o) x.1 else count_of old x) ≡ count_of old x
      by true same = there x same
      by false same = refl

  pub more_counts_of : (w : What) (x : List ℕ × What) → (if bytes_eq name x.0 then one_more (count_in (items_in o)) w x.1 else count_of old x) ≡ more_of (count_of old) name w x
  more_counts_of w x = by (bytes_eq name x.0) refl
    where
      by : (b : Bool) → bytes_eq name x.0 ≡ b → (if b then one_more (count_in (items_in o)) w x.1 else count_of old x) ≡ (if b && same_what w x.1 then count_of old x + 1 else count_of old x)
      by true same = ap (λ (n : ℕ). if same_what w x.1 then n + 1 else n) (there x same)
      by false same = refl

  pub less_counts_of : (w : What) (x : List ℕ × What) → (if bytes_eq name x.0 then one_less (count_in (items_in o)) w x.1 else count_of old x) ≡ less_of (count_of old) name w x
  less_counts_of w x = by (bytes_eq name x.0) refl
    where
      by : (b : Bool) → bytes_eq name x.0 ≡ b → (if b then one_less (count_in (items_in o)) w x.1 else count_of old x) ≡ (if b && same_what w x.1 then count_of old x - 1 else count_of old x)
      by true same = ap (λ (n : ℕ). if same_what w x.1 then n - 1 else n) (there x same)
      by false same = refl

pub later_all : (holders : Holders) (n m : ℕ) → n ≤ m → AreAllUpTo holders n → AreAllUpTo holders m
later_all holders n m le up name list is =
    let had = up name list is in
    (later_list list.items n m le had.0, omega (arith, le, had.1), omega (arith, le, had.2))

pub unchanged : (old new : Holders) (at : ℕ) → ((other : List ℕ) → get_by_text new other ≡ get_by_text old other) → Dated count_of held_of AreAllUpTo old new at (count_of old)
unchanged old new at same = record {
  counts = λ x. ap (λ (o : Option Things). count_by_list o x.1) (same x.0);
  before = λ x k below. ap (λ (o : Option Things). held_by_list o x.1 k) (same x.0);
  up_to = λ n le up name list is.
      let had = up name list (sym (same name) ∙ is) in
      (later_list list.items n at le had.0, omega (arith, le, had.1), omega (arith, le, had.2));
}

-- at the place up to which a track says anything it says what there is now
pub settled_track : (t : Track) (n : ℕ) → IsTrack t n → held_at t n ≡ nat_lt 0 t.count
settled_track t n is =
    ap (λ (b : Bool). b || held_last t n) (none_left t.closed.items n is.ended)
    ∙ ap (λ (b : Bool). b && (nat_lt 0 t.count || nat_lt n t.until)) (le-leb t.opened n is.opened)
    ∙ by (nat_lt 0 t.count) refl
  where
    by : (b : Bool) → nat_lt 0 t.count ≡ b → (b || nat_lt n t.until) ≡ b
    by true h = refl
    by false h = let le : t.until ≤ n = is.until (grind (arith, h)) in grind (arith, le)

pub settled_list : (list : List Held) (n : ℕ) (w : What) → AreUpTo list n → held_in list w n ≡ nat_lt 0 (count_in list w)
settled_list [] n w up = grind arith
settled_list (h ∷ hs) n w up =
    ap (λ (b : Bool). if same_what h.what w then b else held_in hs w n) (settled_track h.track n up.0)
    ∙ ap (λ (b : Bool). if same_what h.what w then nat_lt 0 h.track.count else b) (settled_list hs n w up.2)
    ∙ by (same_what h.what w)
  where
    by : (b : Bool) → (if b then nat_lt 0 h.track.count else nat_lt 0 (count_in hs w)) ≡ nat_lt 0 (if b then h.track.count else count_in hs w)
    by true = refl
    by false = refl

pub settled_holders : (holders : Holders) (n : ℕ) (name : List ℕ) (w : What) → AreAllUpTo holders n → held_of holders (name, w) n ≡ nat_lt 0 (count_of holders (name, w))
settled_holders holders n name w up = by (get_by_text holders name) refl
  where
    by : (o : Option Things) → get_by_text holders name ≡ o → held_by_list (get_by_text holders name) w n ≡ nat_lt 0 (count_by_list (get_by_text holders name) w)
    by None is = ap (λ (o : Option Things). held_by_list o w n) is ∙ none ∙ ap (λ (o : Option Things). nat_lt 0 (count_by_list o w)) (sym is)
      where
        none : false ≡ nat_lt 0 0
        none = refl
    by (Some list) is =
        ap (λ (o : Option Things). held_by_list o w n) is ∙ settled_list list.items n w (up name list is).0
        ∙ ap (λ (o : Option Things). nat_lt 0 (count_by_list o w)) (sym is)
