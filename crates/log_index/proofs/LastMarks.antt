-- the last mark of a revision after its write has the revision's effects
use Rattle.std.proofs.Common.{◌≡◌, ℕ, suc, ◌+◌, ◌<◌, ◌≤◌, Bool, true, false, true≢false, List, [], ◌∷◌, length, refl, sym, ap, ◌∙◌, arith, Option, Some, None, if◌then◌else◌}
use Rattle.std.specs.Prelude.{nat_le, option_map, slice_get, is_some}
use Rattle.std.proofs.lemmas.Bool.{eq-eqb, ne_eqb, leb-false}
use Rattle.std.proofs.lemmas.Option.{none-some, same_Some}
use Rattle.sg_names.specs.declared.rev_id.RevId.{RevId}
use Rattle.sg_history.specs.declared.entries.Entry.{Entry}
use Rattle.sg_history.specs.declared.entries.Mark.{Mark}
use Rattle.sg_history.specs.History.{SyncEntry, as_sync}
use Rattle.sg_history.specs.Current.{Effects, Sequenced, effects_of, effects_or, mark_by, mark_in, mark_of, marks_rev, recorded_effects}
use Rattle.log_index.specs.declared.marks.Marked.{Marked}
use Rattle.log_index.specs.Marks.{mark_place, place_in, place_by, marked_or, marked_after, mark_in_place, mark_at, effects_by}

-- the mark at a place, if there is a place
abbrev got : List Mark → Option ℕ → Option Mark
got marks None = None
got marks (Some i) = slice_get marks i

got_later : (mark : Mark) (marks : List Mark) (o : Option ℕ) → got (mark ∷ marks) (option_map suc o) ≡ got marks o
got_later mark marks None = refl
got_later mark marks (Some i) = refl

place_gives : (marks : List Mark) (doc : List ℕ) (rev : RevId) → mark_of marks doc rev ≡ got marks (mark_place marks doc rev)
place_gives [] doc rev = refl
place_gives (mark ∷ marks) doc rev = by (marks_rev mark doc rev) (place_gives marks doc rev)
  where
    by : (b : Bool) → mark_of marks doc rev ≡ got marks (mark_place marks doc rev) → (if b then Some mark else mark_of marks doc rev) ≡ got (mark ∷ marks) (if b then Some 0 else option_map suc (mark_place marks doc rev))
    by true rest = refl
    by false rest = rest ∙ sym (got_later mark marks (mark_place marks doc rev))

-- the same in the marks of a replacement, where there is one
abbrev got_in : Option SyncEntry → Option ℕ → Option Mark
got_in o None = None
got_in o (Some i) = mark_in_place o i

in_gives : (o : Option SyncEntry) (doc : List ℕ) (rev : RevId) → mark_in o doc rev ≡ got_in o (place_in o doc rev)
in_gives None doc rev = refl
in_gives (Some sync) doc rev = place_gives sync.marks doc rev ∙ of (mark_place sync.marks doc rev)
  where
    of : (p : Option ℕ) → got sync.marks p ≡ got_in (Some sync) p
    of None = refl
    of (Some i) = refl

there_later : (mark : Mark) (marks : List Mark) (o : Option ℕ) → ((i : ℕ) → o ≡ Some i → is_some (slice_get marks i) ≡ true)
    → (i : ℕ) → option_map suc o ≡ Some i → is_some (slice_get (mark ∷ marks) i) ≡ true
there_later mark marks None h i is = absurd (none-some i is)
there_later mark marks (Some k) h i is =
    ap (λ (n : ℕ). is_some (slice_get (mark ∷ marks) n)) (sym (same_Some (suc k) i is)) ∙ h k refl

place_there : (marks : List Mark) (doc : List ℕ) (rev : RevId) (i : ℕ) → mark_place marks doc rev ≡ Some i → is_some (slice_get marks i) ≡ true
place_there [] doc rev i is = absurd (none-some i is)
place_there (mark ∷ marks) doc rev i is = by (marks_rev mark doc rev) (λ k at. place_there marks doc rev k at) is
  where
    by : (b : Bool) → ((k : ℕ) → mark_place marks doc rev ≡ Some k → is_some (slice_get marks k) ≡ true) → (if b then Some 0 else option_map suc (mark_place marks doc rev)) ≡ Some i → is_some (slice_get (mark ∷ marks) i) ≡ true
    by true rest is = ap (λ (n : ℕ). is_some (slice_get (mark ∷ marks) n)) (sym (same_Some 0 i is))
    by false rest is = there_later mark marks (mark_place marks doc rev) rest i is

in_there : (o : Option SyncEntry) (doc : List ℕ) (rev : RevId) (i : ℕ) → place_in o doc rev ≡ Some i → is_some (mark_in_place o i) ≡ true
in_there None doc rev i is = absurd (none-some i is)
in_there (Some sync) doc rev i is = place_there sync.marks doc rev i is

-- a mark that stands in an entry, after a sequence
pub record Stands (es : List Entry) (seq : ℕ) (m : Marked) : Type 0 where
  pub after : seq < m.sync
  pub within : m.sync ≤ length es
  pub there : is_some (mark_at es m) ≡ true

at_older : (e : Entry) (older : List Entry) (m : Marked) → m.sync ≤ length older → mark_at (e ∷ older) m ≡ mark_at older m
at_older e older m within =
    ap (λ (b : Bool). if b then mark_in_place (as_sync e) m.mark else mark_at older m)
    (ne_eqb m.sync (length older + 1) (λ same. omega (arith, within, same)))

at_newest : (e : Entry) (older : List Entry) (i : ℕ) → mark_at (e ∷ older) (record { sync = length older + 1; mark = i }) ≡ mark_in_place (as_sync e) i
at_newest e older i =
    ap (λ (b : Bool). if b then mark_in_place (as_sync e) i else mark_at older (record { sync = length older + 1; mark = i }))
    (eq-eqb (length older + 1) (length older + 1) refl)

stands_newest : (e : Entry) (older : List Entry) (seq i : ℕ) (m : Marked) → seq < length older + 1 → is_some (mark_in_place (as_sync e) i) ≡ true
    → record { sync = length older + 1; mark = i } ≡ m → Stands (e ∷ older) seq m
stands_newest e older seq i m below there same =
    let number : length older + 1 ≡ m.sync = ap (λ (x : Marked). x.sync) same in
    record {
      after = omega (arith, below, number);
      within = omega (arith, number);
      there = ap (λ (x : Marked). is_some (mark_at (e ∷ older) x)) (sym same) ∙ ap is_some (at_newest e older i) ∙ there;
    }

stands_older : (e : Entry) (older : List Entry) (seq : ℕ) (m : Marked) → Stands older seq m → Stands (e ∷ older) seq m
stands_older e older seq m s = record {
  after = s.after;
  within = omega (arith, s.within);
  there = ap is_some (at_older e older m s.within) ∙ s.there;
}

pub stands : (es : List Entry) (w : Sequenced) (m : Marked) → marked_after es w ≡ Some m → Stands es w.seq m
stands [] w m is = absurd (none-some m is)
stands (e ∷ older) w m is = by (nat_le (length older + 1) w.seq) refl (λ h. stands older w m h) is
  where
    place : (o : Option ℕ) → place_by e w.write.doc w.write.rev ≡ o → w.seq < length older + 1 → (marked_after older w ≡ Some m → Stands older w.seq m)
        → marked_or o (length older + 1) (marked_after older w) ≡ Some m → Stands (e ∷ older) w.seq m
    place None at below rest is = stands_older e older w.seq m (rest is)
    place (Some i) at below rest is =
        stands_newest e older w.seq i m below (in_there (as_sync e) w.write.doc w.write.rev i at) (same_Some (record { sync = length older + 1; mark = i }) m is)

    by : (b : Bool) → nat_le (length older + 1) w.seq ≡ b → (marked_after older w ≡ Some m → Stands older w.seq m)
        → (if b then None else marked_or (place_by e w.write.doc w.write.rev) (length older + 1) (marked_after older w)) ≡ Some m → Stands (e ∷ older) w.seq m
    by true low rest is = absurd (none-some m is)
    by false low rest is = place (place_by e w.write.doc w.write.rev) refl (leb-false (length older + 1) w.seq low) rest is

of_some : (o : Option Mark) (a b : Effects) → is_some o ≡ true → effects_or o a ≡ effects_or o b
of_some None a b h = absurd (true≢false (sym h))
of_some (Some mark) a b h = refl

by_older : (e : Entry) (older : List Entry) (w : Sequenced) (o : Option Marked) → marked_after older w ≡ o → effects_by (e ∷ older) o w.write ≡ effects_by older o w.write
by_older e older w None is = refl
by_older e older w (Some m) is = ap (λ (o : Option Mark). effects_or o (recorded_effects w.write)) (at_older e older m (stands older w m is).within)

-- the revision's effects are those of its last mark
pub marked_gives : (es : List Entry) (w : Sequenced) → effects_of es w ≡ effects_by es (marked_after es w) w.write
marked_gives [] w = refl
marked_gives (e ∷ older) w = by (nat_le (length older + 1) w.seq) (marked_gives older w)
  where
    own : Option Mark
    own = mark_by e w.write.doc w.write.rev

    place : (o : Option ℕ) → place_by e w.write.doc w.write.rev ≡ o → effects_of older w ≡ effects_by older (marked_after older w) w.write
        → effects_or own (effects_of older w) ≡ effects_by (e ∷ older) (marked_or o (length older + 1) (marked_after older w)) w.write
    place None at rest =
        ap (λ (o : Option Mark). effects_or o (effects_of older w)) (in_gives (as_sync e) w.write.doc w.write.rev ∙ ap (λ (p : Option ℕ). got_in (as_sync e) p) at)
        ∙ rest
        ∙ sym (by_older e older w (marked_after older w) refl)
    place (Some i) at rest =
        ap (λ (o : Option Mark). effects_or o (effects_of older w)) (in_gives (as_sync e) w.write.doc w.write.rev ∙ ap (λ (p : Option ℕ). got_in (as_sync e) p) at)
        ∙ of_some (mark_in_place (as_sync e) i) (effects_of older w) (recorded_effects w.write) (in_there (as_sync e) w.write.doc w.write.rev i at)
        ∙ ap (λ (o : Option Mark). effects_or o (recorded_effects w.write)) (sym (at_newest e older i))

    by : (b : Bool) → effects_of older w ≡ effects_by older (marked_after older w) w.write → (if b then recorded_effects w.write else effects_or own (effects_of older w))
        ≡ effects_by (e ∷ older) (if b then None else marked_or (place_by e w.write.doc w.write.rev) (length older + 1) (marked_after older w)) w.write
    by true rest = refl
    by false rest = place (place_by e w.write.doc w.write.rev) refl rest
