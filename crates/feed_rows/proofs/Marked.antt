-- since when a document is what it is, by its last write and by the last mark of its winner
use Rattle.std.proofs.Common.{◌≡◌, ◌≤◌, ◌+◌, ℕ, refl, sym, ◌∙◌, ap, arith, Bool, true, false, if◌then◌else◌, List, [], ◌∷◌, length, max, Option, Some, None}
use Rattle.std.specs.Prelude.{is_some, nat_le, suc, option_map}
use Rattle.std.proofs.lemmas.Bool.{false≢true, leb-true, leb-false}
use Rattle.std.proofs.lemmas.Int.{clamps}
use Rattle.std.proofs.lemmas.Option.{none-some, same_Some}
use Rattle.sg_names.specs.declared.rev_id.RevId.{RevId}
use Rattle.sg_history.specs.declared.entries.Entry.{Entry}
use Rattle.sg_history.specs.declared.entries.Mark.{Mark}
use Rattle.sg_history.specs.declared.entries.Write.{Write}
use Rattle.sg_history.specs.History.{SyncEntry, as_sync, write_to}
use Rattle.sg_history.specs.Current.{Sequenced, current_after, last_write, mark_by, mark_in, mark_of, marks_rev, sequenced_or, winning_of, with_rev_or, write_of_rev, write_or}
use Rattle.log_index.specs.Marks.{mark_place, marked_after, marked_or, place_by, place_in}
use Rattle.log_views.specs.States.{since_by}
use Rattle.log_views.proofs.Placed.{last_at, winning_at}
use Rattle.feed_rows.specs.Known.{marks_winner, renews, since_renewed}
use Rattle.feed_rows.proofs.Steps.{since_other, since_own, unwritten_renews, written_renews}

-- a mark has a place
some_place : (o : Option ℕ) → is_some (option_map suc o) ≡ is_some o
some_place None = refl
some_place (Some k) = refl

placed : (marks : List Mark) (doc : List ℕ) (rev : RevId) → is_some (mark_place marks doc rev) ≡ is_some (mark_of marks doc rev)
placed [] doc rev = refl
placed (m ∷ marks) doc rev = go (marks_rev m doc rev) (placed marks doc rev)
  where
    go : (b : Bool) → is_some (mark_place marks doc rev) ≡ is_some (mark_of marks doc rev) → is_some (if b then Some 0 else option_map suc (mark_place marks doc rev)) ≡ is_some (if b then Some m else mark_of marks doc rev)
    go true rest = refl
    go false rest = some_place (mark_place marks doc rev) ∙ rest

placed_in : (o : Option SyncEntry) (doc : List ℕ) (rev : RevId) → is_some (place_in o doc rev) ≡ is_some (mark_in o doc rev)
placed_in None doc rev = refl
placed_in (Some sync) doc rev = placed sync.marks doc rev

-- the last mark of a write's revision, after one entry more
abbrev pub since : List Entry → Sequenced → ℕ
since es w = since_by (marked_after es w) w.seq

since_marked : (e : Entry) (older : List Entry) (w : Sequenced) → w.seq ≤ length older → is_some (place_by e w.write.doc w.write.rev) ≡ true → since (e ∷ older) w ≡ length older + 1
since_marked e older w low there = by (nat_le (length older + 1) w.seq) refl
  where
    place : (o : Option ℕ) → is_some o ≡ true → since_by (marked_or o (length older + 1) (marked_after older w)) w.seq ≡ length older + 1
    place None h = absurd (false≢true h)
    place (Some k) h = refl

    by : (b : Bool) → nat_le (length older + 1) w.seq ≡ b → since_by (if b then None else marked_or (place_by e w.write.doc w.write.rev) (length older + 1) (marked_after older w)) w.seq ≡ length older + 1
    by true h = absurd (omega (arith, low, leb-true (length older + 1) w.seq h))
    by false h = place (place_by e w.write.doc w.write.rev) there

since_unmarked : (e : Entry) (older : List Entry) (w : Sequenced) → w.seq ≤ length older → is_some (place_by e w.write.doc w.write.rev) ≡ false → since (e ∷ older) w ≡ since older w
since_unmarked e older w low there = by (nat_le (length older + 1) w.seq) refl
  where
    place : (o : Option ℕ) → is_some o ≡ false → since_by (marked_or o (length older + 1) (marked_after older w)) w.seq ≡ since older w
    place None h = refl
    place (Some k) h = absurd (false≢true (sym h))

    by : (b : Bool) → nat_le (length older + 1) w.seq ≡ b → since_by (if b then None else marked_or (place_by e w.write.doc w.write.rev) (length older + 1) (marked_after older w)) w.seq ≡ since older w
    by true h = absurd (omega (arith, low, leb-true (length older + 1) w.seq h))
    by false h = place (place_by e w.write.doc w.write.rev) there

since_newest : (e : Entry) (older : List Entry) (w : Sequenced) → w.seq ≡ length older + 1 → since (e ∷ older) w ≡ length older + 1
since_newest e older w at = by (nat_le (length older + 1) w.seq) refl
  where
    by : (b : Bool) → nat_le (length older + 1) w.seq ≡ b → since_by (if b then None else marked_or (place_by e w.write.doc w.write.rev) (length older + 1) (marked_after older w)) w.seq ≡ length older + 1
    by true h = at
    by false h = absurd (omega (arith, at, leb-false (length older + 1) w.seq h))

-- it is at a place of the entries
bounded : (es : List Entry) (w : Sequenced) → w.seq ≤ length es → since es w ≤ length es
bounded [] w low = low
bounded (e ∷ older) w low = by (nat_le (length older + 1) w.seq) refl (λ h. bounded older w h)
  where
    own : w.seq ≡ length older + 1 → since (e ∷ older) w ≤ length (e ∷ older)
    own at = omega (arith, since_newest e older w at)

    place : w.seq ≤ length older → since older w ≤ length older → (b : Bool) → is_some (place_by e w.write.doc w.write.rev) ≡ b → since (e ∷ older) w ≤ length (e ∷ older)
    place within rest true there = omega (arith, since_marked e older w within there)
    place within rest false there = omega (arith, since_unmarked e older w within there, rest)

    by : (b : Bool) → nat_le (length older + 1) w.seq ≡ b → (w.seq ≤ length older → since older w ≤ length older) → since (e ∷ older) w ≤ length (e ∷ older)
    by true h rest = own (omega (arith, low, leb-true (length older + 1) w.seq h))
    by false h rest =
        let within : w.seq ≤ length older = omega (arith, leb-false (length older + 1) w.seq h) in
        place within (rest within) (is_some (place_by e w.write.doc w.write.rev)) refl

-- the last write or the last mark of the winner
pub most : (es : List Entry) (doc : List ℕ) (last : Sequenced) → last_write es doc ≡ Some last → max last.seq (since es (winning_of es doc last)) ≡ length (since_renewed es doc)
most [] doc last h = absurd (none-some last h)
most (e ∷ older) doc last h = go (write_to e doc) refl (λ k. most older doc last k) h
  where
    all : renews e older doc ≡ true → length (since_renewed (e ∷ older) doc) ≡ length older + 1
    all own = let whole = ap length (since_own e older doc own) in omega (arith, whole)

    written : (w : Write) → write_to e doc ≡ Some w → record { seq = length older + 1; write = w } ≡ last → max last.seq (since (e ∷ older) (winning_of (e ∷ older) doc last)) ≡ length (since_renewed (e ∷ older) doc)
    written w is same =
        let seq : length older + 1 ≡ last.seq = ap (λ (s : Sequenced). s.seq) same in
        let at = last_at (e ∷ older) doc last h in
        let won = (winning_at (e ∷ older) doc last at.0 at.1).0 in
        let high = bounded (e ∷ older) (winning_of (e ∷ older) doc last) won.high in
        let whole = all (written_renews e older doc w is) in
        omega (arith, clamps, seq, high, whole)

    winning_same : write_to e doc ≡ None → winning_of (e ∷ older) doc last ≡ winning_of older doc last
    winning_same none =
        ap (λ (o : Option Write). write_or (with_rev_or o (length older + 1) last.write.winner (write_of_rev older doc last.write.winner)) last) none

    marks : write_to e doc ≡ None → last_write older doc ≡ Some last → (winning_of older doc last).write.doc ≡ doc → is_some (place_by e (winning_of older doc last).write.doc (winning_of older doc last).write.rev) ≡ renews e older doc
    marks none was of =
        placed_in (as_sync e) (winning_of older doc last).write.doc (winning_of older doc last).write.rev
        ∙ ap (λ (d : List ℕ). is_some (mark_by e d (winning_of older doc last).write.rev)) of
        ∙ sym (unwritten_renews e older doc none ∙ ap (λ (o : Option Sequenced). marks_winner e doc (current_after older doc o)) was)

    by : (winning_of older doc last).seq ≤ length older → last.seq ≤ length older → (b : Bool) → is_some (place_by e (winning_of older doc last).write.doc (winning_of older doc last).write.rev) ≡ b → renews e older doc ≡ b → max last.seq (since older (winning_of older doc last)) ≡ length (since_renewed older doc) → max last.seq (since (e ∷ older) (winning_of older doc last)) ≡ length (since_renewed (e ∷ older) doc)
    by low high true there own before =
        let at = since_marked e older (winning_of older doc last) low there in
        let whole = all own in
        omega (arith, clamps, at, high, whole)
    by low high false there own before =
        let at = since_unmarked e older (winning_of older doc last) low there in
        ap (max last.seq) at ∙ before ∙ sym (ap length (since_other e older doc own))

    unwritten : write_to e doc ≡ None → last_write older doc ≡ Some last → max last.seq (since older (winning_of older doc last)) ≡ length (since_renewed older doc) → max last.seq (since (e ∷ older) (winning_of older doc last)) ≡ length (since_renewed (e ∷ older) doc)
    unwritten none was before =
        let at = last_at older doc last was in
        let one = winning_at older doc last at.0 at.1 in
        by one.0.high at.0.high (is_some (place_by e (winning_of older doc last).write.doc (winning_of older doc last).write.rev)) refl (sym (marks none was one.1)) before

    go : (o : Option Write) → write_to e doc ≡ o → (last_write older doc ≡ Some last → max last.seq (since older (winning_of older doc last)) ≡ length (since_renewed older doc)) → sequenced_or o (length older + 1) (last_write older doc) ≡ Some last → max last.seq (since (e ∷ older) (winning_of (e ∷ older) doc last)) ≡ length (since_renewed (e ∷ older) doc)
    go None is rest k = ap (λ (s : Sequenced). max last.seq (since (e ∷ older) s)) (winning_same is) ∙ unwritten is k (rest k)
    go (Some w) is rest k = written w is (same_Some _ last k)
