-- what a replaced sync function makes of lists
use Rattle.std.proofs.Common.{◌≡◌, ◌≢◌, ◌<◌, ◌+◌, ℕ, zero, suc, refl, sym, ◌∙◌, ap, arith, Bool, true, false, ◌&&◌, ◌||◌, not, if◌then◌else◌, List, [], ◌∷◌, ◌++◌, length, drop, Option, Some, None, nat_eq}
use Rattle.std.specs.Prelude.{is_some, nat_le, option_map, slice_get, IsSome}
use Rattle.std.specs.List.{list_any}
use Rattle.std.specs.Str.{bytes_eq}
use Rattle.std.specs.Cmp.Lexicographic.{bytes_decides}
use Rattle.std.proofs.lemmas.Bool.{eq-eqb, eqb-true, false≢true, leb-true, true≢false}
use Rattle.std.proofs.lemmas.List.Folds.{list_any-append}
use Rattle.std.proofs.lemmas.Option.{none-some, same_Some}
use Rattle.sg_names.specs.RevId.{same_rev}
use Rattle.sg_names.specs.declared.rev_id.RevId.{RevId}
use Rattle.sg_history.specs.declared.entries.Entry.{Entry}
use Rattle.sg_history.specs.declared.entries.Mark.{Mark}
use Rattle.sg_history.specs.declared.entries.Write.{Write}
use Rattle.sg_history.specs.History.{SyncEntry, among, as_sync, as_write, of_document, write_to}
use Rattle.sg_history.specs.Current.{Current, Sequenced, current, effects_of, mark_by, mark_in, mark_of, marked_by, marked_state, marks_rev}
use Rattle.sg_history.specs.View.{every}
use Rattle.log_index.specs.declared.documents.Document.{Document}
use Rattle.log_index.specs.declared.marks.Marked.{Marked}
use Rattle.log_index.specs.Marks.{effects_by, entries_up_to, is_mark, mark_at, mark_in_place, mark_place, marked_after, marked_or, marked_up_to, place_by, place_in, write_of}
use Rattle.log_index.specs.Marks as marks
use Rattle.log_index.specs.Places.{document_at, next_at, written_again}
use Rattle.log_index.specs.Representation.{last_kept}
use Rattle.log_index.proofs.FirstRevisions.{at_newest, not_there}
use Rattle.log_index.proofs.GoingBack.{all_up_to}
use Rattle.log_index.proofs.Nexts.{last_writes_it, stays_at}
use Rattle.channel_cache.specs.inner.Counting.{AreLists, is_in_list, is_listed_by}
use Rattle.channel_cache.specs.Listed.{is_in, is_in_one, is_listed}
use Rattle.channel_cache.specs.inner.Moves.{Move, channels_at, enters, entered_by, leaves, left_by, move_by, move_of, moves_of}
use Rattle.channel_cache.specs.inner.Read.{marked_channels}
use Rattle.channel_cache.specs.Sequences.{Changed, Counted, Lists, holds_of, is_kept}
use Rattle.channel_cache.specs.Stands.{is_last}
use Rattle.channel_cache.proofs.Changing.{kept_same}
use Rattle.channel_cache.proofs.Past.{of_marked}
use Rattle.channel_cache.proofs.Standing.{IsCurrent, IsDocument, is_current, is_document}
use Rattle.channel_cache.proofs.Stepping.{Unwritten, counts_last, last_more, write_other}

-- laws of marks
pub record Laws : Type 0 where
  pub unwritten : Unwritten
  pub effects : (es : List Entry) (w : Sequenced) → effects_of es w ≡ effects_by es (marked_after es w) w.write
  pub there : (es : List Entry) (w : Sequenced) (m : Marked) → marked_after es w ≡ Some m → IsSome (mark_at es m)

-- a document that moves: what it was, and what it is
pub record IsMove (older es : List Entry) (m : Move) : Type 0 where
  pub doc : List ℕ
  pub was : Current
  pub now : Current
  pub was_is : current older doc ≡ Some was
  pub now_is : current es doc ≡ Some now
  pub last : m.last ≡ was.seq
  pub before : m.before ≡ was.effects.channels
  pub after : m.after ≡ now.effects.channels

abbrev pub AreMoves : List Entry → List Entry → List Move → Type 0
AreMoves older es [] = Unit {0}
AreMoves older es (m ∷ moves) = IsMove older es m × AreMoves older es moves

abbrev pub is_moved : List Move → ℕ → Bool
is_moved moves s = list_any (λ m. nat_eq s m.last) moves

both_moves : (older es : List Entry) (xs ys : List Move) → AreMoves older es xs → AreMoves older es ys → AreMoves older es (xs ++ ys)
both_moves older es [] ys xs_are ys_are = ys_are
both_moves older es (x ∷ xs) ys xs_are ys_are = (xs_are.0, both_moves older es xs ys xs_are.1 ys_are)

or_true : (b : Bool) → (b || true) ≡ true
or_true true = refl
or_true false = refl

or_false : (b : Bool) → (b || false) ≡ b
or_false true = refl
or_false false = refl

and_true : (b : Bool) → (b && true) ≡ b
and_true true = refl
and_true false = refl

and_false : (b : Bool) → (b && false) ≡ false
and_false true = refl
and_false false = refl

both : (a b : Bool) → (a && b) ≡ true → (a ≡ true) × (b ≡ true)
both true b h = (refl, h)
both false b h = absurd (false≢true h)

-- the mark of a number, and those behind it
numbered : (all : List Mark) (n : ℕ) (mark : Mark) (rest : List Mark) → drop n all ≡ mark ∷ rest → (slice_get all n ≡ Some mark) × (drop (n + 1) all ≡ rest)
numbered [] n mark rest is = absurd (true≢false (ap some (sym is ∙ none n)))
  where
    some : List Mark → Bool
    some [] = false
    some (x ∷ xs) = true

    none : (n : ℕ) → ◌≡◌ {A = List Mark} (drop n []) []
    none zero = refl
    none (suc n) = refl
numbered (x ∷ xs) zero mark rest is = (ap first is, ap later is)
  where
    first : List Mark → Option Mark
    first [] = None
    first (y ∷ ys) = Some y

    later : List Mark → List Mark
    later [] = []
    later (y ∷ ys) = ys
numbered (x ∷ xs) (suc n) mark rest is =
    let one : ◌≡◌ {A = ℕ} (suc n + 1) (suc (n + 1)) = omega arith in
    let two = numbered xs n mark rest is in
    (two.0, ap (λ (m : ℕ). drop m (x ∷ xs)) one ∙ two.1)

-- an entry that replaces the sync function, over older ones
module _ (laws : Laws) (e : Entry) (older : List Entry) (sync : SyncEntry) (replaces : as_sync e ≡ Some sync) (plain : as_write e ≡ None) where
  writes_none : (doc : List ℕ) → write_to e doc ≡ None
  writes_none doc = ap (λ (o : Option Write). of_document o doc) plain

  stays : (doc : List ℕ) → document_at (e ∷ older) doc ≡ document_at older doc
  stays doc = stays_at e older doc (writes_none doc)

  is_this : (o : Option Marked) (n : ℕ) → is_mark o (length older + 1) n ≡ true → o ≡ Some (record { sync = length older + 1; mark = n })
  is_this None n is = absurd (false≢true is)
  is_this (Some m) n is =
      let two = both (nat_eq m.sync (length older + 1)) (nat_eq m.mark n) is in
      let s : m.sync ≡ length older + 1 = eqb-true m.sync (length older + 1) two.0 in
      let p : m.mark ≡ n = eqb-true m.mark n two.1 in
      λ i. Some (record { sync = s i; mark = p i })

  one_more : length (e ∷ older) ≡ length older + 1
  one_more = omega arith

  newest_mark : (n : ℕ) → mark_at (e ∷ older) (record { sync = length older + 1; mark = n }) ≡ slice_get sync.marks n
  newest_mark n =
      ap (λ (b : Bool). if b then mark_in_place (as_sync e) n else mark_at older (record { sync = length older + 1; mark = n })) (eq-eqb (length older + 1) (length older + 1) refl)
      ∙ ap (λ (o : Option SyncEntry). mark_in_place o n) replaces

  -- a mark that has the effects of its document's winner moves it
  move_is : (mark : Mark) (n : ℕ) → slice_get sync.marks n ≡ Some mark → (d : Document) → document_at (e ∷ older) mark.doc ≡ Some d → is_mark (marked_up_to (e ∷ older) d.winning (length older + 1)) (length older + 1) n ≡ true
      → IsMove older (e ∷ older) (record { last = d.last; before = channels_at older d.winning; after = mark.channels })
  move_is mark n at d here is =
      let es = e ∷ older in
      let old : IsDocument older mark.doc d = is_document older mark.doc d (sym (stays mark.doc) ∙ here) in
      let new : IsDocument es mark.doc d = is_document es mark.doc d here in
      let m : Marked = record { sync = length older + 1; mark = n } in
      let marked : marks.mark_of_write es d.winning (write_of es d.winning) ≡ Some m =
      ap (λ (xs : List Entry). marks.mark_of_write xs d.winning (write_of es d.winning)) (sym (all_up_to es (length older + 1) (omega arith)))
      ∙ is_this (marked_up_to es d.winning (length older + 1)) n is in
      record {
        doc = mark.doc;
        was = old.now;
        now = new.now;
        was_is = old.now_is;
        now_is = new.now_is;
        last = sym old.now_seq;
        before = sym old.now_channels;
        after =
            ap marked_channels (sym (newest_mark n ∙ at))
            ∙ of_marked laws.effects es d.winning m (write_of es d.winning) (λ w after. laws.there es w m after) marked
            ∙ sym new.now_channels;
      }

  one_move : (mark : Mark) (n : ℕ) → slice_get sync.marks n ≡ Some mark → (o : Option Document) → document_at (e ∷ older) mark.doc ≡ o → AreMoves older (e ∷ older) (move_by older (e ∷ older) mark n o)
  one_move mark n at None here = tt
  one_move mark n at (Some d) here = by (is_mark (marked_up_to (e ∷ older) d.winning (length (e ∷ older))) (length (e ∷ older)) n) refl
    where
      by : (b : Bool) → is_mark (marked_up_to (e ∷ older) d.winning (length (e ∷ older))) (length (e ∷ older)) n ≡ b
          → AreMoves older (e ∷ older) (if b then record { last = d.last; before = channels_at older d.winning; after = mark.channels } ∷ [] else [])
      by true is = (move_is mark n at d here (ap (λ (k : ℕ). is_mark (marked_up_to (e ∷ older) d.winning k) k n) (sym one_more) ∙ is), tt)
      by false is = tt

  pub all_moves : (rest : List Mark) (n : ℕ) → drop n sync.marks ≡ rest → AreMoves older (e ∷ older) (moves_of older (e ∷ older) rest n)
  all_moves [] n is = tt
  all_moves (mark ∷ rest) n is =
      let at = numbered sync.marks n mark rest is in
      both_moves older (e ∷ older) (move_of older (e ∷ older) mark n) (moves_of older (e ∷ older) rest (n + 1))
      (one_move mark n at.0 (document_at (e ∷ older) mark.doc) refl) (all_moves rest (n + 1) at.1)

  -- what is so of the mark of a number, counted from another
  abbrev MovesFrom : List Mark → ℕ → List ℕ → RevId → Document → Type 0
  MovesFrom rest n doc rev d = (i : ℕ) → marked_up_to (e ∷ older) d.winning (length older + 1) ≡ Some (record { sync = length older + 1; mark = n + i }) → mark_place rest doc rev ≡ Some i
      → is_moved (moves_of older (e ∷ older) rest n) d.last ≡ true

  -- the mark of a document's winner moves it
  moved_there : (rest : List Mark) (n j : ℕ) (doc : List ℕ) (rev : RevId) (d : Document) → document_at (e ∷ older) doc ≡ Some d
      → marked_up_to (e ∷ older) d.winning (length older + 1) ≡ Some (record { sync = length older + 1; mark = n + j }) → mark_place rest doc rev ≡ Some j
      → is_moved (moves_of older (e ∷ older) rest n) d.last ≡ true
  moved_there [] n j doc rev d here marked place = absurd (none-some j place)
  moved_there (mark ∷ rest) n j doc rev d here marked place =
      list_any-append (λ (m : Move). nat_eq d.last m.last) (move_of older (e ∷ older) mark n) (moves_of older (e ∷ older) rest (n + 1))
      ∙ by (marks_rev mark doc rev) refl place (λ i is at. moved_there rest (n + 1) i doc rev d here is at)
    where
      first : j ≡ 0 → mark.doc ≡ doc → is_moved (move_of older (e ∷ older) mark n) d.last ≡ true
      first none same =
          ap (λ (o : Option Document). is_moved (move_by older (e ∷ older) mark n o) d.last) (ap (document_at (e ∷ older)) same ∙ here)
          ∙ ap (λ (b : Bool). is_moved (if b then record { last = d.last; before = channels_at older d.winning; after = mark.channels } ∷ [] else []) d.last)
          (ap (λ (k : ℕ). is_mark (marked_up_to (e ∷ older) d.winning k) k n) one_more
          ∙ ap (λ (o : Option Marked). is_mark o (length older + 1) n) marked
          ∙ ap (λ (b : Bool). b && nat_eq (n + j) n) (eq-eqb (length older + 1) (length older + 1) refl)
          ∙ eq-eqb (n + j) n (omega (arith, none)))
          ∙ ap (λ (b : Bool). b || false) (eq-eqb d.last d.last refl)

      next : (o : Option ℕ) → mark_place rest doc rev ≡ o → option_map suc o ≡ Some j → MovesFrom rest (n + 1) doc rev d → is_moved (moves_of older (e ∷ older) rest (n + 1)) d.last ≡ true
      next None at is later = absurd (none-some j is)
      next (Some i) at is later =
          let more : n + j ≡ n + 1 + i = omega (arith, same_Some (suc i) j is) in
          later i (marked ∙ ap (λ (p : ℕ). Some (record { sync = length older + 1; mark = p })) more) at

      by : (b : Bool) → marks_rev mark doc rev ≡ b → (if b then Some 0 else option_map suc (mark_place rest doc rev)) ≡ Some j → MovesFrom rest (n + 1) doc rev d
          → (is_moved (move_of older (e ∷ older) mark n) d.last || is_moved (moves_of older (e ∷ older) rest (n + 1)) d.last) ≡ true
      by true same place later =
          ap (λ (b : Bool). b || is_moved (moves_of older (e ∷ older) rest (n + 1)) d.last)
          (first (sym (same_Some 0 j place)) ((bytes_decides mark.doc doc).0 (both (bytes_eq mark.doc doc) (same_rev mark.rev rev) same).0))
      by false other place later =
          ap (λ (b : Bool). is_moved (move_of older (e ∷ older) mark n) d.last || b) (next (mark_place rest doc rev) refl place later)
          ∙ or_true (is_moved (move_of older (e ∷ older) mark n) d.last)

  -- a mark of a revision has a place
  has_place : (l : List Mark) (doc : List ℕ) (rev : RevId) (mark : Mark) → mark_of l doc rev ≡ Some mark → (j : ℕ) × (mark_place l doc rev ≡ Some j)
  has_place [] doc rev mark is = absurd (none-some mark is)
  has_place (x ∷ xs) doc rev mark is = by (marks_rev x doc rev) is (λ h. has_place xs doc rev mark h)
    where
      by : (b : Bool) → (if b then Some x else mark_of xs doc rev) ≡ Some mark → (mark_of xs doc rev ≡ Some mark → (j : ℕ) × (mark_place xs doc rev ≡ Some j))
          → (j : ℕ) × ((if b then Some 0 else option_map suc (mark_place xs doc rev)) ≡ Some j)
      by true is rest = (0, refl)
      by false is rest = let one = rest is in (suc one.0, ap (option_map suc) one.1)

  -- a document whose winner has a mark moves
  pub marked_moves : (doc : List ℕ) (c : Current) (mark : Mark) → current older doc ≡ Some c → mark_by e doc c.rev ≡ Some mark → is_moved (moves_of older (e ∷ older) sync.marks 0) c.seq ≡ true
  marked_moves doc c mark now is =
      let es = e ∷ older in
      let one : IsCurrent older doc c = is_current older doc c now in
      let d = one.d in
      let old : IsDocument older doc d = is_document older doc d one.d_is in
      let here : document_at es doc ≡ Some d = stays doc ∙ one.d_is in
      let same : old.now ≡ c = same_Some old.now c (sym old.now_is ∙ now) in
      let w = old.winner in
      let rev : c.rev ≡ w.write.rev = ap (λ (x : Current). x.rev) (sym same) ∙ old.now_rev in
      let place = has_place sync.marks doc c.rev mark (sym (ap (λ (o : Option SyncEntry). mark_in o doc c.rev) replaces) ∙ is) in
      let written : write_of es d.winning ≡ Some w.write =
      ap (λ (n : ℕ). write_of es n) old.winning
      ∙ write_other e older w.seq (λ beyond. omega (arith, beyond, old.won.high))
      ∙ old.won.there in
      let after : marked_after es (record { seq = d.winning; write = w.write }) ≡ Some (record { sync = length older + 1; mark = place.0 }) =
      ap (λ (b : Bool). if b then None else marked_or (place_by e w.write.doc w.write.rev) (length older + 1) (marked_after older (record { seq = d.winning; write = w.write })))
      (below (length older + 1) d.winning (nat_le (length older + 1) d.winning) refl (omega (arith, old.winning, old.won.high)))
      ∙ ap (λ (o : Option ℕ). marked_or o (length older + 1) (marked_after older (record { seq = d.winning; write = w.write })))
      (ap (λ (o : Option SyncEntry). place_in o w.write.doc w.write.rev) replaces
      ∙ ap (λ (n : List ℕ). mark_place sync.marks n w.write.rev) old.won.doc_is
      ∙ ap (λ (r : RevId). mark_place sync.marks doc r) (sym rev)
      ∙ place.1) in
      let from_first : place.0 ≡ 0 + place.0 = omega arith in
      let marked : marked_up_to es d.winning (length older + 1) ≡ Some (record { sync = length older + 1; mark = 0 + place.0 }) =
      ap (λ (xs : List Entry). marks.mark_of_write xs d.winning (write_of es d.winning)) (all_up_to es (length older + 1) (omega arith))
      ∙ ap (λ (o : Option Write). marks.mark_of_write es d.winning o) written
      ∙ after
      ∙ ap (λ (p : ℕ). Some (record { sync = length older + 1; mark = p })) from_first in
      ap (is_moved (moves_of older es sync.marks 0)) (ap (λ (x : Current). x.seq) (sym same) ∙ old.now_seq)
      ∙ moved_there sync.marks 0 place.0 doc c.rev d here marked place.1
    where
      below : (n m : ℕ) (b : Bool) → nat_le n m ≡ b → m < n → nat_le n m ≡ false
      below n m false is lower = is
      below n m true is lower = absurd (omega (arith, lower, leb-true n m is))

  -- the document of a move is that whose last write it has
  moves_doc : (m : Move) (move : IsMove older (e ∷ older) m) (s : ℕ) → nat_eq s m.last ≡ true → (v : Write) × (write_of older s ≡ Some v) × (v.doc ≡ move.doc) × (s ≡ move.was.seq)
  moves_doc m move s same =
      let one : IsCurrent older move.doc move.was = is_current older move.doc move.was move.was_is in
      let old : IsDocument older move.doc one.d = is_document older move.doc one.d one.d_is in
      let seq : s ≡ move.was.seq = eqb-true s m.last same ∙ move.last in
      let at : s ≡ old.last.seq = seq ∙ ap (λ (x : Current). x.seq) (same_Some move.was old.now (sym move.was_is ∙ old.now_is)) ∙ old.now_seq ∙ old.seq in
      (old.last.write, ap (write_of older) at ∙ old.at.there, old.at.doc_is, seq)

  -- where no document has its last write there, none moves by it
  none_moved : (s : ℕ) → ((v : Write) (was : Current) → write_of older s ≡ Some v → current older v.doc ≡ Some was → was.seq ≡ s → ⊥) → (moves : List Move) → AreMoves older (e ∷ older) moves → is_moved moves s ≡ false
  none_moved s dead [] are = refl
  none_moved s dead (m ∷ moves) are = by (nat_eq s m.last) refl (none_moved s dead moves are.1)
    where
      by : (b : Bool) → nat_eq s m.last ≡ b → is_moved moves s ≡ false → (b || is_moved moves s) ≡ false
      by false same rest = rest
      by true same rest =
          let one = moves_doc m are.0 s same in
          absurd (dead one.0 are.0.was one.1 (ap (current older) one.2 ∙ are.0.was_is) (sym one.3))

  -- what leaves and enters where none moves
  leaves_none : (moves : List Move) (c : List ℕ) (s : ℕ) → is_moved moves s ≡ false → leaves moves c s ≡ false
  leaves_none [] c s none = refl
  leaves_none (m ∷ moves) c s none = by (nat_eq s m.last) refl none (λ h. leaves_none moves c s h)
    where
      by : (b : Bool) → nat_eq s m.last ≡ b → (b || is_moved moves s) ≡ false → (is_moved moves s ≡ false → leaves moves c s ≡ false)
          → (((among m.before c && not (bytes_eq every c)) && nat_eq s m.last) || leaves moves c s) ≡ false
      by true same none rest = absurd (true≢false none)
      by false same none rest =
          ap (λ (b : Bool). ((among m.before c && not (bytes_eq every c)) && b) || leaves moves c s) same
          ∙ ap (λ (b : Bool). b || leaves moves c s) (and_false (among m.before c && not (bytes_eq every c)))
          ∙ rest none

  enters_none : (moves : List Move) (c : List ℕ) (s : ℕ) → is_moved moves s ≡ false → enters moves c s ≡ false
  enters_none [] c s none = refl
  enters_none (m ∷ moves) c s none = by (nat_eq s m.last) refl none (λ h. enters_none moves c s h)
    where
      by : (b : Bool) → nat_eq s m.last ≡ b → (b || is_moved moves s) ≡ false → (is_moved moves s ≡ false → enters moves c s ≡ false) → ((among m.after c && nat_eq s m.last) || enters moves c s) ≡ false
      by true same none rest = absurd (true≢false none)
      by false same none rest =
          ap (λ (b : Bool). (among m.after c && b) || enters moves c s) same
          ∙ ap (λ (b : Bool). b || enters moves c s) (and_false (among m.after c))
          ∙ rest none

  -- and where the last write of a document is
  module _ (s : ℕ) (v : Write) (was now : Current) (at : write_of older s ≡ Some v) (was_is : current older v.doc ≡ Some was) (now_is : current (e ∷ older) v.doc ≡ Some now) where
    same_move : (m : Move) → IsMove older (e ∷ older) m → nat_eq s m.last ≡ true → (m.before ≡ was.effects.channels) × (m.after ≡ now.effects.channels)
    same_move m move same =
        let one = moves_doc m move s same in
        let doc : move.doc ≡ v.doc = sym one.2 ∙ ap (λ (w : Write). w.doc) (same_Some one.0 v (sym one.1 ∙ at)) in (
          move.before ∙ ap (λ (x : Current). x.effects.channels) (same_Some move.was was (sym move.was_is ∙ ap (current older) doc ∙ was_is)),
          move.after ∙ ap (λ (x : Current). x.effects.channels) (same_Some move.now now (sym move.now_is ∙ ap (current (e ∷ older)) doc ∙ now_is)),
        )

    abbrev left_there : List ℕ → Bool
    left_there c = among was.effects.channels c && not (bytes_eq every c)

    leaves_all : (moves : List Move) → AreMoves older (e ∷ older) moves → (c : List ℕ) → leaves moves c s ≡ (is_moved moves s && left_there c)
    leaves_all [] are c = refl
    leaves_all (m ∷ moves) are c = by (nat_eq s m.last) refl (leaves_all moves are.1 c)
      where
        absorbs : (x y : Bool) → ((x && true) || (y && x)) ≡ x
        absorbs true y = refl
        absorbs false y = and_false y

        by : (b : Bool) → nat_eq s m.last ≡ b → leaves moves c s ≡ (is_moved moves s && left_there c) → (((among m.before c && not (bytes_eq every c)) && nat_eq s m.last) || leaves moves c s) ≡ ((b || is_moved moves s) && left_there c)
        by true same rest =
            ap (λ (b : Bool). ((among m.before c && not (bytes_eq every c)) && b) || leaves moves c s) same
            ∙ ap (λ (l : List (List ℕ)). ((among l c && not (bytes_eq every c)) && true) || leaves moves c s) (same_move m are.0 same).0
            ∙ ap (λ (b : Bool). (left_there c && true) || b) rest
            ∙ absorbs (left_there c) (is_moved moves s)
        by false same rest =
            ap (λ (b : Bool). ((among m.before c && not (bytes_eq every c)) && b) || leaves moves c s) same
            ∙ ap (λ (b : Bool). b || leaves moves c s) (and_false (among m.before c && not (bytes_eq every c)))
            ∙ rest

    enters_all : (moves : List Move) → AreMoves older (e ∷ older) moves → (c : List ℕ) → enters moves c s ≡ (is_moved moves s && among now.effects.channels c)
    enters_all [] are c = refl
    enters_all (m ∷ moves) are c = by (nat_eq s m.last) refl (enters_all moves are.1 c)
      where
        absorbs : (x y : Bool) → ((x && true) || (y && x)) ≡ x
        absorbs true y = refl
        absorbs false y = and_false y

        by : (b : Bool) → nat_eq s m.last ≡ b → enters moves c s ≡ (is_moved moves s && among now.effects.channels c) → ((among m.after c && nat_eq s m.last) || enters moves c s) ≡ ((b || is_moved moves s) && among now.effects.channels c)
        by true same rest =
            ap (λ (b : Bool). (among m.after c && b) || enters moves c s) same
            ∙ ap (λ (l : List (List ℕ)). (among l c && true) || enters moves c s) (same_move m are.0 same).1
            ∙ ap (λ (b : Bool). (among now.effects.channels c && true) || b) rest
            ∙ absorbs (among now.effects.channels c) (is_moved moves s)
        by false same rest =
            ap (λ (b : Bool). (among m.after c && b) || enters moves c s) same
            ∙ ap (λ (b : Bool). b || enters moves c s) (and_false (among m.after c))
            ∙ rest

  -- the lists over the replacement
  module _ (old : Lists) (lists : AreLists older old) (c : List ℕ) (s : ℕ)
      (was_kept : is_kept old c ≡ true) where
    abbrev es : List Entry
    es = e ∷ older

    abbrev moves : List Move
    moves = moves_of older es sync.marks 0

    are : AreMoves older es moves
    are = all_moves sync.marks 0 refl

    -- what is made of the list
    abbrev made : Bool
    made = (holds_of old c s && not (leaves moves c s)) || enters moves c s

    -- where none moves
    unmoved : is_moved moves s ≡ false → made ≡ holds_of old c s
    unmoved none =
        ap (λ (b : Bool). (holds_of old c s && not b) || enters moves c s) (leaves_none moves c s none)
        ∙ ap (λ (b : Bool). (holds_of old c s && true) || b) (enters_none moves c s none)
        ∙ or_false (holds_of old c s && true)
        ∙ and_true (holds_of old c s)

    last : (o : Option Write) → write_of older s ≡ o → is_last (next_at es s) ≡ is_last (next_at older s)
    last o at = last_more e older s ∙ ap (λ (o : Option Write). is_last (next_at older s) && not (is_some (written_again e o))) at ∙ own o
      where
        own : (o : Option Write) → (is_last (next_at older s) && not (is_some (written_again e o))) ≡ is_last (next_at older s)
        own None = and_true (is_last (next_at older s))
        own (Some v) = ap (λ (o : Option Write). is_last (next_at older s) && not (is_some o)) (writes_none v.doc) ∙ and_true (is_last (next_at older s))

    -- what is in no list before and after
    dead : ((v : Write) (x : Current) → write_of older s ≡ Some v → current older v.doc ≡ Some x → x.seq ≡ s → ⊥) → is_in_list older (c ∷ []) s ≡ is_in_list es (c ∷ []) s → (made && is_last (next_at es s)) ≡ is_in_list es (c ∷ []) s
    dead none same =
        ap (λ (b : Bool). b && is_last (next_at es s)) (unmoved (none_moved s none moves are))
        ∙ ap (λ (b : Bool). holds_of old c s && b) (last (write_of older s) refl)
        ∙ lists c s was_kept
        ∙ same

    -- a document by its last write
    module _ (v : Write) (x : Current) (other : s ≢ length older + 1) (at : write_of older s ≡ Some v) (now : current older v.doc ≡ Some x) (seq : nat_eq x.seq s ≡ true) where
      there : write_of es s ≡ Some v
      there = write_other e older s other ∙ at

      more : current es v.doc ≡ Some (marked_state (mark_by e v.doc x.rev) x)
      more = laws.unwritten e older v.doc (writes_none v.doc) ∙ ap (marked_by e v.doc) now

      had : (holds_of old c s && is_last (next_at older s)) ≡ is_in c x
      had =
          lists c s was_kept
          ∙ ap (λ (o : Option Write). is_listed_by older (c ∷ []) s o) at
          ∙ ap (λ (o : Option Current). is_listed (c ∷ []) s o) now
          ∙ ap (λ (b : Bool). b && is_in_one (c ∷ []) x) seq
          ∙ or_false (is_in c x)

      alone : is_last (next_at older s) ≡ true
      alone =
          let one : IsCurrent older v.doc x = is_current older v.doc x now in
          let d : IsDocument older v.doc one.d = is_document older v.doc one.d one.d_is in
          let same : d.now ≡ x = same_Some d.now x (sym d.now_is ∙ now) in
          let here : last_kept (document_at older v.doc) ≡ s = ap last_kept one.d_is ∙ sym d.now_seq ∙ ap (λ (y : Current). y.seq) same ∙ eqb-true x.seq s seq in
          ap is_last (last_writes_it older v.doc s here (omega (arith, here, ap last_kept one.d_is, d.seq, d.at.low))).none

      held : holds_of old c s ≡ is_in c x
      held = sym (and_true (holds_of old c s)) ∙ ap (λ (b : Bool). holds_of old c s && b) (sym alone) ∙ had

      whole : (y : Current) → current es v.doc ≡ Some y → y.seq ≡ x.seq → made ≡ is_in c y → (made && is_last (next_at es s)) ≡ is_in_list es (c ∷ []) s
      whole y is same in_it =
          ap (λ (b : Bool). made && b) (last (write_of older s) refl ∙ alone)
          ∙ and_true (made)
          ∙ in_it
          ∙ sym (or_false (is_in c y))
          ∙ ap (λ (b : Bool). b && is_in_one (c ∷ []) y) (sym (ap (λ (n : ℕ). nat_eq n s) same ∙ seq))
          ∙ ap (λ (o : Option Current). is_listed (c ∷ []) s o) (sym is)
          ∙ ap (λ (o : Option Write). is_listed_by es (c ∷ []) s o) (sym there)

      state_seq : (o : Option Mark) → (marked_state o x).seq ≡ x.seq
      state_seq None = refl
      state_seq (Some mark) = refl

      swap : (every_one in_old in_new : Bool) → (((every_one || in_old) && not (in_old && not every_one)) || in_new) ≡ (every_one || in_new)
      swap true true in_new = refl
      swap true false in_new = refl
      swap false true in_new = refl
      swap false false in_new = refl

      live : (b : Bool) → is_moved moves s ≡ b → (made && is_last (next_at es s)) ≡ is_in_list es (c ∷ []) s
      live true is =
          let y = marked_state (mark_by e v.doc x.rev) x in
          whole y more (state_seq (mark_by e v.doc x.rev))
          (ap (λ (b : Bool). (holds_of old c s && not b) || enters moves c s) (leaves_all s v x y at now more moves are c ∙ ap (λ (b : Bool). b && (among x.effects.channels c && not (bytes_eq every c))) is)
          ∙ ap (λ (b : Bool). (holds_of old c s && not (among x.effects.channels c && not (bytes_eq every c))) || b) (enters_all s v x y at now more moves are c ∙ ap (λ (b : Bool). b && among y.effects.channels c) is)
          ∙ ap (λ (b : Bool). (b && not (among x.effects.channels c && not (bytes_eq every c))) || among y.effects.channels c) held
          ∙ swap (bytes_eq every c) (among x.effects.channels c) (among y.effects.channels c))
      live false none = unmarked (mark_by e v.doc x.rev) refl
        where
          unmarked : (o : Option Mark) → mark_by e v.doc x.rev ≡ o → (made && is_last (next_at es s)) ≡ is_in_list es (c ∷ []) s
          unmarked None is = whole x (more ∙ ap (λ (o : Option Mark). Some (marked_state o x)) is) refl (unmoved none ∙ held)
          unmarked (Some mark) is =
              absurd (true≢false (sym (ap (is_moved moves) (sym (eqb-true x.seq s seq)) ∙ marked_moves v.doc x mark now is) ∙ none))

    stepped : (b : Bool) → nat_eq s (length older + 1) ≡ b → (made && is_last (next_at es s)) ≡ is_in_list es (c ∷ []) s
    stepped true there =
        let here : s ≡ length older + 1 = eqb-true s (length older + 1) there in
        let none : write_of older s ≡ None = not_there older s (omega (arith, here)) in
        dead (λ v x at now seq. none-some v (sym none ∙ at))
        (ap (λ (o : Option Write). is_listed_by older (c ∷ []) s o) none ∙ ap (λ (o : Option Write). is_listed_by es (c ∷ []) s o) (sym (at_newest e older s here ∙ plain)))
    stepped false there =
        let other : s ≢ length older + 1 = λ same. true≢false (sym (eq-eqb s (length older + 1) same) ∙ there) in
        by_write other (write_of older s) refl
      where
        by_seq : s ≢ length older + 1 → (v : Write) (x : Current) → write_of older s ≡ Some v → current older v.doc ≡ Some x → (b : Bool) → nat_eq x.seq s ≡ b → (made && is_last (next_at es s)) ≡ is_in_list es (c ∷ []) s
        by_seq other v x at now true seq = live v x other at now seq (is_moved moves s) refl
        by_seq other v x at now false seq =
            dead (λ w y written is same. true≢false (sym (eq-eqb x.seq s (ap (λ (z : Current). z.seq) (same_Some x y (sym now ∙ ap (λ (u : Write). current older u.doc) (same_Some v w (sym at ∙ written)) ∙ is)) ∙ same)) ∙ seq))
            (ap (λ (o : Option Write). is_listed_by older (c ∷ []) s o) at
            ∙ ap (λ (o : Option Current). is_listed (c ∷ []) s o) now
            ∙ ap (λ (b : Bool). b && is_in_one (c ∷ []) x) seq
            ∙ sym (ap (λ (o : Option Write). is_listed_by es (c ∷ []) s o) (write_other e older s other ∙ at)
            ∙ ap (λ (o : Option Current). is_listed (c ∷ []) s o) (more_of v x now)
            ∙ ap (λ (b : Bool). b && is_in_one (c ∷ []) (marked_state (mark_by e v.doc x.rev) x)) (ap (λ (n : ℕ). nat_eq n s) (seq_of (mark_by e v.doc x.rev) x) ∙ seq)))
          where
            more_of : (v : Write) (x : Current) → current older v.doc ≡ Some x → current es v.doc ≡ Some (marked_state (mark_by e v.doc x.rev) x)
            more_of v x now = laws.unwritten e older v.doc (writes_none v.doc) ∙ ap (marked_by e v.doc) now

            seq_of : (o : Option Mark) (x : Current) → (marked_state o x).seq ≡ x.seq
            seq_of None x = refl
            seq_of (Some mark) x = refl

        by_state : s ≢ length older + 1 → (v : Write) (o : Option Current) → write_of older s ≡ Some v → current older v.doc ≡ o → (made && is_last (next_at es s)) ≡ is_in_list es (c ∷ []) s
        by_state other v (Some x) at now = by_seq other v x at now (nat_eq x.seq s) refl
        by_state other v None at now =
            dead (λ w y written is same. none-some y (sym now ∙ ap (λ (u : Write). current older u.doc) (same_Some v w (sym at ∙ written)) ∙ is))
            (ap (λ (o : Option Write). is_listed_by older (c ∷ []) s o) at
            ∙ ap (λ (o : Option Current). is_listed (c ∷ []) s o) now
            ∙ sym (ap (λ (o : Option Write). is_listed_by es (c ∷ []) s o) (write_other e older s other ∙ at)
            ∙ ap (λ (o : Option Current). is_listed (c ∷ []) s o) (laws.unwritten e older v.doc (writes_none v.doc) ∙ ap (marked_by e v.doc) now)))

        by_write : s ≢ length older + 1 → (o : Option Write) → write_of older s ≡ o → (made && is_last (next_at es s)) ≡ is_in_list es (c ∷ []) s
        by_write other (Some v) at = by_state other v (current older v.doc) at refl
        by_write other None none =
            dead (λ v x at now seq. none-some v (sym none ∙ at))
            (ap (λ (o : Option Write). is_listed_by older (c ∷ []) s o) none ∙ ap (λ (o : Option Write). is_listed_by es (c ∷ []) s o) (sym (write_other e older s other ∙ none)))

  pub sync_step : (counts : ℕ → Bool) → ((s : ℕ) → counts s ≡ is_last (next_at (e ∷ older) s)) → (old mid new : Lists) → Changed old mid (left_by (moves_of older (e ∷ older) sync.marks 0))
      → Counted counts mid new (entered_by (moves_of older (e ∷ older) sync.marks 0)) → AreLists older old → AreLists (e ∷ older) new
  sync_step counts same old mid new first second lists c s kept =
      let moves = moves_of older (e ∷ older) sync.marks 0 in
      let mid_kept : is_kept mid c ≡ true = sym (kept_same mid new second.keys c) ∙ kept in
      let was_kept : is_kept old c ≡ true = sym (kept_same old mid first.keys c) ∙ mid_kept in
      counts_last (e ∷ older) counts same mid new (entered_by moves) second c s mid_kept
      ∙ ap (λ (b : Bool). (b || enters moves c s) && is_last (next_at (e ∷ older) s)) (first.holds c s was_kept)
      ∙ stepped old lists c s was_kept (nat_eq s (length older + 1)) refl
