-- what the marks of a replaced sync function renew
use Rattle.std.proofs.Common.{◌≡◌, ◌≢◌, ◌<◌, ◌≤◌, ◌+◌, ℕ, zero, suc, refl, sym, ◌∙◌, ap, arith, Bool, true, false, ◌&&◌, ◌||◌, if◌then◌else◌, List, [], ◌∷◌, length, Option, Some, None, nat_eq}
use Rattle.std.specs.Prelude.{is_some, nat_le, nat_lt, option_map, slice_get}
use Rattle.std.specs.Str.{bytes_eq}
use Rattle.std.specs.Cmp.Lexicographic.{bytes_decides}
use Rattle.std.proofs.lemmas.Bool.{eq-eqb, false≢true, le-ltb, leb-true, lt-ltb, ltb-false, ltb-true, ne_eqb, true≢false}
use Rattle.std.proofs.lemmas.Option.{none-some, same_Some}
use Rattle.sg_names.specs.RevId.{same_rev}
use Rattle.sg_names.specs.declared.rev_id.RevId.{RevId}
use Rattle.sg_history.specs.declared.entries.Entry.{Entry}
use Rattle.sg_history.specs.declared.entries.Mark.{Mark}
use Rattle.sg_history.specs.declared.entries.Write.{Write}
use Rattle.sg_history.specs.History.{SyncEntry, as_sync, as_write, of_document, write_to}
use Rattle.sg_history.specs.Current.{Current, Sequenced, current, current_after, mark_in, mark_of, marks_rev}
use Rattle.log_index.specs.declared.documents.Document.{Document}
use Rattle.log_index.specs.declared.marks.Marked.{Marked}
use Rattle.log_index.specs.Marks.{is_mark, mark_place, marked_after, mark_of_write, marked_or, marked_up_to, place_by, place_in, write_of}
use Rattle.log_index.specs.Places.{document_at}
use Rattle.log_index.proofs.GoingBack.{all_up_to}
use Rattle.log_index.proofs.Nexts.{stays_at}
use Rattle.log_views.proofs.Placed.{nothing}
use Rattle.channel_cache.proofs.Standing.{IsDocument, is_document}
use Rattle.channel_cache.proofs.Stepping.{write_other}
use Rattle.feed_rows.specs.Known.{marks_winner, renews}
use Rattle.changes_feed.specs.inner.Amid.{is_before, taken, winner_place, with_one}

-- ---- the place of a mark

some_place : (o : Option ℕ) → is_some (option_map suc o) ≡ is_some o
some_place None = refl
some_place (Some k) = refl

placed : (marks : List Mark) (doc : List ℕ) (rev : RevId) → is_some (mark_of marks doc rev) ≡ is_some (mark_place marks doc rev)
placed [] doc rev = refl
placed (m ∷ marks) doc rev = go (marks_rev m doc rev) (placed marks doc rev)
  where
    go : (b : Bool) → is_some (mark_of marks doc rev) ≡ is_some (mark_place marks doc rev) → is_some (if b then Some m else mark_of marks doc rev) ≡ is_some (if b then Some 0 else option_map suc (mark_place marks doc rev))
    go true rest = refl
    go false rest = rest ∙ sym (some_place (mark_place marks doc rev))

both : (a b : Bool) → (a && b) ≡ true → a ≡ true
both true b h = refl
both false b h = absurd (false≢true h)

-- the mark at the place of a revision is one of its document
place_there : (marks : List Mark) (doc : List ℕ) (rev : RevId) (p : ℕ) → mark_place marks doc rev ≡ Some p → (mark : Mark) × (slice_get marks p ≡ Some mark) × (mark.doc ≡ doc)
place_there [] doc rev p is = absurd (none-some p is)
place_there (m ∷ marks) doc rev p is = by (marks_rev m doc rev) refl is (λ q h. place_there marks doc rev q h)
  where
    later : (o : Option ℕ) → mark_place marks doc rev ≡ o → option_map suc o ≡ Some p → ((q : ℕ) → mark_place marks doc rev ≡ Some q → (mark : Mark) × (slice_get marks q ≡ Some mark) × (mark.doc ≡ doc)) → (mark : Mark) × (slice_get (m ∷ marks) p ≡ Some mark) × (mark.doc ≡ doc)
    later None h is rest = absurd (none-some p is)
    later (Some q) h is rest =
        let one = rest q h in
        (one.0, ap (slice_get (m ∷ marks)) (sym (same_Some (suc q) p is)) ∙ one.1, one.2)

    by : (b : Bool) → marks_rev m doc rev ≡ b → (if b then Some 0 else option_map suc (mark_place marks doc rev)) ≡ Some p → ((q : ℕ) → mark_place marks doc rev ≡ Some q → (mark : Mark) × (slice_get marks q ≡ Some mark) × (mark.doc ≡ doc))
        → (mark : Mark) × (slice_get (m ∷ marks) p ≡ Some mark) × (mark.doc ≡ doc)
    by true same is rest =
        (m, ap (slice_get (m ∷ marks)) (sym (same_Some 0 p is)), (bytes_decides m.doc doc).0 (both (bytes_eq m.doc doc) (same_rev m.rev rev) same))
    by false other is rest = later (mark_place marks doc rev) refl is rest

pub winner_there : (marks : List Mark) (doc : List ℕ) (now : Option Current) (p : ℕ) → winner_place marks doc now ≡ Some p → (mark : Mark) × (slice_get marks p ≡ Some mark) × (mark.doc ≡ doc)
winner_there marks doc None p is = absurd (none-some p is)
winner_there marks doc (Some c) p is = place_there marks doc c.rev p is

within : (marks : List Mark) (p : ℕ) (mark : Mark) → slice_get marks p ≡ Some mark → p < length marks
within [] p mark is = absurd (none-some mark is)
within (m ∷ marks) zero mark is = omega arith
within (m ∷ marks) (suc p) mark is = omega (arith, within marks p mark is)

-- ---- an entry that replaces the sync function

abbrev pub is_place : Option ℕ → ℕ → Bool
is_place None number = false
is_place (Some place) number = nat_eq place number

module _ (e : Entry) (older : List Entry) (sync : SyncEntry) (replaces : as_sync e ≡ Some sync) (plain : as_write e ≡ None) where
  unwritten : (doc : List ℕ) → write_to e doc ≡ None
  unwritten doc = ap (λ (o : Option Write). of_document o doc) plain

  -- it renews a document where its winner has a mark
  pub renews_is : (doc : List ℕ) → renews e older doc ≡ is_some (winner_place sync.marks doc (current older doc))
  renews_is doc = ap (λ (o : Option Write). is_some o || marks_winner e doc (current older doc)) (unwritten doc) ∙ by (current older doc)
    where
      by : (o : Option Current) → marks_winner e doc o ≡ is_some (winner_place sync.marks doc o)
      by None = refl
      by (Some c) = ap (λ (o : Option SyncEntry). is_some (mark_in o doc c.rev)) replaces ∙ placed sync.marks doc c.rev

  -- it leaves documents where they stand
  pub stays : (doc : List ℕ) → document_at (e ∷ older) doc ≡ document_at older doc
  stays doc = stays_at e older doc (unwritten doc)

  pub nowhere : (doc : List ℕ) → document_at (e ∷ older) doc ≡ None → winner_place sync.marks doc (current older doc) ≡ None
  nowhere doc none =
      ap (λ (o : Option Sequenced). winner_place sync.marks doc (current_after older doc o)) (nothing older doc (sym (stays doc) ∙ none))

  -- the winner's last mark up to the entry is this one where that is its place
  module _ (bound : (es : List Entry) (w : Sequenced) (m : Marked) → marked_after es w ≡ Some m → m.sync ≤ length es) where
    module _ (doc : List ℕ) (d : Document) (number : ℕ) (here : document_at (e ∷ older) doc ≡ Some d) where
      abbrev es : List Entry
      es = e ∷ older

      abbrev old : IsDocument older doc d
      old = is_document older doc d (sym (stays doc) ∙ here)

      abbrev w : Sequenced
      w = old.winner

      abbrev this : Sequenced
      this = record { seq = d.winning; write = w.write }

      written : write_of es d.winning ≡ Some w.write
      written =
          ap (λ (n : ℕ). write_of es n) old.winning
          ∙ write_other e older w.seq (λ beyond. omega (arith, beyond, old.won.high))
          ∙ old.won.there

      below : (b : Bool) → nat_le (length older + 1) d.winning ≡ b → b ≡ false
      below false is = refl
      below true is = absurd (omega (arith, old.winning, old.won.high, leb-true (length older + 1) d.winning is))

      after : marked_up_to es d.winning (length es) ≡ marked_or (mark_place sync.marks doc w.write.rev) (length older + 1) (marked_after older this)
      after =
          ap (λ (xs : List Entry). mark_of_write xs d.winning (write_of es d.winning)) (all_up_to es (length es) (omega arith))
          ∙ ap (λ (o : Option Write). mark_of_write es d.winning o) written
          ∙ ap (λ (b : Bool). if b then None else marked_or (place_by e w.write.doc w.write.rev) (length older + 1) (marked_after older this)) (below (nat_le (length older + 1) d.winning) refl)
          ∙ ap (λ (o : Option SyncEntry). marked_or (place_in o w.write.doc w.write.rev) (length older + 1) (marked_after older this)) replaces
          ∙ ap (λ (n : List ℕ). marked_or (mark_place sync.marks n w.write.rev) (length older + 1) (marked_after older this)) old.won.doc_is

      by_place : (o : Option ℕ) (before : Option Marked) → ((m : Marked) → before ≡ Some m → m.sync ≤ length older) → is_mark (marked_or o (length older + 1) before) (length es) number ≡ is_place o number
      by_place (Some p) before bounded =
          ap (λ (b : Bool). b && nat_eq p number) (eq-eqb (length older + 1) (length es) (omega arith))
      by_place None None bounded = refl
      by_place None (Some m) bounded =
          let lower : m.sync ≤ length older = bounded m refl in
          ap (λ (b : Bool). b && nat_eq m.mark number) (ne_eqb m.sync (length es) (λ same. omega (arith, same, lower)))

      pub marked_is : is_mark (marked_up_to (e ∷ older) d.winning (length (e ∷ older))) (length (e ∷ older)) number ≡ is_place (winner_place sync.marks doc (current older doc)) number
      marked_is =
          ap (λ (o : Option Marked). is_mark o (length es) number) after
          ∙ by_place (mark_place sync.marks doc w.write.rev) (marked_after older this) (λ m is. bound older this m is)
          ∙ ap (λ (r : RevId). is_place (mark_place sync.marks doc r) number) (sym old.now_rev)
          ∙ ap (λ (o : Option Current). is_place (winner_place sync.marks doc o) number) (sym old.now_is)

-- ---- one mark more

before_more : (o : Option ℕ) (number : ℕ) → o ≢ Some number → is_before o number ≡ is_before o (number + 1)
before_more None number not = refl
before_more (Some p) number not = by (nat_lt p number) refl
  where
    by : (b : Bool) → nat_lt p number ≡ b → nat_lt p number ≡ nat_lt p (number + 1)
    by true is = is ∙ sym (lt-ltb p (number + 1) (omega (arith, ltb-true p number is)))
    by false is = is ∙ sym (le-ltb p (number + 1) (above (ltb-false p number is)))
      where
        other : p ≢ number
        other same = not (ap (λ (n : ℕ). Some n) same)

        above : number ≤ p → number + 1 ≤ p
        above le = omega (arith, le, other)

module _ (older : List Entry) (marks : List Mark) (number : ℕ) where
  abbrev place : List ℕ → Option ℕ
  place doc = winner_place marks doc (current older doc)

  -- the mark renews nothing
  pub none_more : ((doc : List ℕ) → place doc ≢ Some number) → (doc : List ℕ) → taken older marks number doc ≡ taken older marks (number + 1) doc
  none_more none doc = before_more (place doc) number (none doc)

  -- it renews a document
  module _ (doc : List ℕ) (is : place doc ≡ Some number) where
    pub not_yet : taken older marks number doc ≡ false
    not_yet = ap (λ (o : Option ℕ). is_before o number) is ∙ le-ltb number number (omega arith)

    pub one_more : ((other : List ℕ) → place other ≡ Some number → other ≡ doc) → (name : List ℕ) → with_one doc (taken older marks number) name ≡ taken older marks (number + 1) name
    one_more only name = by (bytes_eq name doc) refl
      where
        or_true : (a : Bool) → (a || true) ≡ true
        or_true true = refl
        or_true false = refl

        or_false : (a : Bool) → (a || false) ≡ a
        or_false true = refl
        or_false false = refl

        by : (b : Bool) → bytes_eq name doc ≡ b → (taken older marks number name || b) ≡ taken older marks (number + 1) name
        by true same =
            or_true (taken older marks number name)
            ∙ sym (ap (λ (n : List ℕ). taken older marks (number + 1) n) ((bytes_decides name doc).0 same) ∙ ap (λ (o : Option ℕ). is_before o (number + 1)) is ∙ lt-ltb number (number + 1) (omega arith))
        by false other =
            or_false (taken older marks number name)
            ∙ before_more (place name) number (λ h. true≢false (sym ((bytes_decides name doc).1 (only name h)) ∙ other))

pub none_first : (older : List Entry) (marks : List Mark) (doc : List ℕ) → false ≡ taken older marks 0 doc
none_first older marks doc = by (winner_place marks doc (current older doc))
  where
    by : (o : Option ℕ) → false ≡ is_before o 0
    by None = refl
    by (Some p) = sym (le-ltb p 0 (omega arith))

pub all_last : (older : List Entry) (marks : List Mark) (doc : List ℕ) (number : ℕ) → length marks ≤ number → taken older marks number doc ≡ false → is_some (winner_place marks doc (current older doc)) ≡ false
all_last older marks doc number high is = by (winner_place marks doc (current older doc)) refl is
  where
    by : (o : Option ℕ) → winner_place marks doc (current older doc) ≡ o → is_before o number ≡ false → is_some o ≡ false
    by None h is = refl
    by (Some p) h is =
        let one = winner_there marks doc (current older doc) p h in
        absurd (true≢false (sym (lt-ltb p number (omega (arith, high, within marks p one.0 one.1))) ∙ is))
