-- what a pass knows amid the marks of an entry
use Rattle.std.proofs.Common.{◌≡◌, ℕ, ◌+◌, ◌<◌, refl, sym, ◌∙◌, ap, subst, arith, Bool, true, false, ◌||◌, ◌&&◌, if◌then◌else◌, List, [], ◌∷◌, ◌++◌, length, map, Option, Some, None}
use Rattle.std.proofs.Math.Path.{fun_ext}
use Rattle.std.specs.Prelude.{is_some, nat_eq, not, slice_get, slice_set}
use Rattle.std.specs.Borrow.{Bor}
use Rattle.std.specs.BTreeMap.{BTreeMap}
use Rattle.std.specs.Str.{bytes_eq}
use Rattle.std.proofs.lemmas.Bool.{false≢true, and_from, and_parts, eq-eqb, eqb-true}
use Rattle.sg_names.specs.declared.rev_id.RevId.{RevId}
use Rattle.sg_names.specs.RevId.{same_rev}
use Rattle.sg_history.specs.declared.entries.Entry.{Entry}
use Rattle.sg_history.specs.declared.entries.Mark.{Mark}
use Rattle.sg_history.specs.declared.entries.Write.{Write}
use Rattle.sg_history.specs.Current.{Current, current, mark_by, mark_of, mark_in, marked_by, marked_state, marks_rev}
use Rattle.sg_history.specs.History.{SyncEntry, among, as_sync, as_write, documents, of_document, write_to}
use Rattle.feed_rows.specs.declared.document.Document.{Document}
use Rattle.feed_rows.specs.declared.document.Latest.{Latest}
use Rattle.feed_rows.specs.declared.pass.Pass.{Pass}
use Rattle.feed_rows.specs.declared.shown.Viewer.{Viewer}
use Rattle.feed_rows.specs.inner.Index.{IsIndex}
use Rattle.feed_rows.specs.Known.{Known, blank, known_at, known_in, marks_winner, renews, since_renewed, there, written_names}
use Rattle.feed_rows.specs.Latest.{winner_in}
use Rattle.feed_rows.specs.PassAt.{AmidAt, HasMarks, IsRenewed, IsViewer, PassAt, known_amid, mark_winner}
use Rattle.feed_rows.proofs.Names.{any_distinct, distinct_names, get_there, other_texts, same_texts, set_there, text_is_itself}
use Rattle.feed_rows.proofs.Passes.{known_same, names_are, no_document}
use Rattle.feed_rows.proofs.Revisions.{rev_is_itself, same_revs}
use Rattle.feed_rows.proofs.Steps.{Unwritten, current_never, seq_is, since_own, unwritten_renews}

-- ---- the first of some marks

or_over : (b : Bool) (m : Mark) (x : Bool) (o : Option Mark) → is_some o ≡ x → is_some (if b then Some m else o) ≡ (b || x)
or_over true m x o h = refl
or_over false m x o h = h

either : (a b c : Bool) → (a || (b || c)) ≡ ((a || b) || c)
either true b c = refl
either false b c = refl

alone : (b : Bool) (m : Mark) → is_some (if b then Some m else None) ≡ b
alone true m = refl
alone false m = refl

mark_at_end : (done : List Mark) (m : Mark) (doc : List ℕ) (rev : RevId) → is_some (mark_of (done ++ m ∷ []) doc rev) ≡ (is_some (mark_of done doc rev) || marks_rev m doc rev)
mark_at_end [] m doc rev = alone (marks_rev m doc rev) m
mark_at_end (x ∷ xs) m doc rev =
    or_over (marks_rev x doc rev) x (is_some (mark_of xs doc rev) || marks_rev m doc rev) (mark_of (xs ++ m ∷ []) doc rev) (mark_at_end xs m doc rev)
    ∙ either (marks_rev x doc rev) (is_some (mark_of xs doc rev)) (marks_rev m doc rev)
    ∙ ap (λ (b : Bool). b || marks_rev m doc rev) (sym (or_over (marks_rev x doc rev) x (is_some (mark_of xs doc rev)) (mark_of xs doc rev) refl))

-- a mark behind others none of which is of the revision is the first of it
first_here : (done : List Mark) (m : Mark) (rest : List Mark) (doc : List ℕ) (rev : RevId) → is_some (mark_of done doc rev) ≡ false → marks_rev m doc rev ≡ true → mark_of (done ++ m ∷ rest) doc rev ≡ Some m
first_here [] m rest doc rev none is = ap (λ (b : Bool). if b then Some m else mark_of rest doc rev) is
first_here (x ∷ xs) m rest doc rev none is = go (marks_rev x doc rev) none (λ h. first_here xs m rest doc rev h is)
  where
    go : (b : Bool) → is_some (if b then Some x else mark_of xs doc rev) ≡ false → (is_some (mark_of xs doc rev) ≡ false → mark_of (xs ++ m ∷ rest) doc rev ≡ Some m) → (if b then Some x else mark_of (xs ++ m ∷ rest) doc rev) ≡ Some m
    go true h after = absurd (false≢true (sym h))
    go false h after = after h

-- a mark among the first is there among all
there_too : (done more : List Mark) (doc : List ℕ) (rev : RevId) → is_some (mark_of done doc rev) ≡ true → is_some (mark_of (done ++ more) doc rev) ≡ true
there_too [] more doc rev h = absurd (false≢true h)
there_too (x ∷ xs) more doc rev h = go (marks_rev x doc rev) h (λ k. there_too xs more doc rev k)
  where
    go : (b : Bool) → is_some (if b then Some x else mark_of xs doc rev) ≡ true → (is_some (mark_of xs doc rev) ≡ true → is_some (mark_of (xs ++ more) doc rev) ≡ true) → is_some (if b then Some x else mark_of (xs ++ more) doc rev) ≡ true
    go true k after = refl
    go false k after = after k

-- ---- the winner of a document

winner_none : (marks : List Mark) (doc : List ℕ) (o : Option Current) → o ≡ None → mark_winner marks doc o ≡ false
winner_none marks doc o h = ap (mark_winner marks doc) h

winner_same : (done : List Mark) (m : Mark) (doc : List ℕ) (o : Option Current) → ((c : Current) → o ≡ Some c → marks_rev m doc c.rev ≡ false) → mark_winner (done ++ m ∷ []) doc o ≡ mark_winner done doc o
winner_same done m doc None h = refl
winner_same done m doc (Some c) h = mark_at_end done m doc c.rev ∙ ap (λ (x : Bool). is_some (mark_of done doc c.rev) || x) (h c refl) ∙ go (is_some (mark_of done doc c.rev))
  where
    go : (b : Bool) → (b || false) ≡ b
    go true = refl
    go false = refl

winner_by : (e : Entry) (marks : List Mark) → HasMarks e marks → (doc : List ℕ) (o : Option Current) → marks_winner e doc o ≡ mark_winner marks doc o
winner_by e marks has doc None = refl
winner_by e marks has doc (Some c) = ap (λ (m : Option Mark). is_some m) (has.has doc c.rev)

winner_too : (done more : List Mark) (doc : List ℕ) (o : Option Current) → mark_winner done doc o ≡ true → mark_winner (done ++ more) doc o ≡ true
winner_too done more doc None h = absurd (false≢true h)
winner_too done more doc (Some c) h = there_too done more doc c.rev h

none_at_first : (doc : List ℕ) (o : Option Current) → mark_winner [] doc o ≡ false
none_at_first doc None = refl
none_at_first doc (Some c) = refl

abbrev pub replaced_by : List ℕ → List Mark → SyncEntry
replaced_by text marks = record { text = text; marks = marks }

pub all_marks : (e : Entry) (sync : SyncEntry) → as_write e ≡ None → as_sync e ≡ Some sync → HasMarks e sync.marks
all_marks e sync none is = record { unwritten = none; has = λ doc rev. ap (λ (o : Option SyncEntry). mark_in o doc rev) is }

pub no_marks : (e : Entry) → as_write e ≡ None → as_sync e ≡ None → HasMarks e []
no_marks e none is = record { unwritten = none; has = λ doc rev. ap (λ (o : Option SyncEntry). mark_in o doc rev) is }

-- ---- before the first mark, and after the last

amid_name : (b : Bool) (e : Entry) (es : List Entry) (user : List ℕ) (filter : Option (List (List ℕ))) (n : List ℕ) → (if b then known_at (e ∷ es) user filter n else known_at es user filter n).name ≡ n
amid_name true e es user filter n = refl
amid_name false e es user filter n = refl

pub names_amid : (e : Entry) (es : List Entry) (viewer : Viewer) (pass : Pass) (marks : List Mark) → AmidAt marks e es viewer pass → map (λ (d : Document). d.name.now) pass.documents.items ≡ written_names es
names_amid e es viewer pass marks known =
    names_are (known_amid marks e es viewer.user.now viewer.filter.now) pass.documents.items (written_names es)
    (λ n. amid_name (mark_winner marks n (current es n)) e es viewer.user.now viewer.filter.now n) known.documents

module _ (law : Unwritten) (e : Entry) (es : List Entry) (viewer : Viewer) (pass : Pass) where
  abbrev user : List ℕ
  user = viewer.user.now

  abbrev filter : Option (List (List ℕ))
  filter = viewer.filter.now

  pub begun : PassAt es viewer pass → AmidAt [] e es viewer pass
  begun known = record {
    documents =
        known.documents
        ∙ ap (λ (f : List ℕ → Known). map f (written_names es))
        (fun_ext (λ n. sym (ap (λ (b : Bool). if b then known_at (e ∷ es) user filter n else known_at es user filter n) (none_at_first n (current es n)))));
    places = known.places;
  }

  module _ (marks : List Mark) (has : HasMarks e marks) where
    unwritten : (n : List ℕ) → write_to e n ≡ None
    unwritten n = ap (λ (o : Option Write). of_document o n) has.unwritten

    renewed_by : (n : List ℕ) → renews e es n ≡ mark_winner marks n (current es n)
    renewed_by n = unwritten_renews e es n (unwritten n) ∙ winner_by e marks has n (current es n)

    ended_each : (n : List ℕ) → known_amid marks e es user filter n ≡ known_at (e ∷ es) user filter n
    ended_each n = go (mark_winner marks n (current es n)) refl
      where
        go : (b : Bool) → mark_winner marks n (current es n) ≡ b → (if b then known_at (e ∷ es) user filter n else known_at es user filter n) ≡ known_at (e ∷ es) user filter n
        go true h = refl
        go false h = known_same law 1 e es user filter n (renewed_by n ∙ h)

    pub ended : AmidAt marks e es viewer pass → PassAt (e ∷ es) viewer pass
    ended known = record {
      documents =
          known.documents
          ∙ ap (λ (f : List ℕ → Known). map f (written_names es)) (fun_ext ended_each)
          ∙ ap (map (known_at (e ∷ es) user filter)) (no_document e es has.unwritten);
      places = subst (λ (ns : List (List ℕ)). IsIndex ns pass.places) (no_document e es has.unwritten) known.places;
    }

-- ---- one mark more

module _ (law : Unwritten) (e : Entry) (es : List Entry) (viewer : Viewer) (pass : Pass) (done rest : List Mark) (m : Mark) (has : HasMarks e (done ++ m ∷ rest)) (known : AmidAt done e es viewer pass) where
  abbrev pub now : Option Current
  now = current es m.doc

  abbrev pub next : List Mark
  next = done ++ m ∷ []

  abbrev pub user_name : List ℕ
  user_name = viewer.user.now

  abbrev pub let_through : Option (List (List ℕ))
  let_through = viewer.filter.now

  abbrev pub old : List ℕ → Known
  old = known_amid done e es user_name let_through

  abbrev pub new : List ℕ → Known
  new = known_amid next e es user_name let_through

  other_same : (n : List ℕ) → bytes_eq n m.doc ≡ false → old n ≡ new n
  other_same n h =
      sym (ap (λ (b : Bool). if b then known_at (e ∷ es) user_name let_through n else known_at es user_name let_through n)
      (winner_same done m n (current es n) (λ c is. ap (λ (b : Bool). b && same_rev m.rev c.rev) (other_texts n m.doc h))))

  own_same : mark_winner next m.doc now ≡ mark_winner done m.doc now → old m.doc ≡ new m.doc
  own_same h = sym (ap (λ (b : Bool). if b then known_at (e ∷ es) user_name let_through m.doc else known_at es user_name let_through m.doc) h)

  -- the mark brings nothing new
  unmoved : mark_winner next m.doc now ≡ mark_winner done m.doc now → AmidAt next e es viewer pass
  unmoved h = record {
    documents = known.documents ∙ ap (λ (f : List ℕ → Known). map f (written_names es)) (fun_ext (λ n. each n (bytes_eq n m.doc) refl));
    places = known.places;
  }
    where
      each : (n : List ℕ) (b : Bool) → bytes_eq n m.doc ≡ b → old n ≡ new n
      each n true is = subst (λ (d : List ℕ). old d ≡ new d) (sym (same_texts n m.doc is)) (own_same h)
      each n false is = other_same n is

  never : now ≡ None → AmidAt next e es viewer pass
  never none = unmoved (winner_none next m.doc now none ∙ sym (winner_none done m.doc now none))

  -- the document was never written
  pub absent : among (written_names es) m.doc ≡ false → AmidAt next e es viewer pass
  absent h = never (current_never law es m.doc (sym (any_distinct (λ t. bytes_eq t m.doc) (documents es)) ∙ h))

  -- the document stands at a place
  module _ (k : ℕ) (here : slice_get (written_names es) k ≡ Some m.doc) where
    pub stands : there k (map known_in pass.documents.items) ≡ old m.doc
    stands = ap (there k) known.documents ∙ get_there old m.doc (written_names es) k (blank []) here

    -- it is known as it is after the entry, or as before it, by whether one of the first marks is of its winner
    known_by : (b : Bool) → mark_winner done m.doc now ≡ b → there k (map known_in pass.documents.items) ≡ (if b then known_at (e ∷ es) user_name let_through m.doc else known_at es user_name let_through m.doc)
    known_by b h = stands ∙ ap (λ (x : Bool). if x then known_at (e ∷ es) user_name let_through m.doc else known_at es user_name let_through m.doc) h

    all_marked : mark_winner done m.doc now ≡ true → mark_winner next m.doc now ≡ mark_winner done m.doc now
    all_marked h = winner_too done (m ∷ []) m.doc now h ∙ sym h

    marked_since : mark_winner done m.doc now ≡ true → (there k (map known_in pass.documents.items)).since ≡ length es + 1
    marked_since h =
        let own : renews e es m.doc ≡ true =
        unwritten_renews e es m.doc (ap (λ (o : Option Write). of_document o m.doc) has.unwritten) ∙ winner_by e (done ++ m ∷ rest) has m.doc now ∙ winner_too done (m ∷ rest) m.doc now h in
        let whole : length (since_renewed (e ∷ es) m.doc) ≡ length (e ∷ es) = ap length (since_own e es m.doc own) in
        let since : (there k (map known_in pass.documents.items)).since ≡ length (since_renewed (e ∷ es) m.doc) = ap (λ (x : Known). x.since) (known_by true h) in
        omega (arith, whole, since)

    -- the document that stands there is none
    pub not_there : (there k (map known_in pass.documents.items)).current ≡ None → AmidAt next e es viewer pass
    not_there none = go (mark_winner done m.doc now) refl
      where
        go : (b : Bool) → mark_winner done m.doc now ≡ b → AmidAt next e es viewer pass
        go true h = unmoved (all_marked h)
        go false h = never (sym (ap (λ (x : Known). x.current) (known_by false h)) ∙ none)

    module _ (latest : Latest) (state : (there k (map known_in pass.documents.items)).current ≡ Some (winner_in latest)) (since : (there k (map known_in pass.documents.items)).since ≡ latest.since) where
      unmarked_state : mark_winner done m.doc now ≡ false → now ≡ Some (winner_in latest)
      unmarked_state h = sym (ap (λ (x : Known). x.current) (known_by false h)) ∙ state

      unmarked_since : mark_winner done m.doc now ≡ false → latest.since < length es + 1
      unmarked_since h =
          let before = seq_is law es m.doc (winner_in latest) (unmarked_state h) in
          let same : latest.since ≡ length (since_renewed es m.doc) = sym since ∙ ap (λ (x : Known). x.since) (known_by false h) in
          omega (arith, same, before.since)

      -- it was marked by the entry before
      pub passed_over : latest.since ≡ length es + 1 → AmidAt next e es viewer pass
      passed_over same = go (mark_winner done m.doc now) refl
        where
          go : (b : Bool) → mark_winner done m.doc now ≡ b → AmidAt next e es viewer pass
          go true h = unmoved (all_marked h)
          go false h = absurd (omega (arith, same, unmarked_since h))

      -- the mark is of another revision than the winner
      loses : same_rev latest.write.now.rev m.rev ≡ false → AmidAt next e es viewer pass
      loses other = go (mark_winner done m.doc now) refl
        where
          apart : (b : Bool) → same_rev m.rev latest.write.now.rev ≡ b → b ≡ false
          apart true h = absurd (false≢true (sym other ∙ ap (same_rev latest.write.now.rev) (same_revs m.rev latest.write.now.rev h) ∙ rev_is_itself latest.write.now.rev))
          apart false h = refl

          rev_of : Option Current → RevId
          rev_of None = latest.write.now.rev
          rev_of (Some d) = d.rev

          each : (c : Current) → Some (winner_in latest) ≡ Some c → marks_rev m m.doc c.rev ≡ false
          each c is =
              let rev : latest.write.now.rev ≡ c.rev = ap rev_of is in
              ap (λ (r : RevId). bytes_eq m.doc m.doc && same_rev m.rev r) (sym rev)
              ∙ ap (λ (b : Bool). b && same_rev m.rev latest.write.now.rev) (text_is_itself m.doc)
              ∙ apart (same_rev m.rev latest.write.now.rev) refl

          go : (b : Bool) → mark_winner done m.doc now ≡ b → AmidAt next e es viewer pass
          go true h = unmoved (all_marked h)
          go false h = unmoved (winner_same done m m.doc now (λ c is. each c (sym (unmarked_state h) ∙ is)))

      pub left_alone : (seq : ℕ) → seq ≡ length es + 1 → (not (nat_eq latest.since seq) && same_rev latest.write.now.rev m.rev) ≡ false → AmidAt next e es viewer pass
      left_alone seq at h = go (nat_eq latest.since seq) refl h
        where
          go : (b : Bool) → nat_eq latest.since seq ≡ b → (not b && same_rev latest.write.now.rev m.rev) ≡ false → AmidAt next e es viewer pass
          go true is k = passed_over (eqb-true latest.since seq is ∙ at)
          go false is k = loses k

      -- the mark is the winner's first
      module _ (seq : ℕ) (at : seq ≡ length es + 1) (first : (not (nat_eq latest.since seq) && same_rev latest.write.now.rev m.rev) ≡ true) where
        not_yet : ¬ (latest.since ≡ length es + 1)
        not_yet same = go (nat_eq latest.since seq) (eq-eqb latest.since seq (same ∙ sym at)) first
          where
            go : (b : Bool) → b ≡ true → (not b && same_rev latest.write.now.rev m.rev) ≡ true → ⊥
            go true is k = false≢true k
            go false is k = false≢true is

        own : latest.write.now.rev ≡ m.rev
        own = same_revs latest.write.now.rev m.rev (and_parts (not (nat_eq latest.since seq)) (same_rev latest.write.now.rev m.rev) first).1

        unmarked : (b : Bool) → mark_winner done m.doc now ≡ b → b ≡ false
        unmarked true h = absurd (not_yet (sym since ∙ marked_since h))
        unmarked false h = refl

        is_unmarked : mark_winner done m.doc now ≡ false
        is_unmarked = let x = mark_winner done m.doc now in unmarked x refl

        pub was : there k (map known_in pass.documents.items) ≡ known_at es user_name let_through m.doc
        was = known_by false is_unmarked

        here_marked : marks_rev m m.doc (winner_in latest).rev ≡ true
        here_marked = ap (λ (r : RevId). bytes_eq m.doc m.doc && same_rev m.rev r) own ∙ and_from _ _ (text_is_itself m.doc) (rev_is_itself m.rev)

        the_mark : mark_by e m.doc (winner_in latest).rev ≡ Some m
        the_mark =
            has.has m.doc (winner_in latest).rev
            ∙ first_here done m rest m.doc (winner_in latest).rev (sym (ap (mark_winner done m.doc) (unmarked_state is_unmarked)) ∙ is_unmarked) here_marked

        is_next : mark_winner next m.doc now ≡ true
        is_next =
            ap (mark_winner next m.doc) (unmarked_state is_unmarked)
            ∙ mark_at_end done m m.doc (winner_in latest).rev
            ∙ ap (λ (b : Bool). is_some (mark_of done m.doc (winner_in latest).rev) || b) here_marked
            ∙ go (is_some (mark_of done m.doc (winner_in latest).rev))
          where
            go : (b : Bool) → (b || true) ≡ true
            go true = refl
            go false = refl

        pub renewal : IsViewer viewer (e ∷ es) → (marked : Latest) → marked.since ≡ length es + 1 → winner_in marked ≡ marked_state (Some m) (winner_in latest) → IsRenewed viewer e es m.doc marked
        renewal is_viewer marked at kept = record {
          is_viewer = is_viewer;
          renewed =
              unwritten_renews e es m.doc (ap (λ (o : Option Write). of_document o m.doc) has.unwritten)
              ∙ ap (marks_winner e m.doc) (unmarked_state is_unmarked)
              ∙ ap (λ (o : Option Mark). is_some o) the_mark;
          since = at;
          state =
              ap (λ (c : Current). Some c) kept
              ∙ sym (law e es m.doc (ap (λ (o : Option Write). of_document o m.doc) has.unwritten)
              ∙ ap (marked_by e m.doc) (unmarked_state is_unmarked)
              ∙ ap (λ (o : Option Mark). Some (marked_state o (winner_in latest))) the_mark);
        }

        pub brought_up : (after : Pass) → after.places ≡ pass.places → map known_in after.documents.items ≡ slice_set (map known_in pass.documents.items) k (known_at (e ∷ es) user_name let_through m.doc) → AmidAt next e es viewer after
        brought_up after kept h = record {
          documents =
              h
              ∙ ap (λ (ks : List Known). slice_set ks k (known_at (e ∷ es) user_name let_through m.doc)) known.documents
              ∙ ap (λ (x : Known). slice_set (map old (written_names es)) k x)
              (sym (ap (λ (b : Bool). if b then known_at (e ∷ es) user_name let_through m.doc else known_at es user_name let_through m.doc) is_next))
              ∙ set_there old new m.doc (written_names es) k (distinct_names (documents es)) here other_same;
          places = subst (λ (ps : BTreeMap (Bor (List ℕ)) ℕ). IsIndex (written_names es) ps) (sym kept) known.places;
        }
