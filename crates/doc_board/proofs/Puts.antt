-- a book with one entry more, and the writes of documents in it
use Rattle.std.proofs.Common.{◌≡◌, ◌≢◌, ◌⊎◌, inl, inr, ℕ, zero, suc, ◌+◌, ◌<◌, ◌≤◌, Bool, List, Option, Some, None, refl, sym, ap, subst, ◌∙◌, arith}
use Rattle.std.specs.Prelude.{nat_eq, if◌then◌else◌}
use Rattle.std.proofs.lemmas.Bool.{cases_eq, cases_lt, eq-eqb, ne_eqb}
use Rattle.std.proofs.lemmas.Slice.Eq.{bytes_eq-Decides}
use Rattle.sg_history.specs.declared.entries.Entry.{Entry}
use Rattle.sg_history.specs.declared.entries.Write.{Write}
use Rattle.sg_history.specs.Book.{Book, write_at, written_in, writes_up_to}
use Rattle.sg_history.specs.Current.{Sequenced, sequenced_before}
use Rattle.sg_history.specs.History.{as_write, of_document, write_to}
use Rattle.doc_board.specs.Kept.{below}

-- ---- writes up to a number

-- where two books have the same writes of a document up to a number, these are the same
pub same_up_to : (a b : Book) (doc : List ℕ) (k : ℕ) → ((m : ℕ) → 1 ≤ m → m ≤ k → write_at a doc m ≡ write_at b doc m) → writes_up_to a k doc ≡ writes_up_to b k doc
same_up_to a b doc zero same = refl
same_up_to a b doc (suc k) same =
    ap (λ (o : Option Write). sequenced_before o (suc k) (writes_up_to a k doc)) (same (suc k) (omega arith) (omega arith))
    ∙ ap (λ (ws : List Sequenced). sequenced_before (write_at b doc (suc k)) (suc k) ws) (same_up_to a b doc k (λ m least low. same m least (omega arith)))

-- past a number above which no write of a document stands up to another, there are no more
pub no_more : (book : Book) (doc : List ℕ) (low high : ℕ) → low ≤ high → ((m : ℕ) → low < m → m ≤ high → write_at book doc m ≡ None) → writes_up_to book high doc ≡ writes_up_to book low doc
no_more book doc low zero least none =
    let same : ◌≡◌ {A = ℕ} zero low = omega arith in ap (λ (k : ℕ). writes_up_to book k doc) same
no_more book doc low (suc high) least none =
    go (cases_eq low (suc high)) (λ under. no_more book doc low high under (λ m from to. none m from (omega (arith, to))))
  where
    go : (low ≡ suc high) ⊎ (low ≢ suc high) → (low ≤ high → writes_up_to book high doc ≡ writes_up_to book low doc) → writes_up_to book (suc high) doc ≡ writes_up_to book low doc
    go (inl e) rest = ap (λ (k : ℕ). writes_up_to book k doc) (sym e)
    go (inr ne) rest =
        let under : low ≤ high = omega (arith, ne, least) in
        ap (λ (o : Option Write). sequenced_before o (suc high) (writes_up_to book high doc)) (none (suc high) (omega (arith, under)) (omega arith))
        ∙ rest under

-- up to any two numbers above which no write of a document stands there are the same
pub meets : (book : Book) (doc : List ℕ) (a b : ℕ) → ((m : ℕ) → a < m → write_at book doc m ≡ None) → ((m : ℕ) → b < m → write_at book doc m ≡ None) → writes_up_to book a doc ≡ writes_up_to book b doc
meets book doc a b over_a over_b = go (cases_lt a b)
  where
    go : (a < b) ⊎ (b ≤ a) → writes_up_to book a doc ≡ writes_up_to book b doc
    go (inl less) = sym (no_more book doc a b (omega arith) (λ m from to. over_a m from))
    go (inr least) = no_more book doc b a least (λ m from to. over_b m from)

-- no write of a document stands where no entry does
pub no_write_where_none : (book : Book) (doc : List ℕ) (m : ℕ) → book m ≡ None → write_at book doc m ≡ None
no_write_where_none book doc m none = ap (λ (o : Option Entry). written_in o doc) none

-- a write is one of its own document
pub own_write : (v : Write) → of_document (Some v) v.doc ≡ Some v
own_write v = ap (λ (b : Bool). if b then Some v else None) ((bytes_eq-Decides v.doc v.doc).1 refl)

-- ---- one entry more

-- a number is above each at which a book has a write of the document that this entry writes
abbrev pub IsAboveWrites : Book → ℕ → Entry → Type 0
IsAboveWrites book number e =
    (doc : List ℕ) (w : Write) (old : ℕ) (v : Write) → write_to e doc ≡ Some w → write_at book doc old ≡ Some v → old < number

module _ (old new : Book) (n : ℕ) (e : Entry) (from : 1 ≤ n) (free : old n ≡ None) (put : (m : ℕ) → new m ≡ (if nat_eq n m then Some e else old m)) (above : IsAboveWrites old n e) where
  pub put_here : new n ≡ Some e
  put_here = put n ∙ ap (λ (b : Bool). if b then Some e else old n) (eq-eqb n n refl)

  pub put_other : (m : ℕ) → n ≢ m → new m ≡ old m
  put_other m ne = put m ∙ ap (λ (b : Bool). if b then Some e else old m) (ne_eqb n m ne)

  write_here : (doc : List ℕ) → write_at new doc n ≡ write_to e doc
  write_here doc = ap (λ (o : Option Entry). written_in o doc) put_here

  write_other : (doc : List ℕ) (m : ℕ) → n ≢ m → write_at new doc m ≡ write_at old doc m
  write_other doc m ne = ap (λ (o : Option Entry). written_in o doc) (put_other m ne)

  -- of a document that the entry does not write
  unwritten : (doc : List ℕ) → write_to e doc ≡ None → (m : ℕ) → write_at new doc m ≡ write_at old doc m
  unwritten doc none m = go (cases_eq n m)
    where
      go : (n ≡ m) ⊎ (n ≢ m) → write_at new doc m ≡ write_at old doc m
      go (inl same) =
          let here : write_at new doc n ≡ write_at old doc n = write_here doc ∙ none ∙ sym (no_write_where_none old doc n free) in
          subst (λ (k : ℕ). write_at new doc k ≡ write_at old doc k) same here
      go (inr ne) = write_other doc m ne

  -- of the document that it writes no write stands from its number on
  none_from : (doc : List ℕ) (w : Write) → write_to e doc ≡ Some w → (m : ℕ) → n ≤ m → write_at old doc m ≡ None
  none_from doc w is m least = go (write_at old doc m) refl
    where
      go : (o : Option Write) → write_at old doc m ≡ o → o ≡ None
      go None there = refl
      go (Some v) there = let less = above doc w m v is there in absurd (omega arith)

  same_before : (doc : List ℕ) (k : ℕ) → k < n → writes_up_to new k doc ≡ writes_up_to old k doc
  same_before doc k less = same_up_to new old doc k (λ m least low. write_other doc m (λ same. absurd (omega arith)))

  more_from : (doc : List ℕ) (w : Write) → write_to e doc ≡ Some w → (k : ℕ) → n ≤ k → writes_up_to new k doc ≡ sequenced_before (Some w) n (writes_up_to old k doc)
  more_from doc w is zero least = absurd (omega arith)
  more_from doc w is (suc k) least = go (cases_eq n (suc k)) (more_from doc w is k)
    where
      none_at : write_at old doc (suc k) ≡ None
      none_at = none_from doc w is (suc k) least

      past_it : writes_up_to old (suc k) doc ≡ writes_up_to old k doc
      past_it = ap (λ (o : Option Write). sequenced_before o (suc k) (writes_up_to old k doc)) none_at

      go : (n ≡ suc k) ⊎ (n ≢ suc k) → (n ≤ k → writes_up_to new k doc ≡ sequenced_before (Some w) n (writes_up_to old k doc)) → writes_up_to new (suc k) doc ≡ sequenced_before (Some w) n (writes_up_to old (suc k) doc)
      go (inl same) rest =
          let here : write_at new doc (suc k) ≡ Some w = ap (λ (m : ℕ). write_at new doc m) (sym same) ∙ write_here doc ∙ is in
          let before : writes_up_to new k doc ≡ writes_up_to old (suc k) doc = same_before doc k (omega (arith, same)) ∙ sym past_it in
          ap (λ (o : Option Write). sequenced_before o (suc k) (writes_up_to new k doc)) here
          ∙ ap (λ (ws : List Sequenced). sequenced_before (Some w) (suc k) ws) before
          ∙ ap (λ (m : ℕ). sequenced_before (Some w) m (writes_up_to old (suc k) doc)) (sym same)
      go (inr ne) rest =
          let here : write_at new doc (suc k) ≡ None = write_other doc (suc k) ne ∙ none_at in
          ap (λ (o : Option Write). sequenced_before o (suc k) (writes_up_to new k doc)) here
          ∙ rest (omega (arith, ne, least))
          ∙ ap (λ (ws : List Sequenced). sequenced_before (Some w) n ws) (sym past_it)

  -- the writes of a document, up to numbers above which no entry stands
  pub one_more : (top high : ℕ) → ((m : ℕ) → top < m → old m ≡ None) → ((m : ℕ) → high < m → new m ≡ None) → (doc : List ℕ) → writes_up_to new high doc ≡ sequenced_before (write_to e doc) n (writes_up_to old top doc)
  one_more top high over_old over_new doc = go (write_to e doc) refl
    where
      big : ℕ
      big = top + high + n

      to_big : writes_up_to new high doc ≡ writes_up_to new big doc
      to_big = sym (no_more new doc high big (omega arith) (λ m from to. no_write_where_none new doc m (over_new m from)))

      from_big : writes_up_to old big doc ≡ writes_up_to old top doc
      from_big = no_more old doc top big (omega arith) (λ m from to. no_write_where_none old doc m (over_old m from))

      go : (o : Option Write) → write_to e doc ≡ o → writes_up_to new high doc ≡ sequenced_before o n (writes_up_to old top doc)
      go None is = to_big ∙ same_up_to new old doc big (λ m least low. unwritten doc is m) ∙ from_big
      go (Some w) is =
          to_big ∙ more_from doc w is big (omega arith) ∙ ap (λ (ws : List Sequenced). sequenced_before (Some w) n ws) from_big

  -- below the entry all writes of its document stand
  pub below_it : (top : ℕ) → ((m : ℕ) → top < m → old m ≡ None) → (doc : List ℕ) (w : Write) → write_to e doc ≡ Some w → below new n doc ≡ writes_up_to old top doc
  below_it top over doc w is = go n refl
    where
      go : (k : ℕ) → n ≡ k → below new k doc ≡ writes_up_to old top doc
      go zero same = absurd (omega (arith, same))
      go (suc k) same =
          same_before doc k (omega (arith, same))
          ∙ meets old doc k top (λ m more. none_from doc w is m (omega (arith, same, more))) (λ m more. no_write_where_none old doc m (over m more))

  -- below an older write the same writes of its document stand
  pub below_old : (m : ℕ) (x : Entry) (v : Write) → old m ≡ Some x → as_write x ≡ Some v → below new m v.doc ≡ below old m v.doc
  below_old m x v there is = go m refl
    where
      own : write_at old v.doc m ≡ Some v
      own =
          ap (λ (o : Option Entry). written_in o v.doc) there ∙ ap (λ (o : Option Write). of_document o v.doc) is ∙ own_write v

      same : (k : ℕ) → k < m → write_at new v.doc k ≡ write_at old v.doc k
      same k less = pick (write_to e v.doc) refl
        where
          pick : (o : Option Write) → write_to e v.doc ≡ o → write_at new v.doc k ≡ write_at old v.doc k
          pick None none = unwritten v.doc none k
          pick (Some w) some =
              let under = above v.doc w m v some own in write_other v.doc k (λ e. absurd (omega arith))

      go : (k : ℕ) → m ≡ k → below new k v.doc ≡ below old k v.doc
      go zero is = refl
      go (suc k) is = same_up_to new old v.doc k (λ j least low. same j (omega (arith, is, low)))
