-- what a board keeps, step by step: a room ends, an entry waits, and those that come next are moved to the log
use Rattle.std.proofs.Common.{◌≡◌, ◌≤◌, ◌<◌, ◌+◌, ◌∙◌, ◌⊎◌, inl, inr, ℕ, zero, suc, Bool, true, false, true≢false, ◌&&◌, ◌||◌, ◌≢◌, List, [], ◌∷◌, ◌++◌, map, length, Option, Some, None, refl, sym, ap, subst, arith, if◌then◌else◌}
use Rattle.std.specs.Prelude.{nat_eq, nat_lt, is_some, IsTrue}
use Rattle.std.specs.BTreeMap.{get_by_text}
use Rattle.std.specs.Str.{bytes_eq}
use Rattle.std.proofs.lemmas.Bool.{cases_eq, cases_lt, eq-eqb, ne_eqb}
use Rattle.std.proofs.lemmas.Option.{none-some, same_Some}
use Rattle.sg_history.specs.declared.book.Waiting.{Waiting}
use Rattle.sg_history.specs.declared.entries.Entry.{Entry}
use Rattle.sg_history.specs.declared.entries.Entry.TheVariants as entry
use Rattle.sg_history.specs.declared.entries.Write.{Write}
use Rattle.sg_history.specs.Book.{Book, IsAbove, same_written, tied, waiting_at, write_at, written_in, writes_up_to, first_write}
use Rattle.sg_history.specs.Current.{Sequenced, sequenced_before}
use Rattle.sg_history.specs.History.{as_write, is_sync, is_write, of_document, write_to}
use Rattle.sg_history.specs.Journal.{IsEntry}
use Rattle.sg_history.specs.World.{Released, release, put_waiting}
use Rattle.rev_tree.specs.declared.tree.Node.{Node}
use Rattle.rev_tree.specs.Documents.{recorded, sequence_of, last_in, tree_in}
use Rattle.rev_tree.specs.Writes.{AreAccepted, is_accepted, tree_of}
use Rattle.doc_board.specs.Boards.{body_size, bytes_stored, bytes_waiting}
use Rattle.doc_board.specs.Candidates.{ExtendsTree, IsPlain}
use Rattle.doc_board.specs.Kept.{AreRight, AreBases, HasNoneAbove, IsKept, IsRightBy, below, follows_writes, trees_by}
use Rattle.doc_board.specs.Lawful.{AreEntries}
use Rattle.doc_board.specs.Recorded.{FollowsTree, HasDocument}
use Rattle.doc_board.proofs.Documents.{Documents, same_names}
use Rattle.doc_board.proofs.Following.{extension_follows}
use Rattle.doc_board.proofs.Lawful.{SameRevisions, SameWinner, follows}
use Rattle.doc_board.proofs.Places.{more_by, same_by}
use Rattle.doc_board.proofs.Puts as puts

abbrev Bases : Type 0
Bases = ℕ → Option ℕ

-- ---- counts

pub put_length : (w : Waiting) (ws : List Waiting) → length (put_waiting w ws) ≡ length ws + 1
put_length w [] = refl
put_length w (f ∷ fs) = go (nat_lt w.number f.number) (put_length w fs)
  where
    go : (b : Bool) → length (put_waiting w fs) ≡ length fs + 1 → length (if b then w ∷ f ∷ fs else f ∷ put_waiting w fs) ≡ length (f ∷ fs) + 1
    go true more = omega arith
    go false more = omega (arith, more)

pub put_bytes : (w : Waiting) (ws : List Waiting) → bytes_waiting (put_waiting w ws) ≡ body_size (as_write w.entry) + bytes_waiting ws
put_bytes w [] = refl
put_bytes w (f ∷ fs) = go (nat_lt w.number f.number) (put_bytes w fs)
  where
    go : (b : Bool) → bytes_waiting (put_waiting w fs) ≡ body_size (as_write w.entry) + bytes_waiting fs → bytes_waiting (if b then w ∷ f ∷ fs else f ∷ put_waiting w fs) ≡ body_size (as_write w.entry) + bytes_waiting (f ∷ fs)
    go true more = refl
    go false more = omega (arith, more)

stored_more : (log : List Entry) (e : Entry) → bytes_stored (log ++ e ∷ []) ≡ bytes_stored log + body_size (as_write e)
stored_more [] e = omega arith
stored_more (x ∷ log) e = omega (arith, stored_more log e)

pub released_bytes : (log : List Entry) (ws : List Waiting) → bytes_stored (release log ws).log + bytes_waiting (release log ws).pending ≡ bytes_stored log + bytes_waiting ws
released_bytes log [] = refl
released_bytes log (f ∷ fs) = go (nat_eq f.number (length log + 1)) (released_bytes (log ++ f.entry ∷ []) fs)
  where
    Total : Released → ℕ
    Total r = bytes_stored r.log + bytes_waiting r.pending

    go : (b : Bool) → Total (release (log ++ f.entry ∷ []) fs) ≡ bytes_stored (log ++ f.entry ∷ []) + bytes_waiting fs
        → Total (if b then release (log ++ f.entry ∷ []) fs else record { log = log; pending = f ∷ fs }) ≡ bytes_stored log + bytes_waiting (f ∷ fs)
    go true more = omega (arith, more, stored_more log f.entry)
    go false more = refl

pub no_size : (o : Option Write) → is_some o ≡ false → body_size o ≡ 0
no_size None h = refl
no_size (Some w) h = absurd (true≢false h)

-- ---- one entry more in the book

module _ (old new : Book) (n : ℕ) (e : Entry) (from : 1 ≤ n) (free : old n ≡ None) (put : (m : ℕ) → new m ≡ (if nat_eq n m then Some e else old m)) (above : puts.IsAboveWrites old n e) where
  -- where none stands above a number in the new book none does in the old one
  pub none_before : (top : ℕ) → HasNoneAbove new top → HasNoneAbove old top
  none_before top over m more = go (cases_eq n m)
    where
      go : (n ≡ m) ⊎ (n ≢ m) → old m ≡ None
      go (inl same) = ap old (sym same) ∙ free
      go (inr ne) = sym (puts.put_other old new n e from free put above m ne) ∙ over m more

  writes_more : (top : ℕ) → HasNoneAbove new top → (doc : List ℕ) → writes_up_to new top doc ≡ sequenced_before (write_to e doc) n (writes_up_to old top doc)
  writes_more top over doc = puts.one_more old new n e from free put above top top (none_before top over) over doc

  right_older : (m : ℕ) (x : Entry) → old m ≡ Some x → (o : Option Write) → as_write x ≡ o → IsRightBy old m o → IsRightBy new m o
  right_older m x there None is right = tt
  right_older m x there (Some v) is right =
      let same = puts.below_old old new n e from free put above m x v there is in (
        right.0,
        subst (λ (ws : List Sequenced). IsTrue (follows_writes ws m v)) (sym same) right.1,
        subst (λ (ws : List Sequenced). FollowsTree (trees_by ws) v) (sym same) right.2,
      )

  right_more : AreRight old → IsEntry e × IsRightBy new n (as_write e) × (is_sync e ≡ false) → AreRight new
  right_more right it m x there = go (cases_eq n m)
    where
      go : (n ≡ m) ⊎ (n ≢ m) → IsEntry x × IsRightBy new m (as_write x) × (is_sync x ≡ false)
      go (inl same) =
          let here : e ≡ x = same_Some e x (sym (puts.put_here old new n e from free put above) ∙ ap new same ∙ there) in
          subst (λ (k : ℕ). IsEntry x × IsRightBy new k (as_write x) × (is_sync x ≡ false)) same (subst (λ (y : Entry). IsEntry y × IsRightBy new n (as_write y) × (is_sync y ≡ false)) here it)
      go (inr ne) =
          let before : old m ≡ Some x = sym (puts.put_other old new n e from free put above m ne) ∙ there in
          let is = right m x before in
          (is.0, right_older m x before (as_write x) refl is.1, is.2)

  pub bases_more : (waiting more : List Waiting) (bases with_it : Bases)
      → ((m : ℕ) → waiting_at more m ≡ (if nat_eq n m then Some e else waiting_at waiting m)) → ((m : ℕ) → n ≢ m → with_it m ≡ bases m)
      → ((m : ℕ) (x : Entry) → 1 ≤ m → waiting_at waiting m ≡ Some x → old m ≡ Some x)
      → ((w : Write) → as_write e ≡ Some w → with_it n ≡ Some (sequence_of (first_write (below new n w.doc))))
      → AreBases old waiting bases → AreBases new more with_it
  bases_more waiting more bases with_it put_waits others in_old it based m x w least waits is = go (cases_eq n m)
    where
      go : (n ≡ m) ⊎ (n ≢ m) → with_it m ≡ Some (sequence_of (first_write (below new m w.doc)))
      go (inl same) =
          let there : Some e ≡ Some x = sym (ap (λ (b : Bool). if b then Some e else waiting_at waiting m) (eq-eqb n m same)) ∙ sym (put_waits m) ∙ waits in
          subst (λ (k : ℕ). with_it k ≡ Some (sequence_of (first_write (below new k w.doc)))) same (it w (ap as_write (same_Some e x there) ∙ is))
      go (inr ne) =
          let before : waiting_at waiting m ≡ Some x = sym (put_waits m ∙ ap (λ (b : Bool). if b then Some e else waiting_at waiting m) (ne_eqb n m ne)) ∙ waits in
          others m ne ∙ based m x w least before is
          ∙ ap (λ (ws : List Sequenced). Some (sequence_of (first_write ws))) (sym (puts.below_old old new n e from free put above m x w (in_old m x least before) is))

-- ---- the last write up to a number

pub last_bounds : (book : Book) (k : ℕ) (doc : List ℕ) (m : ℕ) (v : Write) → 1 ≤ m → m ≤ k → write_at book doc m ≡ Some v → m ≤ last_in book k doc
last_bounds book zero doc m v least low at = absurd (omega (arith, least, low))
last_bounds book (suc k) doc m v least low at =
    go (write_at book doc (suc k)) refl (λ under. last_bounds book k doc m v least under at)
  where
    go : (o : Option Write) → write_at book doc (suc k) ≡ o → (m ≤ k → m ≤ last_in book k doc) → m ≤ sequence_of (first_write (sequenced_before o (suc k) (writes_up_to book k doc)))
    go (Some w) is rest = low
    go None is rest = pick (cases_eq m (suc k))
      where
        pick : (m ≡ suc k) ⊎ (m ≢ suc k) → m ≤ last_in book k doc
        pick (inl same) = absurd (none-some _ (sym is ∙ ap (λ (j : ℕ). write_at book doc j) (sym same) ∙ at))
        pick (inr ne) = rest (omega (arith, ne, low))

pub last_low : (book : Book) (k : ℕ) (doc : List ℕ) → last_in book k doc ≤ k
last_low book zero doc = omega arith
last_low book (suc k) doc = go (write_at book doc (suc k)) (last_low book k doc)
  where
    go : (o : Option Write) → last_in book k doc ≤ k → sequence_of (first_write (sequenced_before o (suc k) (writes_up_to book k doc))) ≤ suc k
    go (Some w) rest = omega arith
    go None rest = omega (arith, rest)

pub last_there : (book : Book) (k : ℕ) (doc : List ℕ) → 1 ≤ last_in book k doc → (w : Write) × (write_at book doc (last_in book k doc) ≡ Some w)
last_there book zero doc some = absurd (omega (arith, some))
last_there book (suc k) doc some = go (write_at book doc (suc k)) refl (last_there book k doc) some
  where
    There : ℕ → Type 0
    There n = (w : Write) × (write_at book doc n ≡ Some w)

    go : (o : Option Write) → write_at book doc (suc k) ≡ o → (1 ≤ last_in book k doc → There (last_in book k doc)) → 1 ≤ sequence_of (first_write (sequenced_before o (suc k) (writes_up_to book k doc))) → There (sequence_of (first_write (sequenced_before o (suc k) (writes_up_to book k doc))))
    go (Some w) is rest low = (w, is)
    go None is rest low = rest low

-- past its last write a document has none
pub none_past_last : (book : Book) (top : ℕ) (doc : List ℕ) → HasNoneAbove book top → (m : ℕ) → last_in book top doc < m → write_at book doc m ≡ None
none_past_last book top doc over m more = go (write_at book doc m) refl (cases_lt top m)
  where
    go : (o : Option Write) → write_at book doc m ≡ o → (top < m) ⊎ (m ≤ top) → o ≡ None
    go None is side = refl
    go (Some v) is (inl past) = absurd (none-some _ (sym (puts.no_write_where_none book doc m (over m past)) ∙ is))
    go (Some v) is (inr low) = absurd (omega (arith, more, last_bounds book top doc m v (omega (arith, more)) low is))

-- a number above a document's last write is above all its writes
pub above_last : (book : Book) (top n : ℕ) (w : Write) → HasNoneAbove book top → last_in book top w.doc < n → puts.IsAboveWrites book n (entry.Write w)
above_last book top n w over more doc x m v is at = go (cases_lt (last_in book top w.doc) m)
  where
    same : w.doc ≡ doc
    same = pick (bytes_eq w.doc doc) refl is
      where
        pick : (b : Bool) → bytes_eq w.doc doc ≡ b → (if b then Some w else None) ≡ Some x → w.doc ≡ doc
        pick true e h = same_names w.doc doc e
        pick false e h = absurd (none-some _ h)

    go : (last_in book top w.doc < m) ⊎ (m ≤ last_in book top w.doc) → m < n
    go (inl past) = absurd (none-some _ (sym (none_past_last book top w.doc over m past) ∙ ap (λ (d : List ℕ). write_at book d m) same ∙ at))
    go (inr low) = omega (arith, low, more)

-- ---- an entry that is no write

no_write_to : (o : Option Write) (doc : List ℕ) → is_some o ≡ false → of_document o doc ≡ None
no_write_to None doc h = refl
no_write_to (Some w) doc h = absurd (true≢false h)

pub plain_above : (book : Book) (n : ℕ) (e : Entry) → is_write e ≡ false → puts.IsAboveWrites book n e
plain_above book n e plain doc x m v is at = absurd (none-some _ (sym (no_write_to (as_write e) doc plain) ∙ is))

plain_right : (book : Book) (n : ℕ) (o : Option Write) → is_some o ≡ false → IsRightBy book n o
plain_right book n None h = tt
plain_right book n (Some w) h = absurd (true≢false h)

pub plain_none : (o : Option Write) → is_some o ≡ false → (w : Write) → o ≡ Some w → ⊥
plain_none None h w is = none-some _ is
plain_none (Some v) h w is = true≢false h

module _ (old new : Book) (n : ℕ) (e : Entry) (from : 1 ≤ n) (free : old n ≡ None) (put : (m : ℕ) → new m ≡ (if nat_eq n m then Some e else old m)) (plain : is_write e ≡ false) where
  above_plain : puts.IsAboveWrites old n e
  above_plain = plain_above old n e plain

  pub same_writes : (top : ℕ) → HasNoneAbove new top → (doc : List ℕ) → writes_up_to new top doc ≡ writes_up_to old top doc
  same_writes top over doc =
      writes_more old new n e from free put above_plain top over doc
      ∙ ap (λ (o : Option Write). sequenced_before o n (writes_up_to old top doc)) (no_write_to (as_write e) doc plain)

  pub kept_plain : (places : Documents) → IsEntry e → is_sync e ≡ false → IsKept old places → IsKept new places
  kept_plain places named kind kept = record {
    documents = λ top over. same_by (writes_up_to old top) (writes_up_to new top) places (same_writes top over) (kept.documents top (none_before old new n e from free put above_plain top over));
    accepted = λ top over doc. subst (λ (ws : List Sequenced). AreAccepted (map (λ written. recorded written.write) ws)) (sym (same_writes top over doc)) (kept.accepted top (none_before old new n e from free put above_plain top over) doc);
    right = right_more old new n e from free put above_plain kept.right (named, plain_right new n (as_write e) plain, kind);
  }

-- ---- a write

module _ (old new : Book) (n : ℕ) (w : Write) (from : 1 ≤ n) (free : old n ≡ None) (put : (m : ℕ) → new m ≡ (if nat_eq n m then Some (entry.Write w) else old m))
    (whole : ℕ) (over_whole : HasNoneAbove old whole) (past : last_in old whole w.doc < n) (tree : List Node) (extends : ExtendsTree (tree_in old whole w.doc) w tree) where
  above_write : puts.IsAboveWrites old n (entry.Write w)
  above_write = above_last old whole n w over_whole past

  same_whole : (top : ℕ) → HasNoneAbove old top → (doc : List ℕ) → writes_up_to old whole doc ≡ writes_up_to old top doc
  same_whole top over doc =
      puts.meets old doc whole top (λ m more. puts.no_write_where_none old doc m (over_whole m more)) (λ m more. puts.no_write_where_none old doc m (over m more))

  extends_at : (top : ℕ) → HasNoneAbove old top → ExtendsTree (tree_in old top w.doc) w tree
  extends_at top over =
      subst (λ (ws : List Sequenced). ExtendsTree (tree_of (map (λ written. recorded written.write) ws)) w tree) (same_whole top over w.doc) extends

  accepted_by : (ws : List Sequenced) (doc : List ℕ) → (bytes_eq w.doc doc ≡ true → IsTrue (is_accepted (tree_of (map (λ written. recorded written.write) ws)) (recorded w)))
      → AreAccepted (map (λ written. recorded written.write) ws) → (b : Bool) → bytes_eq w.doc doc ≡ b → AreAccepted (map (λ written. recorded written.write) (sequenced_before (if b then Some w else None) n ws))
  accepted_by ws doc first rest true e = (first e, rest)
  accepted_by ws doc first rest false e = rest

  below_it : below new n w.doc ≡ writes_up_to old whole w.doc
  below_it = puts.below_it old new n (entry.Write w) from free put above_write whole over_whole w.doc w (puts.own_write w)

  pub kept_write : SameRevisions → SameWinner → (before after : Documents) → IsEntry (entry.Write w) → HasDocument w.body → w.at < n
      → ((name : List ℕ) → get_by_text after name ≡ (if bytes_eq w.doc name then Some (record { last = n; tree = tree }) else get_by_text before name))
      → IsKept old before → IsKept new after
  kept_write same_revisions same_winner before after named body judged set kept = record {
    documents = λ top over.
        let under = none_before old new n (entry.Write w) from free put above_write top over in
        more_by (writes_up_to old top) (writes_up_to new top) before after w n tree (writes_more old new n (entry.Write w) from free put above_write top over) (extends_at top under).tree set (kept.documents top under);
    accepted = λ top over doc.
        let under = none_before old new n (entry.Write w) from free put above_write top over in
        let first : bytes_eq w.doc doc ≡ true → IsTrue (is_accepted (tree_in old top doc) (recorded w)) =
        λ e. subst (λ (d : List ℕ). IsTrue (is_accepted (tree_in old top d) (recorded w))) (same_names w.doc doc e) (extends_at top under).accepted in
        subst (λ (ws : List Sequenced). AreAccepted (map (λ written. recorded written.write) ws)) (sym (writes_more old new n (entry.Write w) from free put above_write top over doc))
        (accepted_by (writes_up_to old top doc) doc first (kept.accepted top under doc) (bytes_eq w.doc doc) refl);
    right = right_more old new n (entry.Write w) from free put above_write kept.right (
      named,
      (
        body,
        subst (λ (ws : List Sequenced). IsTrue (follows_writes ws n w)) (sym below_it)
            (follows same_revisions same_winner w (writes_up_to old whole w.doc) n tree (kept.accepted whole over_whole w.doc) extends judged),
        subst (λ (ws : List Sequenced). FollowsTree (trees_by ws) w) (sym below_it) (extension_follows (tree_in old whole w.doc) w tree extends),
      ),
      refl,
    );
  }

  pub base_is : Some (last_in old whole w.doc) ≡ Some (sequence_of (first_write (below new n w.doc)))
  base_is = ap (λ (ws : List Sequenced). Some (sequence_of (first_write ws))) (sym below_it)

-- ---- an entry above those to which it is tied

only_written : (same replaces writes replaced written : Bool) → replaces ≡ false → replaced ≡ false
    → (same || (replaces && (written || replaced)) || (writes && replaced)) ≡ true → same ≡ true
only_written true replaces writes replaced written a b h = refl
only_written false true writes replaced written a b h = absurd (true≢false a)
only_written false false writes true written a b h = absurd (true≢false b)
only_written false false true false written a b h = h
only_written false false false false written a b h = h

-- in a book of which no entry replaces the sync function, an entry that doesn't either is tied to the writes of its document alone
pub tied_above : (book : Book) (n : ℕ) (e : Entry) → AreEntries book → is_sync e ≡ false → puts.IsAboveWrites book n e → IsAbove book n e
tied_above book n e entries kind above old other there tie =
    go (as_write other) (as_write e) refl refl (only_written (same_written (as_write other) (as_write e)) (is_sync other) (is_write other) (is_sync e) (is_write e) (entries old other there).1 kind tie)
  where
    go : (o p : Option Write) → as_write other ≡ o → as_write e ≡ p → same_written o p ≡ true → old < n
    go None p a b h = absurd (true≢false (sym h))
    go (Some w) None a b h = absurd (true≢false (sym h))
    go (Some w) (Some v) a b h =
        above v.doc v old w (ap (λ (o : Option Write). of_document o v.doc) b ∙ puts.own_write v)
        (ap (λ (o : Option Entry). written_in o v.doc) there ∙ ap (λ (o : Option Write). of_document o v.doc) a ∙ ap (λ (c : Bool). if c then Some w else None) h)

untied : (o p : Option Write) (replaces writes replaced : Bool) → is_some p ≡ false → replaced ≡ false → (same_written o p || (replaces && (is_some p || replaced)) || (writes && replaced)) ≡ false
untied o (Some v) replaces writes replaced h k = absurd (true≢false h)
untied o None replaces writes true h k = absurd (true≢false k)
untied None None true true false h k = refl
untied None None true false false h k = refl
untied None None false true false h k = refl
untied None None false false false h k = refl
untied (Some w) None true true false h k = refl
untied (Some w) None true false false h k = refl
untied (Some w) None false true false h k = refl
untied (Some w) None false false false h k = refl

-- an entry that neither writes nor replaces the sync function is tied to none
pub plain_is_above : (book : Book) (n : ℕ) (e : Entry) → IsPlain e → IsAbove book n e
plain_is_above book n e plain old other there tie =
    absurd (true≢false (sym tie ∙ untied (as_write other) (as_write e) (is_sync other) (is_write other) (is_sync e) plain.0 plain.1))

-- ---- what is read of a board

-- a first write stands at a number of at least 1
pub first_positive : (book : Book) (k : ℕ) (doc : List ℕ) (x : Sequenced) → first_write (writes_up_to book k doc) ≡ Some x → 1 ≤ x.seq
first_positive book zero doc x is = absurd (none-some _ is)
first_positive book (suc k) doc x is = go (write_at book doc (suc k)) (first_positive book k doc x) is
  where
    go : (o : Option Write) → (first_write (writes_up_to book k doc) ≡ Some x → 1 ≤ x.seq) → first_write (sequenced_before o (suc k) (writes_up_to book k doc)) ≡ Some x → 1 ≤ x.seq
    go None rest h = rest h
    go (Some w) rest h = let seq : suc k ≡ x.seq = ap (λ (s : Sequenced). s.seq) (same_Some _ x h) in omega (arith, seq)
