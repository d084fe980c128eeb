-- the entries of a log and those of its book
use Rattle.std.proofs.Common.{◌≡◌, ◌≤◌, ◌<◌, ◌+◌, ◌∙◌, ℕ, zero, suc, Bool, true, false, true≢false, ◌&&◌, ◌||◌, not, List, [], ◌∷◌, ◌++◌, take, length, reverse, Option, Some, None, refl, sym, ap, subst, arith}
use Rattle.std.specs.Prelude.{slice_get, nat_lt, is_some}
use Rattle.std.proofs.Math.Seq.{take-length}
use Rattle.std.proofs.lemmas.List.{reverse-append, length-reverse}
use Rattle.std.proofs.lemmas.Option.{none-some, same_Some, slice_get_within}
use Rattle.sg_names.specs.declared.rev_id.RevId.{RevId}
use Rattle.sg_names.specs.RevId.{same_rev}
use Rattle.sg_history.specs.declared.book.Waiting.{Waiting}
use Rattle.sg_history.specs.declared.entries.Entry.{Entry}
use Rattle.sg_history.specs.declared.entries.Write.{Write}
use Rattle.sg_history.specs.Book.{Book, book_of, book_with, entry_or, waiting_at, written_in, writes_up_to, write_of_rev_up_to}
use Rattle.sg_history.specs.Current.{Sequenced, write_of_rev}
use Rattle.sg_history.specs.History.{SyncEntry, as_sync, as_write, is_sync, past}
use Rattle.sg_history.specs.Journal.{falls_from, has_rev, follows_rules, may_follow_by, IsEntry}
use Rattle.rev_tree.specs.declared.tree.Node.{Node}
use Rattle.rev_tree.specs.Documents.{writes_in, writes_of, tree_at}
use Rattle.rev_tree.specs.Extension.{Recorded}
use Rattle.rev_tree.specs.Writes.{tree_of}
use Rattle.doc_board.specs.Kept.{AreRight, IsRightBy, is_written_by, follows_writes, trees_by}
use Rattle.doc_board.specs.Lawful.{AreLawful}
use Rattle.doc_board.specs.Recorded.{AreFollowing, FollowsTree, IsFirstRefused, WriteMayFollow}
use Rattle.doc_board.proofs.Puts.{same_up_to}

-- what the law of books says of revisions
abbrev pub SameOfRev : Type 0
SameOfRev = (h : List Entry) (number : ℕ) (doc : List ℕ) (rev : RevId) → write_of_rev_up_to (book_of h) number doc rev ≡ write_of_rev (past h number) doc rev

-- what the law of histories says of writes
abbrev pub SameWrites : Type 0
SameWrites = (h : List Entry) (number : ℕ) (doc : List ℕ) → writes_in (book_of h) number doc ≡ writes_of (past h number) doc

-- ---- one place more

take_next : (h : List Entry) (k : ℕ) (e : Entry) → slice_get h k ≡ Some e → take (suc k) h ≡ take k h ++ e ∷ []
take_next [] k e at = absurd (none-some e at)
take_next (x ∷ h) zero e at = ap (λ (y : Entry). y ∷ []) (same_Some x e at)
take_next (x ∷ h) (suc k) e at = ap (λ (es : List Entry). x ∷ es) (take_next h k e at)

pub past_next : (h : List Entry) (k : ℕ) (e : Entry) → slice_get h k ≡ Some e → past h (suc k) ≡ e ∷ past h k
past_next h k e at = ap (λ (es : List Entry). reverse es) (take_next h k e at) ∙ reverse-append (take k h) (e ∷ [])

past_length : (h : List Entry) (k : ℕ) → k ≤ length h → length (past h k) ≡ k
past_length h k low = length-reverse (take k h) ∙ taken h k low
  where
    taken : (h : List Entry) (k : ℕ) → k ≤ length h → length (take k h) ≡ k
    taken h zero low = refl
    taken [] (suc k) low = absurd (omega (arith, low))
    taken (x ∷ h) (suc k) low = ap suc (taken h k (omega (arith, low)))

pub there : (h : List Entry) (k : ℕ) → k < length h → (e : Entry) × (slice_get h k ≡ Some e)
there [] k low = absurd (omega (arith, low))
there (x ∷ h) zero low = (x, refl)
there (x ∷ h) (suc k) low = there h k (omega (arith, low))

-- ---- the rules after the writes of a book and after the older entries

module _ (same : SameOfRev) (h : List Entry) (book : Book) (is_of : (m : ℕ) → 1 ≤ m → m ≤ length h → book m ≡ book_of h m) where
  has_same : (k : ℕ) → k ≤ length h → (doc : List ℕ) (rev : RevId) → is_written_by (writes_up_to book k doc) rev ≡ has_rev (past h k) doc rev
  has_same k low doc rev =
      let writes : writes_up_to book k doc ≡ writes_up_to (book_of h) k doc =
      same_up_to book (book_of h) doc k (λ m least under. ap (λ (o : Option Entry). written_in o doc) (is_of m least (omega (arith, low, under)))) in
      ap (λ (ws : List Sequenced). is_written_by ws rev) writes ∙ ap (λ (o : Option Sequenced). is_some o) (same h k doc rev)

  pub rules_same : (k : ℕ) → k ≤ length h → (w : Write) → follows_writes (writes_up_to book k w.doc) (suc k) w ≡ follows_rules (past h k) w
  rules_same k low w =
      let rest : Bool → Bool → ℕ → Bool = λ new won n. not new && falls_from w.rev.generation w.ancestors && nat_lt w.at n && (same_rev w.winner w.rev || won) in
      let long : suc k ≡ length (past h k) + 1 = omega (arith, past_length h k low) in
      ap (λ (b : Bool). rest b (is_written_by (writes_up_to book k w.doc) w.winner) (suc k)) (has_same k low w.doc w.rev)
      ∙ ap (λ (b : Bool). rest (has_rev (past h k) w.doc w.rev) b (suc k)) (has_same k low w.doc w.winner)
      ∙ ap (λ (n : ℕ). rest (has_rev (past h k) w.doc w.rev) (has_rev (past h k) w.doc w.winner) n) long

  may_by : (k : ℕ) → k ≤ length h → (o : Option Write) (replaced : Option SyncEntry) → IsRightBy book (suc k) o → is_some replaced ≡ false → may_follow_by (past h k) o replaced ≡ true
  may_by k low None None right kind = refl
  may_by k low None (Some sync) right kind = absurd (true≢false kind)
  may_by k low (Some w) replaced right kind = sym (rules_same k low w) ∙ right.1

  -- the tree of the writes of a book is that of the older entries
  tree_same : SameWrites → (k : ℕ) → k ≤ length h → (doc : List ℕ) → trees_by (writes_up_to book k doc) ≡ tree_at (past h k) doc
  tree_same same_writes k low doc =
      ap (λ (ws : List Sequenced). trees_by ws) (same_up_to book (book_of h) doc k (λ m least under. ap (λ (o : Option Entry). written_in o doc) (is_of m least (omega (arith, low, under)))))
      ∙ ap (λ (ws : List Recorded). tree_of ws) (same_writes h k doc)

  right_by : SameWrites → (k : ℕ) → k ≤ length h → (o : Option Write) (replaced : Option SyncEntry) → may_follow_by (past h k) o replaced ≡ true → WriteMayFollow (past h k) o → IsRightBy book (suc k) o
  right_by same_writes k low None replaced may next = tt
  right_by same_writes k low (Some w) replaced may next =
      (next.0, rules_same k low w ∙ may, subst (λ (t : List Node). FollowsTree t w) (sym (tree_same same_writes k low w.doc)) next.1)

  next_by : SameWrites → (k : ℕ) → k ≤ length h → (o : Option Write) → IsRightBy book (suc k) o → WriteMayFollow (past h k) o
  next_by same_writes k low None right = tt
  next_by same_writes k low (Some w) right =
      (right.0, subst (λ (t : List Node). FollowsTree t w) (tree_same same_writes k low w.doc) right.2)

  -- the log of a book whose entries are right is lawful
  lawful_up_to : AreRight book → (k : ℕ) → k ≤ length h → AreLawful (past h k)
  lawful_up_to right zero low = tt
  lawful_up_to right (suc k) low =
      let at = there h k (omega (arith, low)) in
      let in_book : book (suc k) ≡ Some at.0 = is_of (suc k) (omega arith) low ∙ at.1 in
      let is = right (suc k) at.0 in_book in
      subst AreLawful (sym (past_next h k at.0 at.1))
      (is.0, may_by k (omega (arith, low)) (as_write at.0) (as_sync at.0) is.1 is.2, lawful_up_to right k (omega (arith, low)))

  pub lawful_log : AreRight book → AreLawful (reverse h)
  lawful_log right =
      subst AreLawful (ap (λ (es : List Entry). reverse es) (take-length h)) (lawful_up_to right (length h) (omega arith))

  -- and a board may have its entries
  following_up_to : SameWrites → AreRight book → (k : ℕ) → k ≤ length h → AreFollowing (past h k)
  following_up_to same_writes right zero low = tt
  following_up_to same_writes right (suc k) low =
      let at = there h k (omega (arith, low)) in
      let in_book : book (suc k) ≡ Some at.0 = is_of (suc k) (omega arith) low ∙ at.1 in
      let is = right (suc k) at.0 in_book in
      subst AreFollowing (sym (past_next h k at.0 at.1))
      ((next_by same_writes k (omega (arith, low)) (as_write at.0) is.1, is.2), following_up_to same_writes right k (omega (arith, low)))

  pub following_log : SameWrites → AreRight book → AreFollowing (reverse h)
  following_log same_writes right =
      subst AreFollowing (ap (λ (es : List Entry). reverse es) (take-length h)) (following_up_to same_writes right (length h) (omega arith))

-- ---- a log that was recorded

down : (P : List Entry → Type 0) → ((e : Entry) (es : List Entry) → P (e ∷ es) → P es) → (h : List Entry) (d k m : ℕ) → d + k ≡ m → m ≤ length h → P (past h m) → P (past h k)
down P rest h zero k m is low p = let same : ◌≡◌ {A = ℕ} m k = omega (arith, is) in subst (λ (n : ℕ). P (past h n)) same p
down P rest h (suc d) k m is low p =
    let next : ◌≡◌ {A = ℕ} m (suc (d + k)) = omega (arith, is) in
    let at = there h (d + k) (omega (arith, low, next)) in
    down P rest h d k (d + k) refl (omega (arith, low, next))
    (rest at.0 (past h (d + k)) (subst P (past_next h (d + k) at.0 at.1) (subst (λ (n : ℕ). P (past h n)) next p)))

down_to : (P : List Entry → Type 0) → ((e : Entry) (es : List Entry) → P (e ∷ es) → P es) → (h : List Entry) (k d : ℕ) → d + k ≡ length h → P (reverse h) → P (past h k)
down_to P rest h k d is p =
    down P rest h d k (length h) is (omega arith) (subst P (sym (ap (λ (es : List Entry). reverse es) (take-length h))) p)

difference : (a b : ℕ) → a ≤ b → (d : ℕ) × (d + a ≡ b)
difference zero b low = (b, omega arith)
difference (suc a) zero low = absurd (omega (arith, low))
difference (suc a) (suc b) low = let rest = difference a b (omega (arith, low)) in (rest.0, omega (arith, rest.1))

pub right_log : SameOfRev → SameWrites → (h : List Entry) → AreLawful (reverse h) → AreFollowing (reverse h) → AreRight (book_with h [])
right_log same same_writes h lawful following zero e is = absurd (none-some e is)
right_log same same_writes h lawful following (suc k) e is = go (slice_get h k) refl is
  where
    alone : (m : ℕ) → 1 ≤ m → m ≤ length h → book_with h [] m ≡ book_of h m
    alone m least low = pick (book_of h m)
      where
        pick : (o : Option Entry) → entry_or o None ≡ o
        pick None = refl
        pick (Some x) = refl

    go : (o : Option Entry) → slice_get h k ≡ o → entry_or o None ≡ Some e → IsEntry e × IsRightBy (book_with h []) (suc k) (as_write e) × (is_sync e ≡ false)
    go None at is = absurd (none-some e is)
    go (Some x) at is =
        let low : k < length h = slice_get_within h k x at in
        let here : slice_get h k ≡ Some e = at ∙ is in
        let left = difference (suc k) (length h) (omega (arith, low)) in
        let rules = subst AreLawful (past_next h k e here) (down_to AreLawful (λ f es p. p.2) h (suc k) left.0 left.1 lawful) in
        let next = subst AreFollowing (past_next h k e here) (down_to AreFollowing (λ f es p. p.1) h (suc k) left.0 left.1 following) in (
          rules.0,
          right_by same h (book_with h []) alone same_writes k (omega (arith, low)) (as_write e) (as_sync e) rules.1 next.0.0,
          next.0.1,
        )

-- no entry of entries that a board may have is the first that it may not
pub none_bad : (h : List Entry) (sequence : ℕ) → AreFollowing (reverse h) → ¬ IsFirstRefused h sequence
none_bad h sequence following bad =
    let low : bad.place < length h = slice_get_within h bad.place bad.bad bad.there in
    let left = difference (suc bad.place) (length h) (omega (arith, low)) in
    let next = subst AreFollowing (past_next h bad.place bad.bad bad.there) (down_to AreFollowing (λ f es p. p.1) h (suc bad.place) left.0 left.1 following) in
    bad.refused next.0

-- at the places of a log its book has the log's entries
pub in_log_book : (h : List Entry) (waiting : List Waiting) (m : ℕ) → 1 ≤ m → m ≤ length h → book_with h waiting m ≡ book_of h m
in_log_book h waiting m least low = go (book_of h m) refl
  where
    logged : (m : ℕ) → 1 ≤ m → m ≤ length h → book_of h m ≡ None → ⊥
    logged zero least under none = omega (arith, least)
    logged (suc k) least under none = let at = there h k (omega (arith, under)) in none-some at.0 (sym none ∙ at.1)

    go : (o : Option Entry) → book_of h m ≡ o → entry_or o (waiting_at waiting m) ≡ o
    go (Some e) at = refl
    go None at = absurd (logged m least low at)
