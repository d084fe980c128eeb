-- a write that extends its document's tree follows the rules of a journal
use Rattle.std.proofs.Common.{bytes_eq, IsTrue, ◌≡◌, ◌<◌, ℕ, zero, suc, Bool, true, false, ◌&&◌, ◌||◌, not, List, [], ◌∷◌, ◌++◌, map, filter, Option, Some, None, refl, sym, ap, ◌∙◌, subst, inl, inr, if◌then◌else◌, option_map}
use Rattle.std.specs.Prelude.{is_some, nat_lt}
use Rattle.std.specs.List.{list_any}
use Rattle.std.proofs.lemmas.Bool.{and_parts, and_from, or_left, or_right, or_cases, cases_Bool, false_from_ne_true, not-true, not_from_false, both_ways, lt-ltb}
use Rattle.std.proofs.lemmas.List.Folds.{list_any-append}
use Rattle.std.proofs.lemmas.Option.{none-some}
use Rattle.sg_names.specs.declared.rev_id.RevId.{RevId}
use Rattle.sg_names.specs.RevId.{same_rev, is_rev}
use Rattle.sg_history.specs.declared.entries.Entry.{Entry}
use Rattle.sg_history.specs.declared.entries.Write.{Write}
use Rattle.sg_history.specs.History.{SyncEntry, as_sync, as_write, of_document, write_to}
use Rattle.sg_history.specs.Book.{Book, written_in, writes_up_to, first_of_rev}
use Rattle.sg_history.specs.Current.{Sequenced, sequenced_before}
use Rattle.sg_history.specs.Journal.{falls_from, IsRecord, IsEntry, IsEntryBy}
use Rattle.sg_history.specs.Principals.{Put, as_put}
use Rattle.doc_board.specs.Kept.{is_written_by, follows_writes, trees_by}
use Rattle.doc_board.specs.Lawful.{AreLawful, AreEntries}
use Rattle.rev_tree.specs.declared.leaf.Leaf.{Leaf}
use Rattle.rev_tree.specs.declared.tree.Node.{Node}
use Rattle.rev_tree.specs.Order.{first_leaf, sooner, comes_before}
use Rattle.rev_tree.specs.Tree.{knows, winner_of}
use Rattle.rev_tree.specs.Extension.{Recorded, falls}
use Rattle.rev_tree.specs.Writes.{rev_among, path_of, revisions, RevPair, neighbours, pairs, is_parent_in, is_deleted_in, leaves_in, winner_in, tree_of, only_last_known, AreAccepted}
use Rattle.rev_tree.proofs.Sames.{same_is_equal, same_itself}
use Rattle.doc_board.specs.Candidates.{ExtendsTree}
use Rattle.rev_tree.specs.Documents.{recorded, writes_in, tree_in}

abbrev held : {X : Type 0} → X → Option X → X
held d None = d
held d (Some x) = x

same_some : {X : Type 0} (a b : X) → Some a ≡ Some b → a ≡ b
same_some a b h = ap (held a) h

-- what the laws of trees say of the tree of accepted writes
abbrev pub SameRevisions : Type 0
SameRevisions = (ws : List Recorded) (rev : RevId) → AreAccepted ws → knows (tree_of ws) rev ≡ rev_among (revisions ws) rev

abbrev pub SameWinner : Type 0
SameWinner = (ws : List Recorded) → AreAccepted ws → winner_of (tree_of ws) ≡ winner_in ws

-- ---- revisions that were written

-- whether some write has this revision
abbrev pub is_written : List Recorded → RevId → Bool
is_written ws rev = list_any (λ (w : Recorded). same_rev w.rev rev) ws

among-append : (xs ys : List RevId) (rev : RevId) → rev_among (xs ++ ys) rev ≡ (rev_among xs rev || rev_among ys rev)
among-append xs ys rev = list_any-append (λ (r : RevId). same_rev r rev) xs ys

written_among : (ws : List Recorded) (rev : RevId) → is_written ws rev ≡ true → rev_among (revisions ws) rev ≡ true
written_among [] rev h = h
written_among (w ∷ older) rev h =
    elim (or_cases (same_rev w.rev rev) (is_written older rev) h) [
      | inl a ↦ or_left (same_rev w.rev rev) (rev_among (w.ancestors ++ revisions older) rev) a
      | inr o ↦ or_right (same_rev w.rev rev) _ (among-append w.ancestors (revisions older) rev ∙ or_right (rev_among w.ancestors rev) _ (written_among older rev o))
    ]

-- ---- a revision that is no parent was written

parents_listed : (x : RevId) (ancestors : List RevId) (rev : RevId) → list_any (λ (p : RevPair). same_rev p.parent rev) (neighbours (x ∷ ancestors)) ≡ rev_among ancestors rev
parents_listed x [] rev = refl
parents_listed x (a ∷ more) rev = ap (λ (b : Bool). same_rev a rev || b) (parents_listed a more rev)

parents_with : (w : Recorded) (older : List Recorded) (rev : RevId) → is_parent_in (w ∷ older) rev ≡ (rev_among w.ancestors rev || is_parent_in older rev)
parents_with w older rev =
    let test : RevPair → Bool = λ p. same_rev p.parent rev in
    list_any-append test (neighbours (path_of w)) (pairs older) ∙ ap (λ (b : Bool). b || is_parent_in older rev) (parents_listed w.rev w.ancestors rev)

no_parent_written : (ws : List Recorded) (rev : RevId) → rev_among (revisions ws) rev ≡ true → is_parent_in ws rev ≡ false → is_written ws rev ≡ true
no_parent_written [] rev h none = h
no_parent_written (w ∷ older) rev h none =
    let parent : (rev_among w.ancestors rev || is_parent_in older rev) ≡ false = sym (parents_with w older rev) ∙ none in
    elim (or_cases (same_rev w.rev rev) (rev_among (w.ancestors ++ revisions older) rev) h) [
      | inl a ↦ or_left (same_rev w.rev rev) (is_written older rev) a
      | inr o ↦
          elim (or_cases (rev_among w.ancestors rev) (rev_among (revisions older) rev) (sym (among-append w.ancestors (revisions older) rev) ∙ o)) [
            | inl a ↦ absurd (both_ways _ parent (or_left (rev_among w.ancestors rev) (is_parent_in older rev) a))
            | inr r ↦
                or_right (same_rev w.rev rev) _ (no_parent_written older rev r (false_from_ne_true (is_parent_in older rev) (λ p. both_ways _ parent (or_right (rev_among w.ancestors rev) (is_parent_in older rev) p))))
          ]
    ]

-- ---- the winner was written

abbrev leaf_with : (RevId → Bool) → RevId → Leaf
leaf_with deleted r = record { rev = r; deleted = deleted r }

leaf_listed : (parent deleted : RevId → Bool) (revs : List RevId) (rev : RevId) → list_any (λ (l : Leaf). same_rev l.rev rev) (map (λ r. leaf_with deleted r) (filter (λ r. not (parent r)) revs)) ≡ true → (parent rev ≡ false) × (rev_among revs rev ≡ true)
leaf_listed parent deleted [] rev h = absurd (both_ways false refl h)
leaf_listed parent deleted (r ∷ more) rev h =
    elim (cases_Bool (parent r)) [
      | inl p ↦
          let rest = leaf_listed parent deleted more rev (rw p at h) in
          (rest.0, or_right (same_rev r rev) (rev_among more rev) rest.1)
      | inr p ↦
          elim (or_cases (same_rev r rev) _ (rw p at h)) [
            | inl s ↦ (ap parent (sym (same_is_equal r rev s)) ∙ p, or_left (same_rev r rev) (rev_among more rev) s)
            | inr o ↦ let rest = leaf_listed parent deleted more rev o in (rest.0, or_right (same_rev r rev) (rev_among more rev) rest.1)
          ]
    ]

sooner_listed : (l : Leaf) (ls : List Leaf) (o : Option Leaf) (won : Leaf) → ((x : Leaf) → o ≡ Some x → list_any (λ (k : Leaf). same_rev k.rev x.rev) ls ≡ true) → sooner l o ≡ won → (same_rev l.rev won.rev || list_any (λ (k : Leaf). same_rev k.rev won.rev) ls) ≡ true
sooner_listed l ls None won rest e = or_left _ _ (ap (λ (x : Leaf). same_rev l.rev x.rev) (sym e) ∙ same_itself l.rev)
sooner_listed l ls (Some o) won rest e = go (comes_before o l) refl
  where
    P : Leaf → Type 0
    P x = (same_rev l.rev x.rev || list_any (λ (k : Leaf). same_rev k.rev x.rev) ls) ≡ true

    go : (b : Bool) → comes_before o l ≡ b → P won
    go true is = subst P (sym (ap (λ (b : Bool). if b then o else l) is) ∙ e) (or_right (same_rev l.rev o.rev) _ (rest o refl))
    go false is = subst P (sym (ap (λ (b : Bool). if b then o else l) is) ∙ e) (or_left _ _ (same_itself l.rev))

first_listed : (ls : List Leaf) (won : Leaf) → first_leaf ls ≡ Some won → list_any (λ (k : Leaf). same_rev k.rev won.rev) ls ≡ true
first_listed [] won h = absurd (none-some _ h)
first_listed (l ∷ ls) won h = sooner_listed l ls (first_leaf ls) won (first_listed ls) (same_some _ _ h)

winner_is_written : SameWinner → (ws : List Recorded) (won : Leaf) → AreAccepted ws → winner_of (tree_of ws) ≡ Some won → is_written ws won.rev ≡ true
winner_is_written same ws won accepted h =
    let listed = leaf_listed (λ r. is_parent_in ws r) (λ r. is_deleted_in ws r) (revisions ws) won.rev (first_listed (leaves_in ws) won (sym (same ws accepted) ∙ h)) in
    no_parent_written ws won.rev listed.1 listed.0

-- ---- the rules

falls_too : (a : RevId) (more : List RevId) → falls (a ∷ more) ≡ true → falls_from a.generation more ≡ true
falls_too a [] h = refl
falls_too a (b ∷ more) h =
    let parts = and_parts (nat_lt b.generation a.generation) (falls (b ∷ more)) h in
    and_from (nat_lt b.generation a.generation) (falls_from b.generation more) parts.0 (falls_too b more parts.1)

swapped : (a b : RevId) → same_rev a b ≡ true → same_rev b a ≡ true
swapped a b h = ap (same_rev b) (same_is_equal a b h) ∙ same_itself b

won_by : SameWinner → (ws : List Recorded) (rev : RevId) (won : Option Leaf) → AreAccepted ws → winner_of (tree_of ws) ≡ won → option_map (λ (l : Leaf). l.rev) won ≡ Some rev → is_written ws rev ≡ true
won_by same ws rev None accepted h e = absurd (none-some _ e)
won_by same ws rev (Some won) accepted h e =
    subst (λ (r : RevId). is_written ws r ≡ true) (same_some _ _ e) (winner_is_written same ws won accepted h)

-- what is written by writes with their numbers
written_by : (ws : List Sequenced) (rev : RevId) → is_written (map (λ written. recorded written.write) ws) rev ≡ is_written_by ws rev
written_by [] rev = refl
written_by (x ∷ ws) rev = go (same_rev x.write.rev rev) refl (written_by ws rev)
  where
    go : (b : Bool) → same_rev x.write.rev rev ≡ b → is_written (map (λ written. recorded written.write) ws) rev ≡ is_written_by ws rev
        → (b || is_written (map (λ written. recorded written.write) ws) rev) ≡ is_some (if b then Some x else first_of_rev ws rev)
    go true e rest = refl
    go false e rest = rest

pub follows : SameRevisions → SameWinner → (w : Write) (ws : List Sequenced) (n : ℕ) (after : List Node) → AreAccepted (map (λ written. recorded written.write) ws) → ExtendsTree (trees_by ws) w after → w.at < n → follows_writes ws n w ≡ true
follows same_revisions same_winner w written n after accepted extends judged =
    let ws : List Recorded = map (λ x. recorded x.write) written in
    let tree : List Node = tree_of ws in
    let parts = and_parts (not (knows tree w.rev) && falls (path_of (recorded w))) (only_last_known tree w.ancestors) extends.accepted in
    let first = and_parts (not (knows tree w.rev)) (falls (path_of (recorded w))) parts.0 in
    let unknown : knows tree w.rev ≡ false = not-true (knows tree w.rev) first.0 in
    let new : is_written_by written w.rev ≡ false =
    false_from_ne_true (is_written_by written w.rev) (λ h. both_ways _ unknown (same_revisions ws w.rev accepted ∙ written_among ws w.rev (written_by written w.rev ∙ h))) in
    let won : is_written (recorded w ∷ ws) w.winner ≡ true =
    won_by same_winner (recorded w ∷ ws) w.winner (winner_of (tree_of (recorded w ∷ ws))) (extends.accepted, accepted) refl (ap (λ (t : List Node). option_map (λ (l : Leaf). l.rev) (winner_of t)) (sym extends.tree) ∙ extends.winner) in
    let named : (same_rev w.winner w.rev || is_written_by written w.winner) ≡ true =
    elim (or_cases (same_rev w.rev w.winner) (is_written ws w.winner) won) [
      | inl a ↦ or_left _ _ (swapped w.rev w.winner a)
      | inr o ↦ or_right (same_rev w.winner w.rev) _ (sym (written_by written w.winner) ∙ o)
    ] in
    and_from _ _ (and_from _ _ (and_from _ _ (not_from_false _ new) (falls_too w.rev w.ancestors first.1)) (lt-ltb _ _ judged)) named

-- ---- journals

pub recorded_is_lawful : (es : List Entry) → IsRecord es → AreLawful es
recorded_is_lawful [] h = tt
recorded_is_lawful (e ∷ older) h = (h.0.grammar, h.0.rules, recorded_is_lawful older h.1)

-- ---- the winner's name

-- the write that an entry is has a revision in its grammar
named_by : (o : Option Write) (r : Option SyncEntry) (p : Option Put) (doc : List ℕ) → IsEntryBy o r p → (w : Write) → of_document o doc ≡ Some w → IsTrue (is_rev w.rev)
named_by None r p doc is w h = absurd (none-some _ h)
named_by (Some x) r p doc is w h = go (bytes_eq x.doc doc) h
  where
    go : (b : Bool) → (if b then Some x else None) ≡ Some w → IsTrue (is_rev w.rev)
    go true e = subst (λ (y : Write). IsTrue (is_rev y.rev)) (same_some x w e) is.rev.0
    go false e = absurd (none-some _ e)

write_named : (e : Entry) (doc : List ℕ) → IsEntry e → (w : Write) → write_to e doc ≡ Some w → IsTrue (is_rev w.rev)
write_named e doc is w h = named_by (as_write e) (as_sync e) (as_put e) doc is w h

written_in_book : (book : Book) (k : ℕ) (doc : List ℕ) (rev : RevId) → AreEntries book → is_written_by (writes_up_to book k doc) rev ≡ true → IsTrue (is_rev rev)
written_in_book book zero doc rev entries h = absurd (both_ways false refl h)
written_in_book book (suc k) doc rev entries h =
    go (book (suc k)) refl (λ rest. written_in_book book k doc rev entries rest) h
  where
    go : (o : Option Entry) → book (suc k) ≡ o → (is_written_by (writes_up_to book k doc) rev ≡ true → IsTrue (is_rev rev))
        → is_written_by (sequenced_before (written_in o doc) (suc k) (writes_up_to book k doc)) rev ≡ true → IsTrue (is_rev rev)
    go None is rest h = rest h
    go (Some e) is rest h = pick (write_to e doc) refl h
      where
        pick : (o : Option Write) → write_to e doc ≡ o → is_written_by (sequenced_before o (suc k) (writes_up_to book k doc)) rev ≡ true → IsTrue (is_rev rev)
        pick None none h = rest h
        pick (Some w) some h =
            elim (cases_Bool (same_rev w.rev rev)) [
              | inl s ↦ subst (λ (r : RevId). IsTrue (is_rev r)) (same_is_equal w.rev rev s) (write_named e doc (entries (suc k) e is).0 w some)
              | inr s ↦ rest (rw s at h)
            ]

pub winner_named : SameWinner → (book : Book) (k : ℕ) (w : Write) (after : List Node) → AreEntries book → AreAccepted (writes_in book k w.doc) → ExtendsTree (tree_in book k w.doc) w after → IsTrue (is_rev w.rev) → IsTrue (is_rev w.winner)
winner_named same book k w after entries accepted extends named =
    let written : List Sequenced = writes_up_to book k w.doc in
    let ws : List Recorded = writes_in book k w.doc in
    let won : is_written (recorded w ∷ ws) w.winner ≡ true =
    won_by same (recorded w ∷ ws) w.winner (winner_of (tree_of (recorded w ∷ ws))) (extends.accepted, accepted) refl (ap (λ (t : List Node). option_map (λ (l : Leaf). l.rev) (winner_of t)) (sym extends.tree) ∙ extends.winner) in
    elim (or_cases (same_rev w.rev w.winner) (is_written ws w.winner) won) [
      | inl a ↦ subst (λ (r : RevId). IsTrue (is_rev r)) (same_is_equal w.rev w.winner a) named
      | inr o ↦ written_in_book book k w.doc w.winner entries (sym (written_by written w.winner) ∙ o)
    ]
