-- what the marks of a replaced sync function make of what documents give
use Rattle.std.proofs.Common.{◌≡◌, ◌≢◌, ◌<◌, ◌≤◌, ◌+◌, ◌-◌, ℕ, suc, refl, sym, ◌∙◌, ap, subst, arith, inl, inr, Bool, true, false, ◌&&◌, if◌then◌else◌, List, [], ◌∷◌, ◌++◌, length, Option, Some, None, ◌||◌}
use Rattle.std.specs.Prelude.{slice_get, nat_eq, nat_le, option_map}
use Rattle.std.specs.Str.{bytes_eq}
use Rattle.std.specs.Cmp.Lexicographic.{bytes_decides}
use Rattle.std.proofs.lemmas.Bool.{cases_Bool, eq-eqb, eqb-true, eqb-false, leb-true, ne_eqb}
use Rattle.std.proofs.lemmas.List.{append-nil}
use Rattle.std.proofs.lemmas.Option.{none-some, same_Some}
use Rattle.sg_names.specs.declared.rev_id.RevId.{RevId}
use Rattle.sg_names.specs.declared.grants.Grantee.TheVariants.{User, Role}
use Rattle.sg_names.specs.RevId.{same_rev}
use Rattle.sg_history.specs.declared.entries.Entry.{Entry}
use Rattle.sg_history.specs.declared.entries.Entry.TheVariants as entry
use Rattle.sg_history.specs.declared.entries.Mark.{Mark}
use Rattle.sg_history.specs.declared.entries.Write.{Write}
use Rattle.sg_history.specs.History.{SyncEntry, among, as_sync, as_write, write_to}
use Rattle.sg_history.specs.Current.{Current, Sequenced, current, current_after, last_write, mark_in, mark_of, marked_by, marked_state, marks_rev, sequenced_or, winning_of, with_rev_or, write_of_rev, write_or}
use Rattle.sg_history.specs.Principals.{PrincipalState, as_put}
use Rattle.log_index.specs.declared.documents.Document.{Document}
use Rattle.log_index.specs.declared.marks.Marked.{Marked}
use Rattle.log_index.specs.Marks.{is_mark, mark_place, marked_after, marked_or, place_by, place_in}
use Rattle.log_index.specs.Places.{document_by}
use Rattle.log_views.proofs.Placed.{found, last_at, winning_at}
use Rattle.grant_history.specs.declared.facts.Fact.{Fact}
use Rattle.grant_history.specs.declared.ledger.Ledger.{Ledger}
use Rattle.grant_history.specs.declared.states.NewState.{NewState}
use Rattle.grant_history.specs.inner.Changes.{DocumentFacts, given_with, given_after, given_at, change_by, changes_by, mark_among, others, AreChanges, IsMarking}
use Rattle.grant_history.specs.Facts.{times, document_facts, effect_facts, mark_facts, put_facts}
use Rattle.grant_history.specs.Ledger.{facts_of_mark, kept_of, GiveSame}
use Rattle.grant_history.specs.NewStates.{by_mark, by_marks, state_by, state_of}
use Rattle.grant_history.specs.Sources.{documents_once, given_by, principal_of}
use Rattle.grant_history.proofs.Others.{AreOnce, fewer_changes, has_doc, no_changes}
use Rattle.grant_history.proofs.Standing.{MarkLaws, marked_is}
use Rattle.grant_history.proofs.Steps.{Unwritten, unwritten, principal_same, once_idle, once, no_current}
use Rattle.grant_history.proofs.Summing.{AreOf, Gives, summed, sum_given, sum_same, sums_changed}

and_left : (a b : Bool) → (a && b) ≡ true → a ≡ true
and_left true b h = refl
and_left false b h = h

-- the mark of a revision stands at its place
pub record Placed (marks : List Mark) (doc : List ℕ) (place : ℕ) : Type 0 where
  pub mark : Mark
  pub there : slice_get marks place ≡ Some mark
  pub of : mark.doc ≡ doc

later : (mark : Mark) (marks : List Mark) (doc : List ℕ) (o : Option ℕ) (p : ℕ) → ((k : ℕ) → o ≡ Some k → Placed marks doc k) → option_map suc o ≡ Some p → Placed (mark ∷ marks) doc p
later mark marks doc None p rest h = absurd (none-some p h)
later mark marks doc (Some k) p rest h =
    let one = rest k refl in
    record { mark = one.mark; there = ap (λ (n : ℕ). slice_get (mark ∷ marks) n) (sym (same_Some (suc k) p h)) ∙ one.there; of = one.of }

pub placed : (marks : List Mark) (doc : List ℕ) (rev : RevId) (p : ℕ) → mark_place marks doc rev ≡ Some p → Placed marks doc p
placed [] doc rev p h = absurd (none-some p h)
placed (mark ∷ marks) doc rev p h = by (marks_rev mark doc rev) refl (λ k is. placed marks doc rev k is) h
  where
    by : (b : Bool) → marks_rev mark doc rev ≡ b → ((k : ℕ) → mark_place marks doc rev ≡ Some k → Placed marks doc k) → (if b then Some 0 else option_map suc (mark_place marks doc rev)) ≡ Some p → Placed (mark ∷ marks) doc p
    by true is rest h = record {
      mark = mark;
      there = ap (λ (n : ℕ). slice_get (mark ∷ marks) n) (sym (same_Some 0 p h));
      of = (bytes_decides mark.doc doc).0 (and_left (bytes_eq mark.doc doc) (same_rev mark.rev rev) is);
    }
    by false is rest h = later mark marks doc (mark_place marks doc rev) p rest h

abbrev got : List Mark → Option ℕ → Option Mark
got marks None = None
got marks (Some p) = slice_get marks p

got_later : (mark : Mark) (marks : List Mark) (o : Option ℕ) → got (mark ∷ marks) (option_map suc o) ≡ got marks o
got_later mark marks None = refl
got_later mark marks (Some k) = refl

place_gives : (marks : List Mark) (doc : List ℕ) (rev : RevId) → mark_of marks doc rev ≡ got marks (mark_place marks doc rev)
place_gives [] doc rev = refl
place_gives (mark ∷ marks) doc rev = by (marks_rev mark doc rev) (place_gives marks doc rev)
  where
    by : (b : Bool) → mark_of marks doc rev ≡ got marks (mark_place marks doc rev) → (if b then Some mark else mark_of marks doc rev) ≡ got (mark ∷ marks) (if b then Some 0 else option_map suc (mark_place marks doc rev))
    by true rest = refl
    by false rest = rest ∙ sym (got_later mark marks (mark_place marks doc rev))

-- an entry that replaces the sync function neither writes nor puts
pub neither : (e : Entry) (marks : List Mark) → option_map (λ (s : SyncEntry). s.marks) (as_sync e) ≡ Some marks → (as_write e ≡ None) × (as_put e ≡ None)
neither (entry.Write w) marks h = absurd (none-some marks h)
neither (entry.PutUser name channels roles) marks h = absurd (none-some marks h)
neither (entry.PutRole name channels) marks h = absurd (none-some marks h)
neither (entry.DropUser name) marks h = absurd (none-some marks h)
neither (entry.DropRole name) marks h = absurd (none-some marks h)
neither (entry.Sync text all) marks h = (refl, refl)
neither entry.Unused marks h = absurd (none-some marks h)

place_has : (o : Option SyncEntry) (marks : List Mark) (doc : List ℕ) (rev : RevId) → option_map (λ (s : SyncEntry). s.marks) o ≡ Some marks → place_in o doc rev ≡ mark_place marks doc rev
place_has None marks doc rev h = absurd (none-some marks h)
place_has (Some s) marks doc rev h = ap (λ (l : List Mark). mark_place l doc rev) (same_Some s.marks marks h)

mark_has : (o : Option SyncEntry) (marks : List Mark) (doc : List ℕ) (rev : RevId) → option_map (λ (s : SyncEntry). s.marks) o ≡ Some marks → mark_in o doc rev ≡ mark_of marks doc rev
mark_has None marks doc rev h = absurd (none-some marks h)
mark_has (Some s) marks doc rev h = ap (λ (l : List Mark). mark_of l doc rev) (same_Some s.marks marks h)

-- what the document of a mark gives by it
abbrev made : Mark → DocumentFacts
made mark = record { doc = mark.doc; facts = mark_facts mark }

one_appended : (marks : List Mark) (o : Option Mark) (xs ys : List NewState) → changes_by marks (xs ++ ys) ≡ changes_by marks xs ++ changes_by marks ys
    → change_by o ++ changes_by marks (xs ++ ys) ≡ (change_by o ++ changes_by marks xs) ++ changes_by marks ys
one_appended marks None xs ys rest = rest
one_appended marks (Some mark) xs ys rest = ap (λ (l : List DocumentFacts). made mark ∷ l) rest

changes_append : (marks : List Mark) (xs ys : List NewState) → changes_by marks (xs ++ ys) ≡ changes_by marks xs ++ changes_by marks ys
changes_append marks [] ys = refl
changes_append marks (x ∷ xs) ys = one_appended marks (mark_among marks x.marked) xs ys (changes_append marks xs ys)

-- the same where the mark at this place has the document's effects
abbrev one : Option ℕ → ℕ → Mark → List DocumentFacts
one None n mark = []
one (Some p) n mark = if nat_eq p n then made mark ∷ [] else []

-- changes at the places of marks
module _ (marks : List Mark) (place : List ℕ → Option ℕ) (is_placed : (doc : List ℕ) (p : ℕ) → place doc ≡ Some p → Placed marks doc p) where
  abbrev from : List Mark → ℕ → List DocumentFacts
  from [] n = []
  from (m ∷ ms) n = one (place m.doc) n m ++ from ms (n + 1)

  -- these are the marks from a place on
  abbrev AreFrom : List Mark → ℕ → Type 0
  AreFrom ms n = (k : ℕ) → slice_get ms k ≡ slice_get marks (n + k)

  next : (m : Mark) (ms : List Mark) (n : ℕ) → AreFrom (m ∷ ms) n → AreFrom ms (n + 1)
  next m ms n are k =
      let same : ◌≡◌ {A = ℕ} (n + suc k) (n + 1 + k) = omega arith in
      are (suc k) ∙ ap (λ (i : ℕ). slice_get marks i) same

  first : (m : Mark) (ms : List Mark) (n : ℕ) → AreFrom (m ∷ ms) n → slice_get marks n ≡ Some m
  first m ms n are =
      let same : ◌≡◌ {A = ℕ} n (n + 0) = omega arith in
      ap (λ (i : ℕ). slice_get marks i) same ∙ sym (are 0)

  -- a document without a mark from there on gives what it gave
  kept_from : (ms : List Mark) (n : ℕ) → AreFrom ms n → (g : Gives) (d : List ℕ) → ((p : ℕ) → place d ≡ Some p → p < n) → given_after g (from ms n) d ≡ g d
  kept_from [] n are g d below = refl
  kept_from (m ∷ ms) n are g d below = by (place m.doc) refl (λ h. kept_from ms (n + 1) (next m ms n are) h d (λ p is. omega (arith, below p is)))
    where
      of : (p : ℕ) → place m.doc ≡ Some p → ((h : Gives) → given_after h (from ms (n + 1)) d ≡ h d) → (b : Bool) → nat_eq p n ≡ b → given_after g ((if b then made m ∷ [] else []) ++ from ms (n + 1)) d ≡ g d
      of p is rest true same =
          rest (given_with g (made m)) ∙ apart (bytes_eq m.doc d) refl
        where
          apart : (b : Bool) → bytes_eq m.doc d ≡ b → (if b then mark_facts m else g d) ≡ g d
          apart true at =
              let here : place d ≡ Some p = ap place (sym ((bytes_decides m.doc d).0 at)) ∙ is in
              absurd (omega (arith, below p here, eqb-true p n same))
          apart false at = refl
      of p is rest false other = rest g

      by : (o : Option ℕ) → place m.doc ≡ o → ((h : Gives) → given_after h (from ms (n + 1)) d ≡ h d) → given_after g (one o n m ++ from ms (n + 1)) d ≡ g d
      by None is rest = rest g
      by (Some p) is rest = of p is rest (nat_eq p n) refl

  -- one with such a mark gives what that gives
  marked_from : (ms : List Mark) (n : ℕ) → AreFrom ms n → (g : Gives) (d : List ℕ) (p : ℕ) → place d ≡ Some p → n ≤ p → given_after g (from ms n) d ≡ facts_of_mark (slice_get marks p)
  marked_from [] n are g d p is low =
      let same : ◌≡◌ {A = ℕ} (n + (p - n)) p = omega (arith, low) in
      let there = is_placed d p is in
      absurd (none-some there.mark (are (p - n) ∙ ap (λ (i : ℕ). slice_get marks i) same ∙ there.there))
  marked_from (m ∷ ms) n are g d p is low = at (nat_eq p n) refl (λ h above. marked_from ms (n + 1) (next m ms n are) h d p is above)
    where
      of : (b : Bool) → ((h : Gives) → given_after h (from ms (n + 1)) d ≡ facts_of_mark (slice_get marks p)) → given_after g ((if b then made m ∷ [] else []) ++ from ms (n + 1)) d ≡ facts_of_mark (slice_get marks p)
      of true rest = rest (given_with g (made m))
      of false rest = rest g

      by : (o : Option ℕ) → ((h : Gives) → given_after h (from ms (n + 1)) d ≡ facts_of_mark (slice_get marks p)) → given_after g (one o n m ++ from ms (n + 1)) d ≡ facts_of_mark (slice_get marks p)
      by None rest = rest g
      by (Some q) rest = of (nat_eq q n) rest

      at : (b : Bool) → nat_eq p n ≡ b → ((h : Gives) → n + 1 ≤ p → given_after h (from ms (n + 1)) d ≡ facts_of_mark (slice_get marks p)) → given_after g (from (m ∷ ms) n) d ≡ facts_of_mark (slice_get marks p)
      at true same rest =
          let one_place : p ≡ n = eqb-true p n same in
          let there = is_placed d p is in
          let mark : m ≡ there.mark = same_Some m there.mark (sym (first m ms n are) ∙ ap (λ (i : ℕ). slice_get marks i) (sym one_place) ∙ there.there) in
          let doc : m.doc ≡ d = ap (λ (x : Mark). x.doc) mark ∙ there.of in
          let here : place m.doc ≡ Some n = ap place doc ∙ is ∙ ap (λ (i : ℕ). Some i) one_place in
          ap (λ (o : Option ℕ). given_after g (one o n m ++ from ms (n + 1)) d) here
          ∙ ap (λ (b : Bool). given_after g ((if b then made m ∷ [] else []) ++ from ms (n + 1)) d) (eq-eqb n n refl)
          ∙ kept_from ms (n + 1) (next m ms n are) (given_with g (made m)) d (λ q has. omega (arith, same_Some q p (sym has ∙ is), one_place))
          ∙ ap (λ (b : Bool). if b then mark_facts m else g d) ((bytes_decides m.doc d).1 doc)
          ∙ ap facts_of_mark (sym (ap (λ (i : ℕ). slice_get marks i) one_place ∙ first m ms n are))
      at false other rest =
          let apart : p ≢ n = eqb-false p n other in
          let above : n + 1 ≤ p = omega (arith, low, apart) in
          by (place m.doc) (λ h. rest h above)

  all : AreFrom marks 0
  all k = let same : ◌≡◌ {A = ℕ} k (0 + k) = omega arith in ap (λ (i : ℕ). slice_get marks i) same

  -- the effects of a mark where there is one, else what the document gave
  abbrev pub chosen : Option ℕ → List Fact → List Fact
  chosen None facts = facts
  chosen (Some p) facts = facts_of_mark (slice_get marks p)

  pub all_from : (g : Gives) (d : List ℕ) → given_after g (from marks 0) d ≡ chosen (place d) (g d)
  all_from g d = by (place d) refl
    where
      by : (o : Option ℕ) → place d ≡ o → given_after g (from marks 0) d ≡ chosen o (g d)
      by None is = kept_from marks 0 all g d (λ p has. absurd (none-some p (sym is ∙ has)))
      by (Some p) is = marked_from marks 0 all g d p is (omega arith)

  -- the documents of the changes are among these
  pub of_from : (docs : List (List ℕ)) → ((d : List ℕ) (p : ℕ) → place d ≡ Some p → among docs d ≡ true) → (ms : List Mark) (n : ℕ) → AreOf docs (from ms n)
  of_from docs in_docs [] n = tt
  of_from docs in_docs (m ∷ ms) n = by (place m.doc) refl (of_from docs in_docs ms (n + 1))
    where
      of : (p : ℕ) → place m.doc ≡ Some p → AreOf docs (from ms (n + 1)) → (b : Bool) → AreOf docs ((if b then made m ∷ [] else []) ++ from ms (n + 1))
      of p is rest true = (in_docs m.doc p is, rest)
      of p is rest false = rest

      by : (o : Option ℕ) → place m.doc ≡ o → AreOf docs (from ms (n + 1)) → AreOf docs (one o n m ++ from ms (n + 1))
      by None is rest = rest
      by (Some p) is rest = of p is rest (nat_eq p n)

module _ (marks : List Mark) (place : List ℕ → Option ℕ) (is_placed : (doc : List ℕ) (p : ℕ) → place doc ≡ Some p → Placed marks doc p) where
  -- a document whose mark stands before these is not among theirs
  not_from : (ms : List Mark) (n : ℕ) (d : List ℕ) (p : ℕ) → place d ≡ Some p → p < n → has_doc (from marks place is_placed ms n) d ≡ false
  not_from [] n d p is low = refl
  not_from (m ∷ ms) n d p is low = by (place m.doc) refl (not_from ms (n + 1) d p is (omega (arith, low)))
    where
      apart : (b : Bool) → bytes_eq m.doc d ≡ b → place m.doc ≡ Some n → has_doc (from marks place is_placed ms (n + 1)) d ≡ false → (b || has_doc (from marks place is_placed ms (n + 1)) d) ≡ false
      apart true at here rest = absurd (omega (arith, low, same_Some n p (sym here ∙ ap place ((bytes_decides m.doc d).0 at) ∙ is)))
      apart false at here rest = rest

      of : (q : ℕ) → place m.doc ≡ Some q → has_doc (from marks place is_placed ms (n + 1)) d ≡ false → (b : Bool) → nat_eq q n ≡ b → has_doc ((if b then made m ∷ [] else []) ++ from marks place is_placed ms (n + 1)) d ≡ false
      of q here rest true same = apart (bytes_eq m.doc d) refl (here ∙ ap (λ (i : ℕ). Some i) (eqb-true q n same)) rest
      of q here rest false other = rest

      by : (o : Option ℕ) → place m.doc ≡ o → has_doc (from marks place is_placed ms (n + 1)) d ≡ false → has_doc (one o n m ++ from marks place is_placed ms (n + 1)) d ≡ false
      by None here rest = rest
      by (Some q) here rest = of q here rest (nat_eq q n) refl

  -- each document is there once
  pub once_from : (ms : List Mark) (n : ℕ) → AreOnce (from marks place is_placed ms n)
  once_from [] n = tt
  once_from (m ∷ ms) n = by (place m.doc) refl (once_from ms (n + 1))
    where
      of : (q : ℕ) → place m.doc ≡ Some q → AreOnce (from marks place is_placed ms (n + 1)) → (b : Bool) → nat_eq q n ≡ b → AreOnce ((if b then made m ∷ [] else []) ++ from marks place is_placed ms (n + 1))
      of q here rest true same = (not_from ms (n + 1) m.doc q here (omega (arith, eqb-true q n same)), rest)
      of q here rest false other = rest

      by : (o : Option ℕ) → place m.doc ≡ o → AreOnce (from marks place is_placed ms (n + 1)) → AreOnce (one o n m ++ from marks place is_placed ms (n + 1))
      by None here rest = rest
      by (Some q) here rest = of q here rest (nat_eq q n) refl

not_below : (a b : ℕ) → b < a → nat_le a b ≡ false
not_below a b low = elim (cases_Bool (nat_le a b)) [
  | inl is ↦ absurd (omega (arith, low, leb-true a b is))
  | inr other ↦ other
]

picked : (marks : List Mark) (b : Bool) (s : NewState) → changes_by marks (if b then s ∷ [] else []) ≡ (if b then change_by (mark_among marks s.marked) else [])
picked marks true s = append-nil (change_by (mark_among marks s.marked))
picked marks false s = refl

module _ (law : Unwritten) (laws : MarkLaws) (e : Entry) (es : List Entry) (marks : List Mark) (has : option_map (λ (s : SyncEntry). s.marks) (as_sync e) ≡ Some marks) where
  -- the place of the mark of a document as it is
  abbrev place_of : List ℕ → Option Current → Option ℕ
  place_of doc None = None
  place_of doc (Some c) = mark_place marks doc c.rev

  abbrev place : List ℕ → Option ℕ
  place doc = place_of doc (current es doc)

  is_placed : (doc : List ℕ) (p : ℕ) → place doc ≡ Some p → Placed marks doc p
  is_placed doc p h = by (current es doc) h
    where
      by : (c : Option Current) → place_of doc c ≡ Some p → Placed marks doc p
      by None h = absurd (none-some p h)
      by (Some c) h = placed marks doc c.rev p h

  in_documents : (doc : List ℕ) (p : ℕ) → place doc ≡ Some p → among (documents_once es) doc ≡ true
  in_documents doc p h = elim (cases_Bool (among (documents_once es) doc)) [
    | inl is ↦ is
    | inr not ↦ absurd (none-some p (sym (ap (λ (c : Option Current). place_of doc c) (no_current es doc not)) ∙ h))
  ]

  -- what a document gives after the entry
  given_next : (doc : List ℕ) → given_at (e ∷ es) doc ≡ chosen marks place is_placed (place doc) (given_at es doc)
  given_next doc = ap document_facts (law e es doc (unwritten e es doc (neither e marks has).0)) ∙ by (current es doc)
    where
      of : (c : Current) (o : Option ℕ) → mark_place marks doc c.rev ≡ o → effect_facts (marked_state (got marks o) c).effects ≡ chosen marks place is_placed o (document_facts (Some c))
      of c None is = refl
      of c (Some p) is =
          let there = placed marks doc c.rev p is in
          ap (λ (o : Option Mark). effect_facts (marked_state o c).effects) there.there
          ∙ sym (ap facts_of_mark there.there)

      by : (c : Option Current) → document_facts (marked_by e doc c) ≡ chosen marks place is_placed (place_of doc c) (document_facts c)
      by None = refl
      by (Some c) =
          ap (λ (o : Option Mark). effect_facts (marked_state o c).effects) (mark_has (as_sync e) marks doc c.rev has ∙ place_gives marks doc c.rev)
          ∙ of c (mark_place marks doc c.rev) refl

  -- whether a mark has the effects of its document
  module _ (doc : List ℕ) (m : Mark) (n : ℕ) (at : slice_get marks n ≡ Some m) where
    here : write_to e doc ≡ None
    here = unwritten e es doc (neither e marks has).0

    same_last : last_write (e ∷ es) doc ≡ last_write es doc
    same_last = ap (λ (o : Option Write). sequenced_or o (length es + 1) (last_write es doc)) here

    same_won : (last : Sequenced) → winning_of (e ∷ es) doc last ≡ winning_of es doc last
    same_won last = ap (λ (o : Option Write). write_or (with_rev_or o (length es + 1) last.write.winner (write_of_rev es doc last.write.winner)) last) here

    older : (w : Sequenced) (q : Option Marked) → marked_after es w ≡ q → is_mark q (length (e ∷ es)) n ≡ false
    older w None is = refl
    older w (Some k) is =
        ap (λ (b : Bool). b && nat_eq k.mark n) (ne_eqb k.sync (length (e ∷ es)) (λ same. omega (arith, laws.within es w k is, same)))

    -- the state by the winner's write
    decide : (w : Sequenced) (o : Option ℕ) (s : NewState) → s.marked ≡ marked_or o (length es + 1) (marked_after es w) → changes_by marks (by_mark (Some s) (length (e ∷ es)) n) ≡ one o n m
    decide w None s is =
        ap (λ (b : Bool). changes_by marks (if b then s ∷ [] else [])) (ap (λ (q : Option Marked). is_mark q (length (e ∷ es)) n) is ∙ older w (marked_after es w) refl)
    decide w (Some p) s is =
        let newest : nat_eq (length es + 1) (length (e ∷ es)) ≡ true = eq-eqb (length es + 1) (length (e ∷ es)) (omega arith) in
        ap (λ (b : Bool). changes_by marks (if b then s ∷ [] else [])) (ap (λ (q : Option Marked). is_mark q (length (e ∷ es)) n) is ∙ ap (λ (b : Bool). b && nat_eq p n) newest)
        ∙ picked marks (nat_eq p n) s
        ∙ ap (λ (q : Option Marked). if nat_eq p n then change_by (mark_among marks q) else []) is
        ∙ by (nat_eq p n) refl
      where
        by : (b : Bool) → nat_eq p n ≡ b → (if b then change_by (slice_get marks p) else []) ≡ (if b then made m ∷ [] else [])
        by true same = ap change_by (ap (λ (i : ℕ). slice_get marks i) (eqb-true p n same) ∙ at)
        by false other = refl

    counted : changes_by marks (by_mark (state_of (e ∷ es) doc) (length (e ∷ es)) n) ≡ one (place doc) n m
    counted = by (last_write es doc) refl
      where
        of : (last : Sequenced) → last_write es doc ≡ Some last → (d : Document) → document_by (e ∷ es) doc (last_write (e ∷ es) doc) ≡ Some d
            → changes_by marks (by_mark (state_by (e ∷ es) (Some d)) (length (e ∷ es)) n) ≡ one (mark_place marks doc (winning_of es doc last).write.rev) n m
        of last is d document =
            let f = found (e ∷ es) doc d document in
            let one_last : f.last ≡ last = same_Some f.last last (sym f.last_is ∙ same_last ∙ is) in
            let w = winning_of es doc last in
            let won : winning_of (e ∷ es) doc f.last ≡ w = ap (λ (l : Sequenced). winning_of (e ∷ es) doc l) one_last ∙ same_won last in
            let stands = last_at es doc last is in
            let wins = winning_at es doc last stands.0 stands.1 in
            let above : nat_le (length es + 1) w.seq ≡ false = not_below (length es + 1) w.seq (omega (arith, wins.0.high)) in
            let placed_at : place_by e w.write.doc w.write.rev ≡ mark_place marks doc w.write.rev = place_has (as_sync e) marks w.write.doc w.write.rev has ∙ ap (λ (x : List ℕ). mark_place marks x w.write.rev) wins.1 in
            decide w (mark_place marks doc w.write.rev) _
            (marked_is (e ∷ es) doc d document
            ∙ ap (λ (x : Sequenced). marked_after (e ∷ es) x) won
            ∙ ap (λ (b : Bool). if b then None else marked_or (place_by e w.write.doc w.write.rev) (length es + 1) (marked_after es w)) above
            ∙ ap (λ (o : Option ℕ). marked_or o (length es + 1) (marked_after es w)) placed_at)

        by : (o : Option Sequenced) → last_write es doc ≡ o → changes_by marks (by_mark (state_of (e ∷ es) doc) (length (e ∷ es)) n) ≡ one (place doc) n m
        by None is =
            ap (λ (o : Option Sequenced). changes_by marks (by_mark (state_by (e ∷ es) (document_by (e ∷ es) doc o)) (length (e ∷ es)) n)) (same_last ∙ is)
            ∙ sym (ap (λ (o : Option Sequenced). one (place_of doc (current_after es doc o)) n m) is)
        by (Some last) is =
            ap (λ (o : Option Sequenced). changes_by marks (by_mark (state_by (e ∷ es) (document_by (e ∷ es) doc o)) (length (e ∷ es)) n)) (same_last ∙ is)
            ∙ of last is _ (ap (λ (o : Option Sequenced). document_by (e ∷ es) doc o) (same_last ∙ is))
            ∙ sym (ap (λ (o : Option Sequenced). one (place_of doc (current_after es doc o)) n m) is)

  -- the changes by the states are those at the places
  changes_are : (ms : List Mark) (n : ℕ) → ((k : ℕ) → slice_get ms k ≡ slice_get marks (n + k)) → changes_by marks (by_marks (e ∷ es) ms n) ≡ from marks place is_placed ms n
  changes_are [] n are = refl
  changes_are (m ∷ ms) n are =
      changes_append marks (by_mark (state_of (e ∷ es) m.doc) (length (e ∷ es)) n) (by_marks (e ∷ es) ms (n + 1))
      ∙ ap (λ (l : List DocumentFacts). l ++ changes_by marks (by_marks (e ∷ es) ms (n + 1))) (counted m.doc m n (first marks place is_placed m ms n are))
      ∙ ap (λ (l : List DocumentFacts). one (place m.doc) n m ++ l) (changes_are ms (n + 1) (next marks place is_placed m ms n are))

  pub marking : (kept : Ledger) (at : ℕ) (states : List NewState) → IsMarking kept at marks states e es → AreChanges kept at (changes_by marks states) e es
  marking kept at states is = record {
    place = is.place;
    is_kept = is.is_kept;
    documents = λ doc. given_next doc ∙ sym (all_from marks place is_placed (given_at es) doc) ∙ ap (λ (cs : List DocumentFacts). given_after (given_at es) cs doc) (sym same);
    users = λ name. principal_same e es (User name) (neither e marks has).1;
    roles = λ name. principal_same e es (Role name) (neither e marks has).1;
    sums = λ f.
        let puts : times (put_facts f.of (principal_of (e ∷ es) f.of)) f ≡ times (put_facts f.of (principal_of es f.of)) f = ap (λ (s : Option PrincipalState). times (put_facts f.of s) f) (principal_same e es f.of (neither e marks has).1) in
        let docs : given_by (e ∷ es) (documents_once (e ∷ es)) f ≡ given_by (e ∷ es) (documents_once es) f = ap (λ (l : List (List ℕ)). given_by (e ∷ es) l f) (once_idle e es (neither e marks has).0) in
        let after : given_by (e ∷ es) (documents_once es) f ≡ sum_given (given_after (given_at es) (changes_by marks states)) (documents_once es) f =
        summed (e ∷ es) (documents_once es) f
        ∙ sum_same (given_at (e ∷ es)) (λ doc. given_after (given_at es) (changes_by marks states) doc) (λ doc. given_next doc ∙ sym (all_from marks place is_placed (given_at es) doc) ∙ ap (λ (cs : List DocumentFacts). given_after (given_at es) cs doc) (sym same)) (documents_once es) f in
        let sums = sums_changed (documents_once es) (once es) (given_at es) (changes_by marks states) f (subst (λ (cs : List DocumentFacts). AreOf (documents_once es) cs) (sym same) (of_from marks place is_placed (documents_once es) in_documents marks 0)) in
        omega (arith, puts, docs, after, sums, summed es (documents_once es) f);
  }
    where
      same : changes_by marks states ≡ from marks place is_placed marks 0
      same = ap (λ (l : List NewState). changes_by marks l) is.are ∙ changes_are marks 0 (all marks place is_placed)

  -- the same of those alone of which the document gives something else
  pub marking_others : (kept : Ledger) (at : ℕ) (states : List NewState) → IsMarking kept at marks states e es → AreChanges kept at (others (kept_of kept) (changes_by marks states)) e es
  marking_others kept at states is =
      fewer_changes kept at (changes_by marks states) e es (subst (λ (cs : List DocumentFacts). AreOnce cs) (sym same) (once_from marks place is_placed marks 0)) (marking kept at states is)
    where
      same : changes_by marks states ≡ from marks place is_placed marks 0
      same = ap (λ (l : List NewState). changes_by marks l) is.are ∙ changes_are marks 0 (all marks place is_placed)

  -- none where each source gives the same
  pub marking_none : (kept : Ledger) (at : ℕ) (states : List NewState) → IsMarking kept at marks states e es → GiveSame (e ∷ es) es → others (kept_of kept) (changes_by marks states) ≡ []
  marking_none kept at states is =
      no_changes kept at (changes_by marks states) e es (subst (λ (cs : List DocumentFacts). AreOnce cs) (sym same) (once_from marks place is_placed marks 0)) (marking kept at states is)
    where
      same : changes_by marks states ≡ from marks place is_placed marks 0
      same = ap (λ (l : List NewState). changes_by marks l) is.are ∙ changes_are marks 0 (all marks place is_placed)
