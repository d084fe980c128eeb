-- What several documents give from one place on. Only proofs need it.
use Rattle.std.specs.Prelude.{◌≡◌, ℕ, ◌+◌, List, [], ◌∷◌, ◌++◌, length, map, option_map, slice_get, true, is_some, Option, Some, None, if◌then◌else◌}
use Rattle.std.specs.BTreeMap.{get_by_text}
use Rattle.std.specs.Str.{bytes_eq}
use Rattle.sg_history.specs.declared.entries.Entry.{Entry}
use Rattle.sg_history.specs.declared.entries.Mark.{Mark}
use Rattle.sg_history.specs.History.{as_sync}
use Rattle.sg_history.specs.Current.{current}
use Rattle.sg_history.specs.Principals.{user_at, role_at}
use Rattle.log_index.specs.declared.marks.Marked.{Marked}
use Rattle.grant_history.specs.declared.changes.Change.{Change}
use Rattle.grant_history.specs.declared.facts.Fact.{Fact}
use Rattle.grant_history.specs.declared.ledger.Ledger.{Ledger}
use Rattle.grant_history.specs.declared.states.NewState.{NewState}
use Rattle.grant_history.specs.Facts.{same_facts, times, document_facts, mark_facts}
use Rattle.grant_history.specs.Ledger.{Lists, IsLedger}
use Rattle.grant_history.specs.NewStates.{by_marks}
use Rattle.grant_history.specs.Sources.{sources}

-- what a document gives
pub record DocumentFacts : Type 0 where
  pub doc : List ℕ
  pub facts : List Fact

abbrev pub facts_in_change : Change → DocumentFacts
facts_in_change c = record { doc = c.doc.now; facts = c.list.facts.items }

abbrev pub facts_in_changes : List Change → List DocumentFacts
facts_in_changes changes = map facts_in_change changes

-- how often these give something
abbrev pub all_times : List DocumentFacts → Fact → ℕ
all_times [] f = 0
all_times (c ∷ cs) f = times c.facts f + all_times cs f

-- what documents give once one gives other facts
abbrev pub given_with : (List ℕ → List Fact) → DocumentFacts → List ℕ → List Fact
given_with gives c doc = if bytes_eq c.doc doc then c.facts else gives doc

-- the same once all of these do, one after the other
abbrev pub given_after : (List ℕ → List Fact) → List DocumentFacts → List ℕ → List Fact
given_after gives [] doc = gives doc
given_after gives (c ∷ cs) doc = given_after (given_with gives c) cs doc

-- what each of these gave before its turn
abbrev pub given_before : (List ℕ → List Fact) → List DocumentFacts → List DocumentFacts
given_before gives [] = []
given_before gives (c ∷ cs) = record { doc = c.doc; facts = gives c.doc } ∷ given_before (given_with gives c) cs

-- something is kept of each of these documents
abbrev pub AreKept : Lists → List DocumentFacts → Type 0
AreKept lists [] = Unit {0}
AreKept lists (c ∷ cs) = (is_some (get_by_text lists c.doc) ≡ true) × AreKept lists cs

-- those of which the document gives something else
abbrev pub others : (List ℕ → List Fact) → List DocumentFacts → List DocumentFacts
others gives [] = []
others gives (c ∷ cs) = if same_facts (gives c.doc) c.facts then others gives cs else c ∷ others gives cs

-- what documents give after some entries
abbrev pub given_at : List Entry → List ℕ → List Fact
given_at es doc = document_facts (current es doc)

-- the entry at a place makes documents give other facts
pub record AreChanges (kept : Ledger) (at : ℕ) (changes : List DocumentFacts) (e : Entry) (es : List Entry) : Type 0 where
  pub place : at ≡ length es + 1
  pub is_kept : IsLedger kept es
  pub documents : (doc : List ℕ) → given_at (e ∷ es) doc ≡ given_after (given_at es) changes doc
  pub users : (name : List ℕ) → user_at (e ∷ es) name ≡ user_at es name
  pub roles : (name : List ℕ) → role_at (e ∷ es) name ≡ role_at es name
  pub sums : (f : Fact) → sources (e ∷ es) f + all_times (given_before (given_at es) changes) f ≡ sources es f + all_times changes f

-- the mark, of these, that has the effects of a state, if one has
abbrev pub mark_among : List Mark → Option Marked → Option Mark
mark_among marks None = None
mark_among marks (Some m) = slice_get marks m.mark

-- what the document of a mark gives by it, where there is one
abbrev pub change_by : Option Mark → List DocumentFacts
change_by None = []
change_by (Some mark) = record { doc = mark.doc; facts = mark_facts mark } ∷ []

-- what the documents of these states give by the marks that have their effects
abbrev pub changes_by : List Mark → List NewState → List DocumentFacts
changes_by marks [] = []
changes_by marks (s ∷ ss) = change_by (mark_among marks s.marked) ++ changes_by marks ss

-- the entry at a place replaces the sync function, with these marks, which give their effects to these states
pub record IsMarking (kept : Ledger) (at : ℕ) (marks : List Mark) (states : List NewState) (e : Entry) (es : List Entry) : Type 0 where
  pub place : at ≡ length es + 1
  pub is_kept : IsLedger kept es
  pub has : option_map (λ s. s.marks) (as_sync e) ≡ Some marks
  pub are : states ≡ by_marks (e ∷ es) marks 0
