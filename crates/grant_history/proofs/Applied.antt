-- the places of a log, and a history of grants that applied the next one
use Rattle.std.proofs.Common.{◌≡◌, ◌⊎◌, inl, inr, ◌<◌, ◌≤◌, ◌+◌, ◌-◌, ℕ, zero, suc, refl, sym, ◌∙◌, ap, subst, arith, nat_lt, List, [], ◌∷◌, ◌++◌, length, take, reverse, Option, Some, None}
use Rattle.std.specs.Prelude.{slice_get, option_map}
use Rattle.std.proofs.lemmas.Bool.{cases_lt}
use Rattle.std.proofs.lemmas.List.{length-append, reverse-reverse, reverse-append, length-reverse, length-take-le, take-take}
use Rattle.std.proofs.lemmas.Option.{none-some, same_Some}
use Rattle.sg_history.specs.declared.entries.Entry.{Entry}
use Rattle.sg_history.specs.declared.entries.Entry.TheVariants as entry
use Rattle.sg_history.specs.declared.entries.Mark.{Mark}
use Rattle.sg_history.specs.declared.entries.Write.{Write}
use Rattle.sg_history.specs.History.{SyncEntry, Extends, past, as_sync, as_write}
use Rattle.sg_history.proofs.Books.{same_past}
use Rattle.sg_history.specs.Current.{Sequenced, current, current_after}
use Rattle.log_index.specs.declared.index.LogIndex.{LogIndex}
use Rattle.log_index.specs.Index.{Indexes}
use Rattle.log_views.specs.States.{since_by}
use Rattle.log_views.proofs.Placed.{nothing}
use Rattle.grant_history.specs.declared.facts.Fact.{Fact}
use Rattle.grant_history.specs.declared.history.GrantHistory.{GrantHistory}
use Rattle.grant_history.specs.declared.ledger.Ledger.{Ledger}
use Rattle.grant_history.specs.declared.states.NewState.{NewState}
use Rattle.grant_history.specs.Facts.{document_facts}
use Rattle.grant_history.specs.Store.{has_at}
use Rattle.grant_history.specs.Sources.{is_held}
use Rattle.grant_history.specs.Ledger.{facts_read, given, GiveSame, IsLedger, Took}
use Rattle.grant_history.specs.LedgerAt.{LedgerAt, IsNextApplied}
use Rattle.grant_history.specs.inner.Changes.{IsMarking}
use Rattle.grant_history.specs.NewStates.{by_marks, state_of}
use Rattle.grant_history.specs.Stands.{IsIndexed, StandsFor}
use Rattle.grant_history.proofs.Keeping.{settled, later_store}
use Rattle.grant_history.proofs.Standing.{MarkLaws, since_low, since_high, facts_stand, nowhere}

take_next : (entries : List Entry) (n : ℕ) (e : Entry) → slice_get entries n ≡ Some e → take (suc n) entries ≡ take n entries ++ e ∷ []
take_next [] n e h = absurd (none-some e h)
take_next (x ∷ xs) zero e h = ap (λ (y : Entry). y ∷ []) (same_Some x e h)
take_next (x ∷ xs) (suc n) e h = ap (λ (l : List Entry). x ∷ l) (take_next xs n e h)

pub past_next : (entries : List Entry) (n : ℕ) (e : Entry) → slice_get entries n ≡ Some e → past entries (n + 1) ≡ e ∷ past entries n
past_next entries n e h =
    let one : ◌≡◌ {A = ℕ} (n + 1) (suc n) = omega arith in
    ap (λ (m : ℕ). past entries m) one
    ∙ ap (λ (l : List Entry). reverse l) (take_next entries n e h)
    ∙ reverse-append (take n entries) (e ∷ [])

take_within : (xs : List Entry) (n : ℕ) → length (take n xs) ≤ n
take_within [] zero = omega arith
take_within [] (suc n) = omega arith
take_within (x ∷ xs) zero = omega arith
take_within (x ∷ xs) (suc n) = omega (arith, take_within xs n)

pub past_within : (entries : List Entry) (n : ℕ) → length (past entries n) ≤ n
past_within entries n = omega (arith, length-reverse (take n entries), take_within entries n)

pub past_count : (entries : List Entry) (n : ℕ) → n ≤ length entries → length (past entries n) ≡ n
past_count entries n h = length-reverse (take n entries) ∙ length-take-le n entries h

got_taken : (entries : List Entry) (n i : ℕ) → i < n → slice_get (take n entries) i ≡ slice_get entries i
got_taken entries zero i h = absurd (omega (arith, h))
got_taken [] (suc n) i h = refl
got_taken (x ∷ xs) (suc n) zero h = refl
got_taken (x ∷ xs) (suc n) (suc i) h = got_taken xs n i (omega (arith, h))

module _ (entries : List Entry) (n : ℕ) (doc : List ℕ) (high : n ≤ length entries) where
  pub no_document : state_of (past entries n) doc ≡ None → [] ≡ document_facts (current (past entries n) doc)
  no_document h = sym (ap (λ (o : Option Sequenced). document_facts (current_after (past entries n) doc o)) (nothing (past entries n) doc (nowhere (past entries n) doc h)))

  module _ (laws : MarkLaws) (s : NewState) (at : state_of (past entries n) doc ≡ Some s) where
    pub read_low : 1 ≤ since_by s.marked s.winning
    read_low = since_low laws (past entries n) doc s at

    read_high : since_by s.marked s.winning ≤ n
    read_high = omega (arith, since_high laws (past entries n) doc s at, past_count entries n high)

    pub read_within : since_by s.marked s.winning ≤ length entries
    read_within = omega (arith, read_high, high)

    pub document_read : (e : Entry) → slice_get entries (since_by s.marked s.winning - 1) ≡ Some e → facts_read e s.marked ≡ document_facts (current (past entries n) doc)
    document_read e read =
        let place : since_by s.marked s.winning - 1 < n = omega (arith, read_low, read_high) in
        facts_stand laws (past entries n) doc s at e
        (ap (λ (l : List Entry). slice_get l (since_by s.marked s.winning - 1)) (reverse-reverse (take n entries))
        ∙ got_taken entries n (since_by s.marked s.winning - 1) place
        ∙ read)

-- a step of what is kept from a place to the next one
module _ (old kept : Ledger) (entries : List Entry) (e : Entry) (n at : ℕ) (place : at ≡ n + 1) (newest : past entries at ≡ e ∷ past entries n) (was : LedgerAt old entries n) (before : (f : Fact) (k : ℕ) → k < at → has_at kept.store f k ≡ has_at old.store f k) where
  pub advanced : Took kept at e (past entries n) → LedgerAt kept entries at
  advanced took = record {
    is_kept = subst (λ (es : List Entry). IsLedger kept es) (sym newest) took.is_kept;
    held = λ k f le. elim (cases_lt k at) [
      | inl below ↦ before f k below ∙ was.held k f (omega (arith, below, place))
      | inr above ↦
          let here : k ≡ at = omega (arith, above, le) in
          ap (λ (m : ℕ). has_at kept.store f m) here ∙ took.now f ∙ ap (λ (es : List Entry). is_held es f) (sym newest) ∙ ap (λ (m : ℕ). is_held (past entries m) f) (sym here)
    ];
  }

module _ (index : LogIndex) (ledger : Ledger) (entries : List Entry) (e : Entry) (at : ℕ) (next : IsNextApplied index ledger entries e at) where
  pub next_place : at ≡ length (past entries (at - 1)) + 1
  next_place =
      let low : at - 1 ≤ length entries = omega (arith, next.high) in
      omega (arith, next.low, past_count entries (at - 1) low)

  -- the entry replaces the sync function
  pub marking_next : (text : List ℕ) (marks : List Mark) → e ≡ entry.Sync text marks → IsMarking ledger at marks (by_marks index marks 0) e (past entries (at - 1))
  marking_next text marks here = record {
    place = next_place;
    is_kept = next.kept.is_kept;
    has = ap (λ (x : Entry). option_map (λ (s : SyncEntry). s.marks) (as_sync x)) here;
    are = ap (λ (es : List Entry). by_marks es marks 0) (next.index ∙ next.newest);
  }

  module _ (kept : Ledger) (before : (f : Fact) (k : ℕ) → k < at → has_at kept.store f k ≡ has_at ledger.store f k) where
    pub taken : Took kept at e (past entries (at - 1)) → LedgerAt kept entries at
    taken took = advanced ledger kept entries e (at - 1) at (omega (arith, next.low)) next.newest next.kept before took

    pub left : IsLedger kept (past entries (at - 1)) → LedgerAt kept entries (at - 1)
    left is = record {
      is_kept = is;
      held = λ k f le. before f k (omega (arith, le, next.low)) ∙ next.kept.held k f le;
    }

-- what is held at the last place is held from there on
pub held_on : (kept : Ledger) (entries : List Entry) (n k : ℕ) (f : Fact) → n ≤ length entries → LedgerAt kept entries n → n ≤ k → has_at kept.store f k ≡ is_held (past entries n) f
held_on kept entries n k f high at le = elim (cases_lt k (n + 1)) [
  | inl below ↦
      let here : k ≡ n = omega (arith, below, le) in
      ap (λ (m : ℕ). has_at kept.store f m) here ∙ at.held n f (omega arith)
  | inr above ↦
      settled kept.store k f (later_store kept.store (length (past entries n) + 1) k (omega (arith, above, past_count entries n high)) at.is_kept.up_to)
      ∙ ap (λ (m : ℕ). nat_lt 0 m) (at.is_kept.counts f)
]

-- the index before and after the next entry
module _ (index : LogIndex) (entries : List Entry) (n : ℕ) (e : Entry) (is : slice_get entries n ≡ Some e) (more : n < length entries) where
  pub to_either : IsIndexed index entries n → Indexes index (past entries n) ⊎ Indexes index (e ∷ past entries n)
  to_either (inl h) = inl h
  to_either (inr h) = inr (subst (λ (es : List Entry). Indexes index es) (past_next entries n e is) h.1)

  pub from_either : Indexes index (past entries n) ⊎ Indexes index (e ∷ past entries n) → IsIndexed index entries n
  from_either (inl h) = inl h
  from_either (inr h) = inr (more, subst (λ (es : List Entry). Indexes index es) (sym (past_next entries n e is)) h)

pub no_write : (e : Entry) → ((w : Write) → e ≡ entry.Write w → ⊥) → as_write e ≡ None
no_write (entry.Write w) not = absurd (not w refl)
no_write (entry.PutUser name channels roles) not = refl
no_write (entry.PutRole name channels) not = refl
no_write (entry.DropUser name) not = refl
no_write (entry.DropRole name) not = refl
no_write (entry.Sync text marks) not = refl
no_write entry.Unused not = refl

pub no_sync : (e : Entry) → ((text : List ℕ) (marks : List Mark) → e ≡ entry.Sync text marks → ⊥) → as_sync e ≡ None
no_sync (entry.Write w) not = refl
no_sync (entry.PutUser name channels roles) not = refl
no_sync (entry.PutRole name channels) not = refl
no_sync (entry.DropUser name) not = refl
no_sync (entry.DropRole name) not = refl
no_sync (entry.Sync text marks) not = absurd (not text marks refl)
no_sync entry.Unused not = refl

-- a longer log
longer : (earlier later : List Entry) → Extends earlier later → length earlier ≤ length later
longer earlier later extends = omega (arith, ap length extends.1, length-append earlier extends.0)

indexed_longer : (index : LogIndex) (earlier later : List Entry) (n : ℕ) → n ≤ length earlier → Extends earlier later → IsIndexed index earlier n → IsIndexed index later n
indexed_longer index earlier later n high extends (inl h) = inl (subst (λ (es : List Entry). Indexes index es) (sym (same_past earlier later n extends high)) h)
indexed_longer index earlier later n high extends (inr h) = inr (
  omega (arith, h.0, longer earlier later extends),
  subst (λ (es : List Entry). Indexes index es) (sym (same_past earlier later (n + 1) extends (omega (arith, h.0)))) h.1,
)

pub stands_longer : (history : GrantHistory) (earlier later : List Entry) → StandsFor history earlier → Extends earlier later → StandsFor history later
stands_longer history earlier later stands extends = record {
  within = omega (arith, stands.within, longer earlier later extends);
  index = indexed_longer history.index earlier later history.applied stands.within extends stands.index;
}

-- what is kept by one log is by another that has the same entries up to there
kept_same : (kept : Ledger) (xs ys : List Entry) (n : ℕ) → ((k : ℕ) → k ≤ n → past xs k ≡ past ys k) → LedgerAt kept xs n → LedgerAt kept ys n
kept_same kept xs ys n same at = record {
  is_kept = subst (λ (es : List Entry). IsLedger kept es) (same n (omega arith)) at.is_kept;
  held = λ k f le. at.held k f le ∙ ap (λ (es : List Entry). is_held es f) (same k le);
}

-- the entries that the index has are the first ones of the log
begins : (index : LogIndex) (entries : List Entry) (m k : ℕ) → k ≤ m → Indexes index (past entries m) → past (reverse index) k ≡ past entries k
begins index entries m k le is =
    ap (λ (es : List Entry). past (reverse es) k) is
    ∙ ap (λ (es : List Entry). past es k) (reverse-reverse (take m entries))
    ∙ ap (λ (es : List Entry). reverse es) (take-take k m entries le)

same_first : (index : LogIndex) (entries : List Entry) (n k : ℕ) → k ≤ n → IsIndexed index entries n → past (reverse index) k ≡ past entries k
same_first index entries n k le (inl h) = begins index entries n k le h
same_first index entries n k le (inr h) = begins index entries (n + 1) k (omega (arith, le)) h.1

pub kept_by_log : (kept : Ledger) (history : GrantHistory) (entries : List Entry) → StandsFor history entries → LedgerAt kept (reverse history.index) history.applied → LedgerAt kept entries history.applied
kept_by_log kept history entries stands at =
    kept_same kept (reverse history.index) entries history.applied (λ k le. same_first history.index entries history.applied k le stands.index) at

pub kept_by_index : (kept : Ledger) (index : LogIndex) (entries : List Entry) (n : ℕ) → IsIndexed index entries n → LedgerAt kept entries n → LedgerAt kept (reverse index) n
kept_by_index kept index entries n is at =
    kept_same kept entries (reverse index) n (λ k le. sym (same_first index entries n k le is)) at

-- the next entry, which the index has, is to be applied
pub next_one : (index : LogIndex) (ledger : Ledger) (entries : List Entry) (n : ℕ) (e : Entry) → slice_get entries n ≡ Some e → n < length entries → index ≡ e ∷ past entries n → LedgerAt ledger entries n → IsNextApplied index ledger entries e (n + 1)
next_one index ledger entries n e is more has at =
    let minus : n ≡ n + 1 - 1 = omega arith in
    record {
      low = omega arith;
      high = omega (arith, more);
      newest = past_next entries n e is ∙ ap (λ (m : ℕ). e ∷ past entries m) minus;
      index = has ∙ sym (past_next entries n e is);
      kept = subst (λ (m : ℕ). LedgerAt ledger entries m) minus at;
    }

-- what gives the same from one place of a log to the next, with the log and the place named otherwise
pub gave_same : (entries all : List Entry) (n m : ℕ) → all ≡ entries → n ≡ m → GiveSame (past entries (m + 1)) (past entries m) → GiveSame (past all (n + 1)) (past all (n + 1 - 1))
gave_same entries all n m kept end same s =
    let minus : ◌≡◌ {A = ℕ} (n + 1 - 1) m = omega (arith, end) in
    ap (λ (l : List Entry). given (past l (n + 1)) s) kept
    ∙ ap (λ (k : ℕ). given (past entries (k + 1)) s) end
    ∙ same s
    ∙ sym (ap (λ (k : ℕ). given (past entries k) s) minus)
    ∙ sym (ap (λ (l : List Entry). given (past l (n + 1 - 1)) s) kept)

-- the same, where the next entry is named
pub gave_next : (entries : List Entry) (e : Entry) (at : ℕ) → past entries at ≡ e ∷ past entries (at - 1) → GiveSame (past entries at) (past entries (at - 1)) → GiveSame (e ∷ past entries (at - 1)) (past entries (at - 1))
gave_next entries e at newest same s = sym (ap (λ (l : List Entry). given l s) newest) ∙ same s
