-- the states that documents have from each entry of a log on
use Rattle.std.proofs.Common.{◌≡◌, ◌<◌, ◌≤◌, ◌+◌, ℕ, refl, sym, ◌∙◌, ap, subst, arith, inl, inr, List, [], ◌∷◌, length, take, drop, Option, Some}
use Rattle.std.specs.Prelude.{slice_get, option_map}
use Rattle.std.proofs.lemmas.Bool.{cases_lt}
use Rattle.std.proofs.lemmas.List.{length-take-le, take-append-drop}
use Rattle.std.specs.BTreeMap.{get_by_text}
use Rattle.sg_history.specs.declared.entries.Entry.{Entry}
use Rattle.sg_history.specs.declared.entries.Entry.TheVariants as entry
use Rattle.sg_history.specs.declared.entries.Mark.{Mark}
use Rattle.sg_history.specs.declared.entries.Write.{Write}
use Rattle.sg_history.specs.History.{SyncEntry, as_sync, as_write, past, Extends}
use Rattle.sg_history.proofs.Books.{same_past}
use Rattle.log_views.specs.At.{written}
use Rattle.sg_history.specs.Current.{current}
use Rattle.sg_history.specs.Principals.{as_put, has_channel}
use Rattle.grant_history.specs.declared.facts.Fact.{Fact}
use Rattle.grant_history.specs.declared.ledger.Ledger.{Ledger}
use Rattle.grant_history.specs.declared.periods.Period.{Period}
use Rattle.grant_history.specs.declared.states.NewState.{NewState}
use Rattle.grant_history.specs.declared.store.Store.{Store}
use Rattle.grant_history.specs.Facts.{document_facts}
use Rattle.grant_history.specs.Store.{has_at}
use Rattle.grant_history.specs.Ledger.{document, IsStep, Took}
use Rattle.grant_history.specs.Periods.{AreAllPeriods, ArePeriods}
use Rattle.grant_tracks.specs.Reads.{user_channel}
use Rattle.grant_history.specs.LedgerAt.{LedgerAt, StoreAt}
use Rattle.grant_history.specs.inner.Changes.{IsMarking}
use Rattle.grant_history.specs.inner.MoreStates.{IsOneMore}
use Rattle.grant_history.specs.NewStates.{AreNewStates, KeptStates, by_marks, marked_at, marked_in, replaced, state_of, state_written, states_marked, written_at, written_in}
use Rattle.grant_history.proofs.Applied.{advanced, held_on, past_count, past_next}
use Rattle.grant_history.proofs.Keeping.{write_is_step}
use Rattle.grant_history.proofs.Steps.{Unwritten}
use Rattle.grant_history.proofs.Reading.{user_channels}

module _ (entries : List Entry) (i : ℕ) (e : Entry) (is : slice_get entries i ≡ Some e) where
  written_is : state_written (e ∷ past entries i) (as_write e) ≡ written_at entries i
  written_is =
      ap (λ (es : List Entry). state_written es (as_write e)) (sym (past_next entries i e is))
      ∙ ap (λ (o : Option Entry). state_written (past entries (i + 1)) (written o)) (sym is)

  marked_is : states_marked (e ∷ past entries i) (as_sync e) ≡ marked_at entries i
  marked_is =
      ap (λ (es : List Entry). states_marked es (as_sync e)) (sym (past_next entries i e is))
      ∙ ap (λ (o : Option Entry). states_marked (past entries (i + 1)) (replaced o)) (sym is)

  pub state_of_write : (w : Write) → as_write e ≡ Some w → written_at entries i ≡ state_of (past entries (i + 1)) w.doc
  state_of_write w writes =
      ap (λ (o : Option Entry). state_written (past entries (i + 1)) (written o)) is
      ∙ ap (λ (o : Option Write). state_written (past entries (i + 1)) o) writes

  pub states_of_sync : (s : SyncEntry) → as_sync e ≡ Some s → marked_at entries i ≡ by_marks (e ∷ past entries i) s.marks 0
  states_of_sync s replaces = sym marked_is ∙ ap (λ (o : Option SyncEntry). states_marked (e ∷ past entries i) o) replaces

  -- one entry more
  pub more_states : (old new : KeptStates) → AreNewStates entries old i → IsOneMore old new (state_written (e ∷ past entries i) (as_write e)) (states_marked (e ∷ past entries i) (as_sync e)) → AreNewStates entries new (i + 1)
  more_states old new are more = record {
    count = omega (arith, more.count, are.count);
    written = λ j below. elim (cases_lt j i) [
      | inl lower ↦ more.written_before j (omega (arith, lower, are.count)) ∙ are.written j lower
      | inr above ↦
          let here : j ≡ i = omega (arith, above, below) in
          ap (λ (m : ℕ). written_in new m) (here ∙ sym are.count) ∙ more.written ∙ written_is ∙ ap (λ (m : ℕ). written_at entries m) (sym here)
    ];
    marked = λ j below. elim (cases_lt j i) [
      | inl lower ↦ more.marked_before j (omega (arith, lower, are.count)) ∙ are.marked j lower
      | inr above ↦
          let here : j ≡ i = omega (arith, above, below) in
          ap (λ (m : ℕ). marked_in new m) (here ∙ sym are.count) ∙ more.marked ∙ marked_is ∙ ap (λ (m : ℕ). marked_at entries m) (sym here)
    ];
  }

-- what is kept before the entry at a place, counted from 0, and after it
module _ (old : Ledger) (entries : List Entry) (i : ℕ) (e : Entry) (is : slice_get entries i ≡ Some e) (more : i < length entries) (kept : LedgerAt old entries i) where
  pub place_at : i + 1 ≡ length (past entries i) + 1
  place_at = let low : i ≤ length entries = omega (arith, more) in omega (arith, past_count entries i low)

  pub write_step_at : (law : Unwritten) (w : Write) → e ≡ entry.Write w → (facts : List Fact) → facts ≡ document_facts (current (past entries (i + 1)) w.doc) → IsStep old (i + 1) (document w.doc) facts e (past entries i)
  write_step_at law w here facts now =
      let step = write_is_step law old e (past entries i) (i + 1) place_at kept.is_kept w (ap as_write here) (ap as_put here) in
      let same : facts ≡ document_facts (current (e ∷ past entries i) w.doc) = now ∙ ap (λ (es : List Entry). document_facts (current es w.doc)) (past_next entries i e is) in
      subst (λ (fs : List Fact). IsStep old (i + 1) (document w.doc) fs e (past entries i)) (sym same) step

  -- the entry replaces the sync function
  pub marking_at : (text : List ℕ) (marks : List Mark) → e ≡ entry.Sync text marks → (states : List NewState) → states ≡ marked_at entries i → IsMarking old (i + 1) marks states e (past entries i)
  marking_at text marks here states at = record {
    place = place_at;
    is_kept = kept.is_kept;
    has = ap (λ (x : Entry). option_map (λ (s : SyncEntry). s.marks) (as_sync x)) here;
    are = at ∙ states_of_sync entries i e is (record { text = text; marks = marks }) (ap as_sync here);
  }

  pub kept_after : (new : Ledger) → ((f : Fact) (k : ℕ) → k < i + 1 → has_at new.store f k ≡ has_at old.store f k) → Took new (i + 1) e (past entries i) → LedgerAt new entries (i + 1)
  kept_after new before took = advanced old new entries e i (i + 1) refl (past_next entries i e is) kept before took

-- the periods of a user by what is kept of the first entries of a log
module _ (store : Store) (entries : List Entry) (front : ℕ) (high : front ≤ length entries) (is : StoreAt store (take front entries) (length (take front entries))) where
  long : length (take front entries) ≡ front
  long = length-take-le front entries high

  kept_at : LedgerAt is.kept (take front entries) front
  kept_at = subst (λ (n : ℕ). LedgerAt is.kept (take front entries) n) long is.at

  begins : Extends (take front entries) entries
  begins = (drop front entries, sym (take-append-drop front entries))

  prior : (k : ℕ) → k ≤ front → past (take front entries) k ≡ past entries k
  prior k le = sym (same_past (take front entries) entries k begins (omega (arith, le, long)))

  pub periods_are : (user : List ℕ) (periods : List Period) → AreAllPeriods periods (λ c k. user_channel store.roles (get_by_text store.users user) k c) → ArePeriods periods (λ c k. has_channel (past entries k) user c) front
  periods_are user periods found =
      let all = subst (λ (s : Store). AreAllPeriods periods (λ c k. user_channel s.roles (get_by_text s.users user) k c)) (sym is.same) found in
      record {
        says = λ x k le.
            all.says x k
            ∙ user_channels is.kept.store _ k (past (take front entries) k) kept_at.is_kept.up_to (λ f. kept_at.held k f le) user x
            ∙ ap (λ (es : List Entry). has_channel es user x) (prior k le);
        lasts = λ x k le.
            all.says x k
            ∙ user_channels is.kept.store _ k (past (take front entries) front) kept_at.is_kept.up_to
            (λ f. held_on is.kept (take front entries) front k f (omega (arith, long)) kept_at le) user x
            ∙ ap (λ (es : List Entry). has_channel es user x) (prior front (omega arith));
        have_places = all.have_places;
        apart = all.apart;
      }

take_all : (entries : List Entry) → take (length entries) entries ≡ entries
take_all [] = refl
take_all (e ∷ entries) = ap (λ (es : List Entry). e ∷ es) (take_all entries)

-- what is kept of entries is kept of as many of them as they are
pub whole_store : (store : Store) (entries : List Entry) → StoreAt store entries (length entries) → StoreAt store (take (length entries) entries) (length (take (length entries) entries))
whole_store store entries is = subst (λ (es : List Entry). StoreAt store es (length es)) (sym (take_all entries)) is
