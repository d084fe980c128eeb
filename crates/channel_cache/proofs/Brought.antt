-- lists that are brought forward over one entry
use Rattle.std.proofs.Common.{◌≡◌, ◌≢◌, ◌<◌, ◌≤◌, ◌+◌, ◌-◌, ℕ, suc, refl, sym, ◌∙◌, ap, subst, arith, true, List, [], ◌∷◌, length, Option, Some, None, nat_eq}
use Rattle.std.specs.Prelude.{option_map, slice_get}
use Rattle.std.proofs.lemmas.Bool.{eqb-true, false≢true}
use Rattle.std.proofs.lemmas.Option.{none-some, same_Some}
use Rattle.sg_history.specs.declared.entries.Entry.{Entry}
use Rattle.sg_history.specs.declared.entries.Write.{Write}
use Rattle.sg_history.specs.History.{among, as_sync, as_write, past}
use Rattle.sg_history.specs.View.{every}
use Rattle.log_index.specs.declared.documents.Document.{Document}
use Rattle.log_index.specs.Marks.{write_of}
use Rattle.log_index.specs.Places.{after_at, document_at, document_before, next_at}
use Rattle.log_index.proofs.Nexts.{after_newest, stood_after}
use Rattle.channel_cache.specs.inner.Counting.{AreLists, counts_at}
use Rattle.channel_cache.specs.inner.Forward.{IsForward}
use Rattle.channel_cache.specs.inner.Moves.{channels_at}
use Rattle.channel_cache.specs.Sequences.{Counted, Lists, entered}
use Rattle.channel_cache.specs.Stands.{IndexesTo, is_last}
use Rattle.channel_cache.proofs.Past.{got, index_after, index_counts, index_high, index_write, past_count, past_next}
use Rattle.channel_cache.proofs.Standing.{IsDocument, is_document, writes_after}
use Rattle.channel_cache.proofs.Stepping.{Unwritten, other_step, write_step}

pub forward_same : (entries : List Entry) (k : ℕ) (lists : Lists) → IsForward entries k k lists lists
forward_same entries k lists = record { keys = refl; lists = λ are. are }

pub forward_then : (entries : List Entry) (a b d : ℕ) (one two three : Lists) → IsForward entries a b one two → IsForward entries b d two three → IsForward entries a d one three
forward_then entries a b d one two three first second = record { keys = second.keys ∙ first.keys; lists = λ are. second.lists (first.lists are) }

-- the entry at a place, and those before it
module _ (index entries : List Entry) (at : ℕ) (pos : 0 < at) (indexed : IndexesTo index entries at) where
  pub newest : (e : Entry) → slice_get entries (at - 1) ≡ Some e → past entries at ≡ e ∷ past entries (at - 1)
  newest e is =
      let minus : at - 1 + 1 ≡ at = omega (arith, pos) in
      let one : ◌≡◌ {A = ℕ} (suc (at - 1)) (at - 1 + 1) = omega arith in
      ap (λ (n : ℕ). past entries n) (sym minus ∙ sym one) ∙ past_next entries (at - 1) e is

  pub older_count : length (past entries (at - 1)) + 1 ≡ at
  older_count =
      let high : at ≤ length entries = index_high index entries at indexed in
      let low : at - 1 ≤ length entries = omega (arith, high) in
      omega (arith, past_count entries (at - 1) low, pos)

  pub behind_is : (e : Entry) → slice_get entries (at - 1) ≡ Some e → after_at index at ≡ document_before (e ∷ past entries (at - 1)) (as_write e)
  behind_is e is =
      index_after index entries at indexed at (omega arith)
      ∙ ap (λ (es : List Entry). after_at es at) (newest e is)
      ∙ after_newest e (past entries (at - 1)) at (sym older_count)

  pub unwritten_there : (e : Entry) → slice_get entries (at - 1) ≡ Some e → after_at index at ≡ None → as_write e ≡ None
  unwritten_there e is none = by (as_write e) refl
    where
      by : (o : Option Write) → as_write e ≡ o → o ≡ None
      by None h = refl
      by (Some w) h = absurd (writes_after e (past entries (at - 1)) w h (after_newest e (past entries (at - 1)) (length (past entries (at - 1)) + 1) refl ∙ sym (behind_is e is) ∙ none))

  pub forward_other : Unwritten → (e : Entry) → slice_get entries (at - 1) ≡ Some e → as_sync e ≡ None → after_at index at ≡ None → (lists : Lists) → IsForward entries (at - 1) at lists lists
  forward_other law e is plain none lists = record {
    keys = refl;
    lists = λ are. subst (λ (es : List Entry). AreLists es lists) (sym (newest e is)) (other_step law e (past entries (at - 1)) (unwritten_there e is none) plain lists are);
  }

  module _ (law : Unwritten) (old new : Lists) (channels : List (List ℕ)) (winning : ℕ) (wins : option_map (λ (d : Document). d.winning) (after_at index at) ≡ Some winning)
      (are : channels ≡ channels_at (past entries at) winning) (changed : Counted (counts_at index at) old new (entered (among (every ∷ channels)) at))
      (e : Entry) (is : slice_get entries (at - 1) ≡ Some e) where
    -- the document that the entry writes
    written : (o : Option Write) → as_write e ≡ o → (d : Option Document) → after_at index at ≡ d → d ≡ document_before (e ∷ past entries (at - 1)) o → option_map (λ (d : Document). d.winning) d ≡ Some winning
        → AreLists (past entries (at - 1)) old → AreLists (past entries at) new
    written o none None behind same wins lists = absurd (none-some winning wins)
    written None none (Some d) behind same wins lists = absurd (none-some d (sym same))
    written (Some w) writes (Some d) behind same wins lists =
        let older = past entries (at - 1) in
        let doc : IsDocument (e ∷ older) w.doc d = is_document (e ∷ older) w.doc d (sym same) in
        let after : after_at (e ∷ older) at ≡ Some d = ap (λ (es : List Entry). after_at es at) (sym (newest e is)) ∙ sym (index_after index entries at indexed at (omega arith)) ∙ behind in
        let last : d.last ≡ at = (stood_after (e ∷ older) at d after).0 in
        let here : channels ≡ doc.now.effects.channels =
        are
        ∙ ap (λ (es : List Entry). channels_at es winning) (newest e is)
        ∙ ap (λ (n : ℕ). channels_at (e ∷ older) n) (sym (same_Some d.winning winning wins))
        ∙ sym doc.now_channels in
        let changed_here : Counted (counts_at index at) old new (entered (among (every ∷ doc.now.effects.channels)) (length older + 1)) =
        subst (λ (n : ℕ). Counted (counts_at index at) old new (entered (among (every ∷ doc.now.effects.channels)) n)) (sym older_count)
        (subst (λ (l : List (List ℕ)). Counted (counts_at index at) old new (entered (among (every ∷ l)) at)) here changed) in
        subst (λ (es : List Entry). AreLists es new) (sym (newest e is))
        (write_step law e older w doc.now writes doc.now_is (doc.now_seq ∙ last ∙ sym older_count) (counts_at index at)
        (λ s. index_counts index entries at indexed s ∙ ap (λ (es : List Entry). is_last (next_at es s)) (newest e is)) old new changed_here lists)

    pub forward_write : IsForward entries (at - 1) at old new
    forward_write = record {
      keys = changed.keys;
      lists = written (as_write e) refl (after_at index at) refl (behind_is e is) wins;
    }

-- the write of the winner stands within the entries
pub winning_within : (index entries : List Entry) (at : ℕ) → 0 < at → IndexesTo index entries at → (winning : ℕ) → option_map (λ (d : Document). d.winning) (after_at index at) ≡ Some winning → (0 < winning) × (winning ≤ at)
winning_within index entries at pos indexed winning wins = by (after_at index at) refl wins
  where
    by : (o : Option Document) → after_at index at ≡ o → option_map (λ (d : Document). d.winning) o ≡ Some winning → (0 < winning) × (winning ≤ at)
    by None none wins = absurd (none-some winning wins)
    by (Some d) is wins =
        let high : at ≤ length entries = index_high index entries at indexed in
        let one = got entries (at - 1) (omega (arith, pos, high)) in
        let same : d.winning ≡ winning = same_Some d.winning winning wins in
        let within = there (as_write one.0) (one.0 ∷ past entries (at - 1)) d (sym (behind_is index entries at pos indexed one.0 one.1) ∙ is) in
        (omega (arith, within.0, same), omega (arith, within.1, same, older_count index entries at pos indexed))
      where
        there : (o : Option Write) (es : List Entry) (d : Document) → document_before es o ≡ Some d → (0 < d.winning) × (d.winning ≤ length es)
        there None es d is = absurd (none-some d is)
        there (Some w) es d is =
            let doc : IsDocument es w.doc d = is_document es w.doc d is in
            (omega (arith, doc.won.low, doc.winning), omega (arith, doc.won.high, doc.winning))

-- where the entry at a place is no write, documents are written before it
pub document_within : (index entries : List Entry) (at : ℕ) → 0 < at → IndexesTo index entries at → write_of index at ≡ None → (doc : List ℕ) (d : Document) → document_at (past entries at) doc ≡ Some d → (0 < d.winning) × (d.winning < at)
document_within index entries at pos indexed none doc d is =
    let high : at ≤ length entries = index_high index entries at indexed in
    let there : IsDocument (past entries at) doc d = is_document (past entries at) doc d is in
    let other : there.winner.seq ≢ at = λ same. none-some there.winner.write (sym (sym (index_write index entries at indexed at (omega arith)) ∙ none) ∙ ap (write_of (past entries at)) (sym same) ∙ there.won.there) in
    (omega (arith, there.won.low, there.winning), omega (arith, there.won.high, there.winning, past_count entries at high, other))

-- no lists
pub forward_none : (entries : List Entry) (from to : ℕ) (lists : Lists) → nat_eq (length lists) 0 ≡ true → IsForward entries from to lists lists
forward_none entries from to [] none = record { keys = refl; lists = λ are c s kept. absurd (false≢true kept) }
forward_none entries from to (l ∷ lists) none = absurd (omega (arith, eqb-true (length (l ∷ lists)) 0 none))
