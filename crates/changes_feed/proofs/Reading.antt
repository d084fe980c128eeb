-- what is read of a written revision
use Rattle.std.proofs.Common.{◌≡◌, ◌<◌, ◌≤◌, ◌-◌, ℕ, sym, ◌∙◌, ap, arith, List, length, Option, Some, None}
use Rattle.std.specs.Prelude.{slice_get}
use Rattle.sg_history.specs.declared.entries.Entry.{Entry}
use Rattle.sg_history.specs.declared.entries.Mark.{Mark}
use Rattle.sg_history.specs.declared.entries.Write.{Write}
use Rattle.sg_history.specs.History.{as_sync, past}
use Rattle.sg_history.specs.Current.{Sequenced, effects_of, effects_or, recorded_effects}
use Rattle.log_index.specs.declared.documents.Document.{Document}
use Rattle.log_index.specs.declared.marks.Marked.{Marked}
use Rattle.log_index.specs.Marks.{effects_by, mark_in_place, marked_after, mark_of_write, marked_up_to, write_of}
use Rattle.log_index.specs.Places.{document_at}
use Rattle.log_views.specs.At.{write_at, written}
use Rattle.log_views.specs.States.{effects_in, since_by}
use Rattle.log_views.specs.declared.effects.EffectsOf.{EffectsOf}
use Rattle.channel_cache.specs.Stands.{IndexesTo}
use Rattle.channel_cache.proofs.Past.{got, index_high, index_marked, mark_read, past_count, write_read}
use Rattle.channel_cache.proofs.Standing.{IsDocument, is_document}
use Rattle.feed_rows.specs.LastChange.{IsWinning}

module _ (index entries : List Entry) (to : ℕ) (indexed : IndexesTo index entries to) (seq : ℕ) (pos : 0 < seq) (low : seq ≤ to) (w : Write) (is : write_at entries seq ≡ Some w) where
  high : to ≤ length entries
  high = index_high index entries to indexed

  abbrev this : Sequenced
  this = record { seq = seq; write = w }

  there : write_of (past entries to) seq ≡ Some w
  there =
      let one = got entries (seq - 1) (omega (arith, pos, low, high)) in
      write_read entries to seq one.0 one.1 pos low high ∙ ap written (sym one.1) ∙ is

  pub after_is : marked_up_to index seq to ≡ marked_after (past entries to) this
  after_is = index_marked index entries to indexed seq low ∙ ap (λ (o : Option Write). mark_of_write (past entries to) seq o) there

  module _ (effects : (es : List Entry) (w : Sequenced) → effects_of es w ≡ effects_by es (marked_after es w) w.write) (has : EffectsOf) where
    pub unmarked : marked_up_to index seq to ≡ None → effects_in has ≡ recorded_effects w → has.since ≡ seq → IsWinning (past entries to) seq w has
    unmarked none own since =
        let after : marked_after (past entries to) this ≡ None = sym after_is ∙ none in
        record {
          effects = own ∙ sym (effects (past entries to) this ∙ ap (λ (m : Option Marked). effects_by (past entries to) m w) after);
          since = since ∙ sym (ap (λ (m : Option Marked). since_by m seq) after);
        }

    pub marked : (m : Marked) → marked_up_to index seq to ≡ Some m → (e : Entry) → slice_get entries (m.sync - 1) ≡ Some e → 0 < m.sync → m.sync ≤ to
        → effects_in has ≡ effects_or (mark_in_place (as_sync e) m.mark) (recorded_effects w) → has.since ≡ m.sync → IsWinning (past entries to) seq w has
    marked m some e at above below own since =
        let after : marked_after (past entries to) this ≡ Some m = sym after_is ∙ some in
        record {
          effects = own
              ∙ ap (λ (o : Option Mark). effects_or o (recorded_effects w)) (sym (mark_read entries to m e at above below high))
              ∙ sym (effects (past entries to) this ∙ ap (λ (m : Option Marked). effects_by (past entries to) m w) after);
          since = since ∙ sym (ap (λ (m : Option Marked). since_by m seq) after);
        }

-- where a document stands, its winner's write is read
module _ (index entries : List Entry) (to : ℕ) (indexed : IndexesTo index entries to) (doc : List ℕ) (d : Document) (stands : Some d ≡ document_at (past entries to) doc) where
  is : IsDocument (past entries to) doc d
  is = is_document (past entries to) doc d (sym stands)

  pub winning_low : 0 < d.winning
  winning_low = omega (arith, is.won.low, is.winning)

  pub winning_high : d.winning ≤ to
  winning_high = omega (arith, is.won.high, is.winning, past_count entries to (index_high index entries to indexed))

  pub winning_there : (w : Write) × (write_at entries d.winning ≡ Some w)
  winning_there =
      let one = got entries (d.winning - 1) (omega (arith, winning_low, winning_high, index_high index entries to indexed)) in (
        is.winner.write,
        ap written one.1
            ∙ sym (write_read entries to d.winning one.0 one.1 winning_low winning_high (index_high index entries to indexed))
            ∙ ap (λ (n : ℕ). write_of (past entries to) n) is.winning
            ∙ is.won.there,
      )
