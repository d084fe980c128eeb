-- lists that are brought forward over a replaced sync function
use Rattle.std.proofs.Common.{◌≡◌, ◌<◌, ◌-◌, ℕ, refl, sym, ◌∙◌, ap, subst, arith, List, ◌∷◌, Option, Some, None}
use Rattle.std.specs.Prelude.{option_map, slice_get}
use Rattle.std.proofs.lemmas.Option.{none-some, same_Some}
use Rattle.sg_history.specs.declared.entries.Entry.{Entry}
use Rattle.sg_history.specs.declared.entries.Entry.TheVariants as entry
use Rattle.sg_history.specs.declared.entries.Mark.{Mark}
use Rattle.sg_history.specs.History.{SyncEntry, as_sync, as_write, past}
use Rattle.log_index.specs.Marks.{write_of}
use Rattle.log_index.specs.Places.{next_at}
use Rattle.channel_cache.specs.inner.Counting.{AreLists, counts_at}
use Rattle.channel_cache.specs.inner.Forward.{IsForward, replaced_at, replaced_by}
use Rattle.channel_cache.specs.inner.Moves.{Move, entered_by, left_by, moves_of}
use Rattle.channel_cache.specs.Sequences.{Changed, Counted, Lists}
use Rattle.channel_cache.specs.Stands.{IndexesTo, is_last}
use Rattle.channel_cache.proofs.Brought.{newest}
use Rattle.channel_cache.proofs.Moving.{Laws, sync_step}
use Rattle.channel_cache.proofs.Past.{got, index_counts, index_high, index_write, write_read}

-- the replacement that an entry is
replacement : (o : Option SyncEntry) (marks : List Mark) → option_map (λ (s : SyncEntry). s.marks) o ≡ Some marks → (sync : SyncEntry) × (o ≡ Some sync) × (sync.marks ≡ marks)
replacement None marks is = absurd (none-some marks is)
replacement (Some sync) marks is = (sync, refl, same_Some sync.marks marks is)

no_write : (e : Entry) (sync : SyncEntry) → as_sync e ≡ Some sync → as_write e ≡ None
no_write (entry.Write w) sync is = absurd (none-some sync is)
no_write (entry.PutUser name channels roles) sync is = refl
no_write (entry.PutRole name channels) sync is = refl
no_write (entry.DropUser name) sync is = refl
no_write (entry.DropRole name) sync is = refl
no_write (entry.Sync text marks) sync is = refl
no_write entry.Unused sync is = refl

module _ (index entries : List Entry) (at : ℕ) (pos : 0 < at) (indexed : IndexesTo index entries at) where
  there : (e : Entry) × (slice_get entries (at - 1) ≡ Some e)
  there = got entries (at - 1) (omega (arith, pos, index_high index entries at indexed))

  replaced : (marks : List Mark) → option_map (λ (s : SyncEntry). s.marks) (replaced_at entries at) ≡ Some marks → (sync : SyncEntry) × (as_sync there.0 ≡ Some sync) × (sync.marks ≡ marks)
  replaced marks is = replacement (as_sync there.0) marks (ap (λ (o : Option Entry). option_map (λ (s : SyncEntry). s.marks) (replaced_by o)) (sym there.1) ∙ is)

  pub no_write_there : (marks : List Mark) → option_map (λ (s : SyncEntry). s.marks) (replaced_at entries at) ≡ Some marks → write_of index at ≡ None
  no_write_there marks is =
      let one = replaced marks is in
      index_write index entries at indexed at (omega arith)
      ∙ write_read entries at at there.0 there.1 pos (omega arith) (index_high index entries at indexed)
      ∙ no_write there.0 one.0 one.1

  pub forward_marks : Laws → (marks : List Mark) → option_map (λ (s : SyncEntry). s.marks) (replaced_at entries at) ≡ Some marks → (old mid new : Lists) (moves : List Move)
      → moves ≡ moves_of (past entries (at - 1)) (past entries at) marks 0 → Changed old mid (left_by moves) → Counted (counts_at index at) mid new (entered_by moves) → IsForward entries (at - 1) at old new
  forward_marks laws marks is old mid new moves are first second =
      let sync = replaced marks is in
      let older = past entries (at - 1) in
      let e = there.0 in
      let here : past entries at ≡ e ∷ older = newest index entries at pos indexed e there.1 in
      let same : moves ≡ moves_of older (e ∷ older) sync.0.marks 0 = are ∙ ap (λ (es : List Entry). moves_of older es marks 0) here ∙ ap (λ (l : List Mark). moves_of older (e ∷ older) l 0) (sym sync.2) in
      record {
        keys = second.keys ∙ first.keys;
        lists = λ lists.
            subst (λ (es : List Entry). AreLists es new) (sym here)
            (sync_step laws e older sync.0 sync.1 (no_write e sync.0 sync.1) (counts_at index at)
            (λ s. index_counts index entries at indexed s ∙ ap (λ (es : List Entry). is_last (next_at es s)) here) old mid new
            (subst (λ (l : List Move). Changed old mid (left_by l)) same first) (subst (λ (l : List Move). Counted (counts_at index at) mid new (entered_by l)) same second) lists);
      }
