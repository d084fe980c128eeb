-- the winner at an entry of a log, and its effects
use Rattle.std.proofs.Common.{◌≡◌, ◌<◌, ◌≤◌, ◌+◌, ◌-◌, ℕ, refl, sym, ◌∙◌, ap, arith, Bool, true, false, if◌then◌else◌, List, [], ◌∷◌, length, take, reverse, Option, Some, None}
use Rattle.std.specs.Prelude.{slice_get, nat_eq}
use Rattle.std.proofs.lemmas.Bool.{eqb-true, eqb-false, le-leb}
use Rattle.std.proofs.lemmas.List.{reverse-reverse}
use Rattle.sg_history.specs.declared.entries.Entry.{Entry}
use Rattle.sg_history.specs.declared.entries.Entry.TheVariants as entry
use Rattle.sg_history.specs.declared.entries.Write.{Write}
use Rattle.sg_history.specs.History.{as_write, past}
use Rattle.sg_history.specs.Current.{Effects, Sequenced, current, current_after, current_of, effects_of, sequenced_or, last_write, winning_of}
use Rattle.log_index.specs.declared.marks.Marked.{Marked}
use Rattle.log_index.specs.Marks.{entries_up_to, marked_after, mark_of_write, marked_up_to, write_of}
use Rattle.log_index.specs.Places.{document_by}
use Rattle.log_views.specs.At.{written, write_at}
use Rattle.log_views.proofs.Placed as placed
use Rattle.grant_history.specs.declared.states.NewState.{NewState}
use Rattle.grant_history.specs.NewStates.{state_by, state_written, written_at}
use Rattle.feed_rows.proofs.Names.{text_is_itself}
use Rattle.feed_rows.proofs.Places.{past_length, past_next}

-- all entries, and a write among them by its sequence
all_up_to : (es : List Entry) → entries_up_to es (length es) ≡ es
all_up_to [] = refl
all_up_to (e ∷ older) = ap (λ (b : Bool). if b then e ∷ older else entries_up_to older (length (e ∷ older))) (le-leb (length older + 1) (length (e ∷ older)) (omega arith))

pub write_there : (es : List Entry) (s : Sequenced) → placed.IsAt es s → write_of es s.seq ≡ Some s.write
write_there [] s at = absurd (omega (arith, at.low, at.high))
write_there (e ∷ older) s at = by (nat_eq s.seq (length older + 1)) refl (λ h. write_there older s h)
  where
    by : (b : Bool) → nat_eq s.seq (length older + 1) ≡ b → (placed.IsAt older s → write_of older s.seq ≡ Some s.write) → (if b then as_write e else write_of older s.seq) ≡ Some s.write
    by true is rest =
        let place : s.seq - 1 ≡ length older = omega (arith, eqb-true s.seq (length older + 1) is) in
        sym (ap written (placed.newest_got e older)) ∙ ap (λ (n : ℕ). written (slice_get (reverse (e ∷ older)) n)) (sym place) ∙ at.there
    by false is rest =
        let other : ¬ (s.seq ≡ length older + 1) = eqb-false s.seq (length older + 1) is in
        let high : s.seq ≤ length older = omega (arith, other, at.high) in
        rest (record {
          low = at.low;
          high = high;
          there = sym (ap written (placed.older_got e older (s.seq - 1) (omega (arith, high, at.low)))) ∙ at.there;
        })

pub marked_whole : (es : List Entry) (s : Sequenced) → placed.IsAt es s → marked_up_to es s.seq (length es) ≡ marked_after es s
marked_whole es s at =
    ap (λ (l : List Entry). mark_of_write l s.seq (write_of es s.seq)) (all_up_to es)
    ∙ ap (mark_of_write es s.seq) (write_there es s at)

abbrev state_at : ℕ → Option Marked → NewState
state_at winning marked = record { winning = winning; marked = marked }

module _ (entries : List Entry) (i : ℕ) (w : Write) (more : i < length entries) (is : slice_get entries i ≡ Some (entry.Write w)) where
  abbrev pub es : List Entry
  es = past entries (i + 1)

  abbrev last : Sequenced
  last = record { seq = length (past entries i) + 1; write = w }

  last_is : last_write es w.doc ≡ Some last
  last_is =
      ap (λ (l : List Entry). last_write l w.doc) (past_next entries i (entry.Write w) is)
      ∙ ap (λ (b : Bool). sequenced_or (if b then Some w else None) (length (past entries i) + 1) (last_write (past entries i) w.doc)) (text_is_itself w.doc)

  -- the write of the winner
  abbrev pub won : Sequenced
  won = winning_of es w.doc last

  won_at : placed.IsAt es won
  won_at = let at = placed.last_at es w.doc last last_is in (placed.winning_at es w.doc last at.0 at.1).0

  -- the state of the document there
  pub state_there : written_at entries i ≡ Some (record { winning = won.seq; marked = marked_after es won })
  state_there =
      ap (λ (o : Option Entry). state_written es (written o)) is
      ∙ ap (λ (o : Option Sequenced). state_by es (document_by es w.doc o)) last_is
      ∙ ap (λ (o : Option Marked). Some (state_at won.seq o)) (marked_whole es won won_at)

  pub found : write_at (take (i + 1) entries) won.seq ≡ Some won.write
  found = ap (λ (l : List Entry). write_at l won.seq) (sym (reverse-reverse (take (i + 1) entries))) ∙ won_at.there

  -- the document after the entry, by its winner and the winner's effects
  pub winner_is : (seq : ℕ) (v : Write) (effects : Effects) → seq ≡ i + 1 → v ≡ won.write → effects ≡ effects_of es won → Some (current_of seq v effects) ≡ current (entry.Write w ∷ past entries i) w.doc
  winner_is seq v effects at same have =
      let place : seq ≡ length (past entries i) + 1 = omega (arith, at, past_length entries i (omega (arith, more))) in
      ap (λ (n : ℕ). Some (current_of n v effects)) place
      ∙ ap (λ (x : Write). Some (current_of (length (past entries i) + 1) x effects)) same
      ∙ ap (λ (x : Effects). Some (current_of (length (past entries i) + 1) won.write x)) have
      ∙ sym (ap (current_after es w.doc) last_is)
      ∙ ap (λ (l : List Entry). current l w.doc) (past_next entries i (entry.Write w) is)
