-- the effects of revisions, by where they stand, as they are read
use Rattle.std.proofs.Common.{◌≡◌, ◌<◌, ◌≤◌, ℕ, refl, sym, ◌∙◌, ap, arith, inl, inr, List, ◌++◌, length, take, drop, reverse, Option, Some, None}
use Rattle.std.specs.Prelude.{option_map}
use Rattle.std.proofs.lemmas.Bool.{cases_lt}
use Rattle.std.proofs.lemmas.List.{reverse-append, take-append-drop}
use Rattle.sg_history.specs.declared.entries.Entry.{Entry}
use Rattle.sg_history.specs.declared.entries.Mark.{Mark}
use Rattle.sg_history.specs.declared.entries.Write.{Write}
use Rattle.sg_history.specs.History.{past}
use Rattle.sg_history.specs.Current.{Effects, Sequenced, effects_of, effects_or, recorded_effects}
use Rattle.log_index.specs.declared.marks.Marked.{Marked}
use Rattle.log_index.specs.Marks.{effects_by, marked_after, mark_of_write, marked_up_to, write_of}
use Rattle.log_views.specs.At.{write_at}
use Rattle.log_views.specs.States.{effects_at_write, since_at_write, since_by}
use Rattle.log_views.proofs.Looked.{not_there, older_mark, past_long, past_up_to, past_write, write_found, whole_up_to}

-- what is known of last marks
abbrev pub GivesEffects : Type 0
GivesEffects = (es : List Entry) (w : Sequenced) → effects_of es w ≡ effects_by es (marked_after es w) w.write

abbrev pub IsAfter : Type 0
IsAfter = (es : List Entry) (w : Sequenced) (m : Marked) → marked_after es w ≡ Some m → w.seq < m.sync

abbrev pub IsWithin : Type 0
IsWithin = (es : List Entry) (w : Sequenced) (m : Marked) → marked_after es w ≡ Some m → m.sync ≤ length es

abbrev sequenced : ℕ → Write → Sequenced
sequenced seq w = record { seq = seq; write = w }

none_later : IsAfter → IsWithin → (es : List Entry) (w : Sequenced) → length es ≤ w.seq → marked_after es w ≡ None
none_later after within es w high = by (marked_after es w) refl
  where
    by : (o : Option Marked) → marked_after es w ≡ o → o ≡ None
    by None at = refl
    by (Some m) at = absurd (omega (arith, high, after es w m at, within es w m at))

-- the effects of a mark among entries that others follow
by_older : (more es : List Entry) (o : Option Marked) (w : Write) → ((m : Marked) → o ≡ Some m → m.sync ≤ length es) → effects_by (more ++ es) o w ≡ effects_by es o w
by_older more es None w low = refl
by_older more es (Some m) w low = ap (λ (o : Option Mark). effects_or o (recorded_effects w)) (older_mark more es m (low m refl))

module _ (entries : List Entry) (n seq up_to : ℕ) (after : IsAfter) (within : IsWithin) (pos : 0 < seq) (low : up_to ≤ n) where
  -- where the effects of a write stand
  marked_is : (w : Write) → write_at entries seq ≡ Some w → marked_up_to (past entries n) seq up_to ≡ marked_after (past entries up_to) (sequenced seq w)
  marked_is w at =
      ap (λ (es : List Entry). mark_of_write es seq (write_of (past entries n) seq)) (past_up_to entries n up_to low)
      ∙ elim (cases_lt n seq) [
        | inl beyond ↦ none beyond
        | inr there ↦ ap (λ (o : Option Write). mark_of_write (past entries up_to) seq o) (past_write entries n seq pos there ∙ at)
      ]
    where
      none : n < seq → mark_of_write (past entries up_to) seq (write_of (past entries n) seq) ≡ marked_after (past entries up_to) (sequenced seq w)
      none beyond =
          ap (λ (o : Option Write). mark_of_write (past entries up_to) seq o) (not_there (past entries n) seq (omega (arith, past_long entries n, beyond)))
          ∙ sym (none_later after within (past entries up_to) (sequenced seq w) (omega (arith, past_long entries up_to, beyond, low)))

  module _ (gives : GivesEffects) where
    split : reverse (drop up_to entries) ++ past entries up_to ≡ reverse entries
    split = sym (reverse-append (take up_to entries) (drop up_to entries)) ∙ ap reverse (take-append-drop up_to entries)

    effects_are : (w : Write) → write_at entries seq ≡ Some w → effects_by (reverse entries) (marked_up_to (past entries n) seq up_to) w ≡ effects_of (past entries up_to) (sequenced seq w)
    effects_are w at =
        ap (λ (o : Option Marked). effects_by (reverse entries) o w) (marked_is w at)
        ∙ ap (λ (es : List Entry). effects_by es (marked_after (past entries up_to) (sequenced seq w)) w) (sym split)
        ∙ by_older (reverse (drop up_to entries)) (past entries up_to) (marked_after (past entries up_to) (sequenced seq w)) w (λ m is. within (past entries up_to) (sequenced seq w) m is)
        ∙ sym (gives (past entries up_to) (sequenced seq w))

    pub effects_read : (o : Option Write) → write_at entries seq ≡ o → option_map (effects_by (reverse entries) (marked_up_to (past entries n) seq up_to)) o ≡ effects_at_write (past entries up_to) seq o
    effects_read None at = refl
    effects_read (Some w) at = ap (λ (e : Effects). Some e) (effects_are w at)

  pub since_read : (o : Option Write) → write_at entries seq ≡ o → option_map (λ w. since_by (marked_up_to (past entries n) seq up_to) seq) o ≡ since_at_write (past entries up_to) seq o
  since_read None at = refl
  since_read (Some w) at = ap (λ (o : Option Marked). Some (since_by o seq)) (marked_is w at)

-- where the effects of a write that stands in all entries stand
pub marked_whole : (es : List Entry) (seq : ℕ) (w : Write) → 0 < seq → write_at (reverse es) seq ≡ Some w → marked_up_to es seq (length es) ≡ marked_after es (sequenced seq w)
marked_whole es seq w pos at =
    ap (λ (more : List Entry). mark_of_write more seq (write_of es seq)) (whole_up_to es)
    ∙ ap (λ (o : Option Write). mark_of_write es seq o) (write_found es seq pos ∙ at)
