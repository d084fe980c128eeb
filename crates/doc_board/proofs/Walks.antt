-- the write of a revision, from the last write of a document down
use Rattle.std.proofs.Common.{◌≡◌, ◌≤◌, ◌<◌, ◌∙◌, ◌⊎◌, inl, inr, ℕ, zero, suc, Bool, true, false, List, length, Option, Some, None, refl, sym, ap, subst, arith, if◌then◌else◌}
use Rattle.std.specs.Prelude.{unwrap_or}
use Rattle.std.specs.Str.{bytes_eq}
use Rattle.std.proofs.lemmas.Bool.{cases_lt}
use Rattle.std.proofs.lemmas.Option.{none-some, same_Some}
use Rattle.sg_names.specs.declared.rev_id.RevId.{RevId}
use Rattle.sg_names.specs.RevId.{same_rev}
use Rattle.sg_history.specs.declared.book.Waiting.{Waiting}
use Rattle.sg_history.specs.declared.entries.Entry.{Entry}
use Rattle.sg_history.specs.declared.entries.Write.{Write}
use Rattle.sg_history.specs.Book.{Book, book_of, book_with, waiting_at, write_at, written_in, writes_up_to, first_write, first_of_rev}
use Rattle.sg_history.specs.Current.{Sequenced, sequenced_before, write_alone}
use Rattle.sg_history.specs.History.{as_write, of_document}
use Rattle.rev_tree.specs.Documents.{sequence_of, last_in}
use Rattle.doc_board.specs.inner.Based.{IsFound, entry_write}
use Rattle.doc_board.specs.Kept.{AreBases}
use Rattle.doc_board.specs.State.{top_of}
use Rattle.doc_board.proofs.Documents.{same_names}
use Rattle.doc_board.proofs.Histories.{in_log_book}
use Rattle.doc_board.proofs.Puts.{same_up_to, no_more}
use Rattle.doc_board.proofs.Standing.{last_low, last_there, none_past_last}
use Rattle.doc_board.proofs.Steps.{waits_past}
use Rattle.doc_board.proofs.Tops.{none_above_top}

-- up to the last write there are the same writes
pub up_to_last : (book : Book) (number : ℕ) (doc : List ℕ) → writes_up_to book (last_in book number doc) doc ≡ writes_up_to book number doc
up_to_last book zero doc = refl
up_to_last book (suc number) doc = go (write_at book doc (suc number)) refl (up_to_last book number doc)
  where
    go : (o : Option Write) → write_at book doc (suc number) ≡ o → writes_up_to book (last_in book number doc) doc ≡ writes_up_to book number doc
        → writes_up_to book (sequence_of (first_write (sequenced_before o (suc number) (writes_up_to book number doc)))) doc ≡ sequenced_before o (suc number) (writes_up_to book number doc)
    go None is rest = rest
    go (Some w) is rest = ap (λ (o : Option Write). sequenced_before o (suc number) (writes_up_to book number doc)) is

-- between a last write and the number up to which it is the last no write stands
none_between : (book : Book) (k : ℕ) (doc : List ℕ) (m : ℕ) → last_in book k doc < m → m ≤ k → write_at book doc m ≡ None
none_between book zero doc m more low = absurd (omega (arith, more, low))
none_between book (suc k) doc m more low = go (write_at book doc (suc k)) refl (λ past under. none_between book k doc m past under) more
  where
    go : (o : Option Write) → write_at book doc (suc k) ≡ o → (last_in book k doc < m → m ≤ k → write_at book doc m ≡ None)
        → sequence_of (first_write (sequenced_before o (suc k) (writes_up_to book k doc))) < m → write_at book doc m ≡ None
    go (Some w) is rest past = absurd (omega (arith, past, low))
    go None is rest past = pick (cases_lt k m)
      where
        pick : (k < m) ⊎ (m ≤ k) → write_at book doc m ≡ None
        pick (inl high) = let same : ◌≡◌ {A = ℕ} (suc k) m = omega (arith, high, low) in subst (λ (j : ℕ). write_at book doc j ≡ None) same is
        pick (inr under) = rest past under

module _ (log : List Entry) (waiting : List Waiting) (doc : List ℕ) (rev : RevId) where
  abbrev pub book : Book
  book = book_with log waiting

  -- the walk stands at a number: the revision's write is the first of those up to there, a write of the document stands there where that is above the log, and else the log has no later one
  pub record IsAt (number : ℕ) : Type 0 where
    pub found : first_of_rev (writes_up_to book (top_of log waiting) doc) rev ≡ first_of_rev (writes_up_to book number doc) rev
    pub there : length log < number → (w : Write) × (write_at book doc number ≡ Some w)
    pub rest : number ≤ length log → writes_up_to book (length log) doc ≡ writes_up_to book number doc

  at_last : (k : ℕ) → (found : first_of_rev (writes_up_to book (top_of log waiting) doc) rev ≡ first_of_rev (writes_up_to book k doc) rev) → ((m : ℕ) → last_in book k doc < m → m ≤ length log → write_at book doc m ≡ None) → IsAt (last_in book k doc)
  at_last k found none = record {
    found = found ∙ sym (ap (λ (ws : List Sequenced). first_of_rev ws rev) (up_to_last book k doc));
    there = λ past. last_there book k doc (omega (arith, past));
    rest = λ low. no_more book doc (last_in book k doc) (length log) low none;
  }

  pub walk_begins : IsAt (last_in book (top_of log waiting) doc)
  walk_begins = at_last (top_of log waiting) refl (λ m more low. none_past_last book (top_of log waiting) doc (none_above_top log waiting) m more)

  -- what waits under the number is the document's write
  waits_there : (number : ℕ) (w : Write) → length log < number → write_at book doc number ≡ Some w → entry_write (waiting_at waiting number) ≡ Some w × (w.doc ≡ doc)
  waits_there number w past at = go (waiting_at waiting number) refl
    where
      at_waiting : written_in (waiting_at waiting number) doc ≡ Some w
      at_waiting = sym (ap (λ (o : Option Entry). written_in o doc) (waits_past log waiting number past)) ∙ at

      pick : (o : Option Write) → of_document o doc ≡ Some w → (o ≡ Some w) × (w.doc ≡ doc)
      pick None h = absurd (none-some _ h)
      pick (Some v) h = by (bytes_eq v.doc doc) refl h
        where
          by : (b : Bool) → bytes_eq v.doc doc ≡ b → (if b then Some v else None) ≡ Some w → (Some v ≡ Some w) × (w.doc ≡ doc)
          by true e is = (is, ap (λ (y : Write). y.doc) (sym (same_Some v w is)) ∙ same_names v.doc doc e)
          by false e is = absurd (none-some _ is)

      go : (o : Option Entry) → waiting_at waiting number ≡ o → (entry_write o ≡ Some w) × (w.doc ≡ doc)
      go None is = absurd (none-some _ (sym (ap (λ (o : Option Entry). written_in o doc) is) ∙ at_waiting))
      go (Some e) is = pick (as_write e) (sym (ap (λ (o : Option Entry). written_in o doc) is) ∙ at_waiting)

  writes_here : (k : ℕ) (w : Write) → write_at book doc (suc k) ≡ Some w → first_of_rev (writes_up_to book (suc k) doc) rev ≡ (if same_rev w.rev rev then Some (record { seq = suc k; write = w }) else first_of_rev (writes_up_to book k doc) rev)
  writes_here k w at = ap (λ (o : Option Write). first_of_rev (sequenced_before o (suc k) (writes_up_to book k doc)) rev) at

  -- it is found there
  pub walk_finds : (number : ℕ) (w : Write) → IsAt number → length log < number → entry_write (waiting_at waiting number) ≡ Some w → same_rev w.rev rev ≡ true → IsFound log waiting doc rev (Some w)
  walk_finds zero w it past is same = absurd (omega (arith, past))
  walk_finds (suc k) w it past is same =
      let at = it.there past in
      let stands = waits_there (suc k) at.0 past at.1 in
      let one : at.0 ≡ w = same_Some at.0 w (sym stands.0 ∙ is) in
      ap write_alone (it.found ∙ writes_here k w (at.1 ∙ ap (λ (v : Write). Some v) one))
      ∙ ap (λ (b : Bool). write_alone (if b then Some (record { seq = suc k; write = w }) else first_of_rev (writes_up_to book k doc) rev)) same

  pub based_there : (bases : ℕ → Option ℕ) (k : ℕ) (w : Write) → AreBases book waiting bases → entry_write (waiting_at waiting (suc k)) ≡ Some w → w.doc ≡ doc → bases (suc k) ≡ Some (last_in book k doc)
  based_there bases k w based is same = go (waiting_at waiting (suc k)) refl is
    where
      go : (o : Option Entry) → waiting_at waiting (suc k) ≡ o → entry_write o ≡ Some w → bases (suc k) ≡ Some (last_in book k doc)
      go None waits h = absurd (none-some _ h)
      go (Some e) waits h = subst (λ (d : List ℕ). bases (suc k) ≡ Some (last_in book k d)) same (based (suc k) e w (omega arith) waits h)

  -- it is not there: the walk goes on at the number that is kept
  pub walk_goes_on : (bases : ℕ → Option ℕ) (number : ℕ) (w : Write) → AreBases book waiting bases → IsAt number → length log < number → entry_write (waiting_at waiting number) ≡ Some w → same_rev w.rev rev ≡ false → IsAt (unwrap_or (bases number) 0) × (unwrap_or (bases number) 0 < number)
  walk_goes_on bases zero w based it past is other = absurd (omega (arith, past))
  walk_goes_on bases (suc k) w based it past is other =
      let at = it.there past in
      let stands = waits_there (suc k) at.0 past at.1 in
      let one : at.0 ≡ w = same_Some at.0 w (sym stands.0 ∙ is) in
      let own : w.doc ≡ doc = subst (λ (v : Write). v.doc ≡ doc) one stands.1 in
      let next : last_in book k doc ≡ unwrap_or (bases (suc k)) 0 = sym (ap (λ (o : Option ℕ). unwrap_or o 0) (based_there bases k w based is own)) in
      let found = it.found ∙ writes_here k w (at.1 ∙ ap (λ (v : Write). Some v) one)
      ∙ ap (λ (b : Bool). if b then Some (record { seq = suc k; write = w }) else first_of_rev (writes_up_to book k doc) rev) other in
      let low = last_low book k doc in (
        subst (λ (n : ℕ). IsAt n) next (at_last k found (λ m more under. none_between book k doc m more (omega (arith, under, past)))),
        omega (arith, low, next),
      )

  -- none of those that wait has it
  pub walk_ends : (number : ℕ) → IsAt number → number ≤ length log → IsFound log waiting doc rev None
  walk_ends number it low =
      ap write_alone (it.found ∙ ap (λ (ws : List Sequenced). first_of_rev ws rev) (sym (it.rest low))
      ∙ ap (λ (ws : List Sequenced). first_of_rev ws rev) (same_up_to book (book_of log) doc (length log) in_log))
    where
      in_log : (m : ℕ) → 1 ≤ m → m ≤ length log → write_at book doc m ≡ write_at (book_of log) doc m
      in_log m least under = ap (λ (o : Option Entry). written_in o doc) (in_log_book log waiting m least under)

  -- a write waits where the walk stands above the log
  pub walk_has : (number : ℕ) → IsAt number → length log < number → entry_write (waiting_at waiting number) ≡ None → ⊥
  walk_has number it past none = let at = it.there past in none-some _ (sym none ∙ (waits_there number at.0 past at.1).0)

-- the number that is kept is below the write's own
pub walk_falls : (log : List Entry) (waiting : List Waiting) (rev : RevId) (bases : ℕ → Option ℕ) (number : ℕ) (w : Write) → AreBases (book_with log waiting) waiting bases → length log < number → entry_write (waiting_at waiting number) ≡ Some w → unwrap_or (bases number) 0 < number
walk_falls log waiting rev bases zero w based past is = absurd (omega (arith, past))
walk_falls log waiting rev bases (suc k) w based past is =
    let next = ap (λ (o : Option ℕ). unwrap_or o 0) (based_there log waiting w.doc rev bases k w based is refl) in
    let low = last_low (book_with log waiting) k w.doc in
    omega (arith, next, low)
