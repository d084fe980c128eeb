-- What follows for each board that was read.
use Rattle.std.proofs.Common.{◌≡◌, ◌≤◌, le_refl, le_trans, ℕ, List, [], ◌∷◌, ◌++◌, length, refl, sym, ◌∙◌, ap, subst, inl, inr, append_assoc}
use Rattle.std.proofs.lemmas.List.{append_cancel_right}
use Rattle.sg_history.specs.declared.entries.Entry.{Entry}
use Rattle.sg_history.specs.Board.{BoardState, board_book, IsAfterAll}
use Rattle.sg_history.specs.Book.{Later, book_of}
use Rattle.write_path.specs.Reads.{IsLaterThanAll, IsOneOf, AreAfter, AreBetween, Reads, WasRead}

-- a history that is later than these is later than the last ones of them
later_than_rest : (added before : List BoardState) (h : List Entry) → IsLaterThanAll (added ++ before) h → IsLaterThanAll before h
later_than_rest [] before h all = all
later_than_rest (x ∷ added) before h all = later_than_rest added before h all.1

-- and than each of two lists
pub later_than_each : (one other : List BoardState) (h : List Entry) → IsLaterThanAll (one ++ other) h → IsLaterThanAll one h × IsLaterThanAll other h
later_than_each [] other h all = (tt, all)
later_than_each (x ∷ one) other h all = let rest = later_than_each one other h all.1 in ((all.0, rest.0), rest.1)

after_rest : (added before : List BoardState) (b : BoardState) → IsAfterAll (added ++ before) b → IsAfterAll before b
after_rest [] before b all = all
after_rest (x ∷ added) before b all = after_rest added before b all.1

one_is_after : (added before : List BoardState) (b : BoardState) → AreAfter added before → IsOneOf added b → IsAfterAll before b
one_is_after [] before b all one = absurd one
one_is_after (x ∷ added) before b all (inl e) =
    let P : BoardState → Type 0 = λ y. IsAfterAll before y in subst P e (after_rest added before x all.0)
one_is_after (x ∷ added) before b all (inr one) = one_is_after added before b all.1 one

one_is_between : (low high : ℕ) (added : List BoardState) (b : BoardState) → AreBetween low high added → IsOneOf added b → (low ≤ length b.log) × (length b.log ≤ high)
one_is_between low high [] b all one = absurd one
one_is_between low high (x ∷ added) b all (inl e) =
    let P : BoardState → Type 0 = λ y. (low ≤ length y.log) × (length y.log ≤ high) in subst P e (all.0, all.1)
one_is_between low high (x ∷ added) b all (inr one) = one_is_between low high added b all.2 one

later_than_one : (added before : List BoardState) (b : BoardState) (h : List Entry) → IsOneOf added b → IsLaterThanAll (added ++ before) h → Later (board_book b) (book_of h)
later_than_one [] before b h one all = absurd one
later_than_one (x ∷ added) before b h (inl e) all = let P : BoardState → Type 0 = λ y. Later (board_book y) (book_of h) in subst P e all.0
later_than_one (x ∷ added) before b h (inr one) all = later_than_one added before b h one all.1

-- the boards that were added are those that were read
same_added : (before after : List BoardState) (low high : ℕ) (b : BoardState) → (r : Reads before after low high) (w : WasRead before after b) → w.added ≡ r.added
same_added before after low high b r w = append_cancel_right w.added r.added before (sym w.read ∙ r.read)

one_added : (before after : List BoardState) (low high : ℕ) (b : BoardState) → (r : Reads before after low high) → WasRead before after b → IsOneOf r.added b
one_added before after low high b r w =
    let P : List BoardState → Type 0 = λ added. IsOneOf added b in subst P (same_added before after low high b r w) w.one

pub read_after : (before after : List BoardState) (low high : ℕ) (b : BoardState) → Reads before after low high → WasRead before after b → IsAfterAll before b
read_after before after low high b r w = one_is_after r.added before b r.later (one_added before after low high b r w)

pub read_between : (before after : List BoardState) (low high : ℕ) (b : BoardState) → Reads before after low high → WasRead before after b → (low ≤ length b.log) × (length b.log ≤ high)
read_between before after low high b r w = one_is_between low high r.added b r.lengths (one_added before after low high b r w)

pub later_than_read : (before after : List BoardState) (b : BoardState) (h : List Entry) → WasRead before after b → IsLaterThanAll after h → Later (board_book b) (book_of h)
later_than_read before after b h w all =
    let P : List BoardState → Type 0 = λ read. IsLaterThanAll read h in later_than_one w.added before b h w.one (subst P w.read all)

-- ---- one read after another

pub no_read : (read : List BoardState) (lowest : ℕ) → Reads read read lowest lowest
no_read read lowest = record { added = []; read = refl; later = tt; lengths = tt; rises = le_refl lowest }

more_after : (newer added before : List BoardState) → AreAfter newer (added ++ before) → AreAfter added before → AreAfter (newer ++ added) before
more_after [] added before all rest = rest
more_after (b ∷ newer) added before all rest =
    (subst (λ (read : List BoardState). IsAfterAll read b) (sym (append_assoc newer added before)) all.0, more_after newer added before all.1 rest)

wider : (low high least most : ℕ) (added : List BoardState) → least ≤ low → high ≤ most → AreBetween low high added → AreBetween least most added
wider low high least most [] a b all = tt
wider low high least most (x ∷ added) a b all = (le_trans a all.0, le_trans all.1 b, wider low high least most added a b all.2)

more_between : (low high : ℕ) (newer added : List BoardState) → AreBetween low high newer → AreBetween low high added → AreBetween low high (newer ++ added)
more_between low high [] added all rest = rest
more_between low high (b ∷ newer) added all rest = (all.0, all.1, more_between low high newer added all.2 rest)

pub read_on : (first second third : List BoardState) (low middle high : ℕ) → Reads first second low middle → Reads second third middle high → Reads first third low high
read_on first second third low middle high a b = record {
  added = b.added ++ a.added;
  read = b.read ∙ ap (λ read. b.added ++ read) a.read ∙ sym (append_assoc b.added a.added first);
  later = more_after b.added a.added first (subst (λ read. AreAfter b.added read) a.read b.later) a.later;
  lengths = more_between low high b.added a.added (wider middle high low high b.added a.rises (le_refl high) b.lengths) (wider low middle low high a.added (le_refl low) b.rises a.lengths);
  rises = le_trans a.rises b.rises;
}

pub later_than_before : (before after : List BoardState) (low high : ℕ) (h : List Entry) → Reads before after low high → IsLaterThanAll after h → IsLaterThanAll before h
later_than_before before after low high h r all = later_than_rest r.added before h (subst (λ read. IsLaterThanAll read h) r.read all)
