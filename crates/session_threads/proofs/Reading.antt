-- boards that were read, of which the newest comes after all others
use Rattle.std.proofs.Common.{◌≡◌, ◌≤◌, ◌⊎◌, ◌∙◌, ℕ, List, [], ◌∷◌, ◌++◌, length, Some, inl, inr, refl, sym, ap, subst, arith}
use Rattle.std.proofs.lemmas.List.{length-append}
use Rattle.sg_history.specs.declared.book.Waiting.{Waiting}
use Rattle.sg_history.specs.declared.entries.Entry.{Entry}
use Rattle.sg_history.specs.Board.{BoardState, After, IsAfterAll, board_book}
use Rattle.sg_history.specs.Book.{Later, book_of}
use Rattle.seq_gate.specs.Boards.{HasAll}
use Rattle.write_path.specs.Reads.{AreAfter, AreBetween, IsLaterThanAll, IsOneOf, Reads, WasRead}
use Rattle.session_run.specs.Answered.{Moment}

pub one_in_first : (xs ys : List BoardState) (b : BoardState) → IsOneOf xs b → IsOneOf (xs ++ ys) b
one_in_first [] ys b one = absurd one
one_in_first (x ∷ xs) ys b (inl is) = inl is
one_in_first (x ∷ xs) ys b (inr one) = inr (one_in_first xs ys b one)

pub one_in_second : (xs ys : List BoardState) (b : BoardState) → IsOneOf ys b → IsOneOf (xs ++ ys) b
one_in_second [] ys b one = one
one_in_second (x ∷ xs) ys b one = inr (one_in_second xs ys b one)

pub after_one : (read : List BoardState) (b c : BoardState) → IsOneOf read b → IsAfterAll read c → After b c
after_one [] b c one all = absurd one
after_one (x ∷ read) b c (inl is) all = subst (λ (y : BoardState). After y c) is all.0
after_one (x ∷ read) b c (inr one) all = after_one read b c one all.1

pub later_one : (read : List BoardState) (b : BoardState) (h : List Entry) → IsOneOf read b → IsLaterThanAll read h → Later (board_book b) (book_of h)
later_one [] b h one all = absurd one
later_one (x ∷ read) b h (inl is) all = subst (λ (y : BoardState). Later (board_book y) (book_of h)) is all.0
later_one (x ∷ read) b h (inr one) all = later_one read b h one all.1

pub after_second : (xs ys : List BoardState) (c : BoardState) → IsAfterAll (xs ++ ys) c → IsAfterAll ys c
after_second [] ys c all = all
after_second (x ∷ xs) ys c all = after_second xs ys c all.1

pub was_one : (before after : List BoardState) (b : BoardState) → WasRead before after b → IsOneOf after b
was_one before after b was = subst (λ (l : List BoardState). IsOneOf l b) (sym was.read) (one_in_first was.added before b was.one)

pub read_one : (before after : List BoardState) (b : BoardState) → (added : List BoardState) → after ≡ added ++ before → IsOneOf before b → IsOneOf after b
read_one before after b added is one = subst (λ (l : List BoardState). IsOneOf l b) (sym is) (one_in_second added before b one)

-- ---- the newest board

-- the newest board that was read at a moment, whose log no front that is answered is below
pub record Newest (m : Moment) (b : BoardState) : Type 0 where
  pub older : List BoardState
  pub read : m.read ≡ b ∷ older
  pub later : IsAfterAll older b
  pub low : length b.log ≤ m.lowest

-- one board is another, or comes before it
abbrev pub IsBy : BoardState → BoardState → Type 0
IsBy b c = (b ≡ c) ⊎ After b c

pub by_newest : (m : Moment) (b c : BoardState) → Newest m c → IsOneOf m.read b → IsBy b c
by_newest m b c newest one = by_first b c newest.older newest.later (subst (λ (l : List BoardState). IsOneOf l b) newest.read one)
  where
    by_first : (b c : BoardState) (older : List BoardState) → IsAfterAll older c → IsOneOf (c ∷ older) b → IsBy b c
    by_first b c older later (inl is) = inl (sym is)
    by_first b c older later (inr one) = inr (after_one older b c one later)

pub by_kept : (b c : BoardState) (number : ℕ) (e : Entry) → IsBy b c → board_book b number ≡ Some e → board_book c number ≡ Some e
by_kept b c number e (inl is) there = subst (λ (x : BoardState). board_book x number ≡ Some e) is there
by_kept b c number e (inr after) there = after.book.kept number e there

pub by_all : (b c : BoardState) (ws : List Waiting) → IsBy b c → HasAll b ws → HasAll c ws
by_all b c [] by all = tt
by_all b c (w ∷ ws) by all = (by_kept b c w.number w.entry by all.0, by_all b c ws by all.1)

pub by_length : (b c : BoardState) → IsBy b c → length b.log ≤ length c.log
by_length b c (inl is) = omega (arith, ap (λ (x : BoardState). length x.log) is)
by_length b c (inr after) = omega (arith, ap (λ (l : List Entry). length l) after.log.1, length-append b.log after.log.0)

pub next_newest : (before after : Moment) (b : BoardState) → Reads before.read after.read before.lowest after.lowest → Newest before b → (c : BoardState) × Newest after c × IsBy b c
next_newest before after b reads newest = next reads.added reads.read reads.later reads.lengths reads.rises
  where
    next : (added : List BoardState) → after.read ≡ added ++ before.read → AreAfter added before.read → AreBetween before.lowest after.lowest added → before.lowest ≤ after.lowest → (c : BoardState) × Newest after c × IsBy b c
    next [] is later lengths rises = (b, record { older = newest.older; read = is ∙ newest.read; later = newest.later; low = omega (arith, newest.low, rises) }, inl refl)
    next (c ∷ added) is later lengths rises = (
      c,
      record { older = added ++ before.read; read = is; later = later.0; low = lengths.1 },
      inr (subst (λ (l : List BoardState). IsAfterAll l c) newest.read (after_second added before.read c later.0)).0,
    )

-- what the laws of reads say of a board that was read in between
pub record WasReadLaws : Type 0 where
  pub before : (before after : List BoardState) (low high : ℕ) (b : BoardState) → Reads before after low high → WasRead before after b → IsAfterAll before b
  pub lowest : (before after : List BoardState) (low high : ℕ) (b : BoardState) → Reads before after low high → WasRead before after b → low ≤ length b.log
