-- no entry stands above the greatest number of a log and of entries that wait
use Rattle.std.proofs.Common.{◌≡◌, ◌≤◌, ℕ, zero, suc, Bool, true, false, List, [], ◌∷◌, length, Option, Some, None, refl, arith, if◌then◌else◌}
use Rattle.std.specs.Prelude.{nat_eq}
use Rattle.std.proofs.lemmas.Bool.{eqb-true}
use Rattle.std.proofs.lemmas.Option.{none-some, slice_get_within}
use Rattle.sg_history.specs.declared.book.Waiting.{Waiting}
use Rattle.sg_history.specs.declared.entries.Entry.{Entry}
use Rattle.sg_history.specs.Book.{book_of, book_with, entry_or, waiting_at}
use Rattle.doc_board.specs.Kept.{HasNoneAbove}
use Rattle.doc_board.specs.State.{highest, top_of}

waits_case : (first : Waiting) (others : List Waiting) (number : ℕ) (e : Entry) (b : Bool) → nat_eq first.number number ≡ b → (waiting_at others number ≡ Some e → number ≤ highest others) → (if b then Some first.entry else waiting_at others number) ≡ Some e → number ≤ highest (first ∷ others)
waits_case first others number e true is rest h = let same : first.number ≡ number = eqb-true first.number number is in omega arith
waits_case first others number e false is rest h = let low : number ≤ highest others = rest h in omega arith

pub none_waits : (waiting : List Waiting) (number : ℕ) (e : Entry) → waiting_at waiting number ≡ Some e → number ≤ highest waiting
none_waits [] number e h = absurd (none-some e h)
none_waits (first ∷ others) number e h =
    waits_case first others number e (nat_eq first.number number) refl (λ g. none_waits others number e g) h

pub within : (log : List Entry) (number : ℕ) (e : Entry) → book_of log number ≡ Some e → number ≤ length log
within log zero e h = absurd (none-some e h)
within log (suc place) e h = omega (arith, slice_get_within log place e h)

pub none_above_top : (log : List Entry) (waiting : List Waiting) → HasNoneAbove (book_with log waiting) (top_of log waiting)
none_above_top log waiting number more = go (book_of log number) refl (waiting_at waiting number) refl
  where
    go : (o : Option Entry) → book_of log number ≡ o → (p : Option Entry) → waiting_at waiting number ≡ p → entry_or o p ≡ None
    go (Some e) is p waits = absurd (omega (arith, more, within log number e is))
    go None is (Some e) waits = absurd (omega (arith, more, none_waits waiting number e waits))
    go None is None waits = refl
