-- Where an entry can be stored at a number that was drawn in a turn, or that a pass holds.
use Rattle.std.proofs.Common.{◌≡◌, ◌⊎◌, inl, inr, ℕ, ◌<◌, ◌+◌, Bool, true, false, ◌&&◌, ◌||◌, List, [], ◌∷◌, Option, Some, None, refl, sym, ◌∙◌, subst, arith, if◌then◌else◌}
use Rattle.std.specs.Prelude.{is_some, nat_eq}
use Rattle.std.proofs.lemmas.Bool.{eq-eqb, false≢true}
use Rattle.std.proofs.lemmas.Option.{none-some}
use Rattle.sg_history.specs.declared.entries.Entry.{Entry}
use Rattle.sg_history.specs.declared.entries.Write.{Write}
use Rattle.sg_history.specs.History.{SyncEntry, as_sync, as_write, is_sync, is_write}
use Rattle.sg_history.specs.Board.{BoardState, board_book}
use Rattle.sg_history.specs.Book.{Book, IsAbove, same_written}
use Rattle.seq_gate.specs.Counts.{times}
use Rattle.seq_gate.specs.Passes.{IsAboveBook, Finds}
use Rattle.seq_gate.specs.declared.known.Known.{Known}
use Rattle.tests_of_history.specs.inner.Boards.{CanStore}

-- an entry is above all to which it is tied, where its number is above all of the book
book_above : (book : Book) (n : ℕ) (e : Entry) → IsAboveBook n book → IsAbove book n e
book_above book n e above old other there tie = above old other there

some_or_none : (o : Option Entry) → ((e : Entry) × (o ≡ Some e)) ⊎ (o ≡ None)
some_or_none None = inr refl
some_or_none (Some e) = inl (e, refl)

above_none : (book : Book) (n : ℕ) → IsAboveBook n book → book n ≡ None
above_none book n above = go (some_or_none (book n))
  where
    go : ((e : Entry) × (book n ≡ Some e)) ⊎ (book n ≡ None) → book n ≡ None
    go (inl it) = let low = above n it.0 it.1 in absurd (omega arith)
    go (inr none) = none

pub drawn_can : (p : Known) (found : BoardState) (n : ℕ) (e : Entry) → Finds p found → 0 < n → IsAboveBook n (board_book found) → CanStore found n e
drawn_can p found n e finds least above =
    record { free = (least, above_none (board_book found) n above); above = book_above (board_book found) n e above; waiting = finds.waiting }

-- what is neither a write nor a replacement of the sync function is tied to nothing
untied : (o p : Option Write) (q : Option SyncEntry) (s w : Bool) → p ≡ None → q ≡ None
    → (same_written o p || (s && (is_some p || is_some q)) || (w && is_some q)) ≡ false
untied o (Some x) q s w none no_sync = absurd (none-some x (sym none))
untied o None (Some x) s w none no_sync = absurd (none-some x (sym no_sync))
untied None None None true true none no_sync = refl
untied None None None true false none no_sync = refl
untied None None None false true none no_sync = refl
untied None None None false false none no_sync = refl
untied (Some y) None None true true none no_sync = refl
untied (Some y) None None true false none no_sync = refl
untied (Some y) None None false true none no_sync = refl
untied (Some y) None None false false none no_sync = refl

plain_above : (book : Book) (n : ℕ) (e : Entry) → as_write e ≡ None → as_sync e ≡ None → IsAbove book n e
plain_above book n e none no_sync old other there tie =
    absurd (false≢true (sym (untied (as_write other) (as_write e) (as_sync e) (is_sync other) (is_write other) none no_sync) ∙ tie))

once : (n : ℕ) → 0 < times n (n ∷ [])
once n = subst (λ (b : Bool). 0 < (if b then 1 else 0) + 0) (sym (eq-eqb n n refl)) (omega arith)

-- an entry that is neither a write nor a replacement of the sync function can be stored at the one number that a pass holds
pub held_can : (p : Known) (found : BoardState) (n : ℕ) (e : Entry) → Finds p found → p.held ≡ n ∷ [] → as_write e ≡ None → as_sync e ≡ None → CanStore found n e
held_can p found n e finds held plain no_sync =
    record {
      free = finds.held n (subst (λ (h : List ℕ). 0 < times n h) (sym held) (once n));
      above = plain_above (board_book found) n e plain no_sync;
      waiting = finds.waiting;
    }
