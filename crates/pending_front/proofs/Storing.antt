-- an entry that is put where it may be stored
use Rattle.std.proofs.Common.{◌≡◌, ◌≢◌, ◌⊎◌, inl, inr, ℕ, zero, suc, ◌<◌, ◌≤◌, Bool, List, [], ◌∷◌, length, Option, Some, None, refl, sym, ap, ◌∙◌, arith}
use Rattle.std.specs.Prelude.{IsTrue, nat_eq, slice_get, if◌then◌else◌}
use Rattle.std.proofs.lemmas.Bool.{cases_eq, eq-eqb, ne_eqb}
use Rattle.std.proofs.lemmas.Option.{none-some}
use Rattle.sg_history.specs.declared.book.Waiting.{Waiting}
use Rattle.sg_history.specs.declared.entries.Entry.{Entry}
use Rattle.sg_history.specs.Book.{book_of, book_with, entry_or, waiting_at, IsAbove, Later}
use Rattle.sg_history.specs.World.{put_waiting, rises_from}
use Rattle.pending_front.specs.Pending.{AreBeyond}
use Rattle.pending_front.specs.Storing.{MayStore}
use Rattle.pending_front.proofs.Putting.{put_other, put_here, put_rises}
use Rattle.pending_front.proofs.Worlds.{IsFree, put_later}

get_none : {X : Type 0} (xs : List X) (k : ℕ) → slice_get xs k ≡ None → length xs ≤ k
get_none [] k h = omega arith
get_none (x ∷ xs) zero h = absurd (none-some _ (sym h))
get_none (x ∷ xs) (suc k) h = omega (arith, get_none xs k h)

none_parts : (o p : Option Entry) → entry_or o p ≡ None → (o ≡ None) × (p ≡ None)
none_parts None p h = (refl, h)
none_parts (Some e) p h = absurd (none-some _ (sym h))

past_end : (log : List Entry) (number : ℕ) → 1 ≤ number → book_of log number ≡ None → length log < number
past_end log zero from none = absurd (omega arith)
past_end log (suc k) from none = omega (arith, get_none log k none)

module _ (log : List Entry) (waiting : List Waiting) (number : ℕ) (may : MayStore log waiting number) where
  parts : (book_of log number ≡ None) × (waiting_at waiting number ≡ None)
  parts = none_parts (book_of log number) (waiting_at waiting number) may.1

  free : IsFree number waiting log
  free = record { past_end = past_end log number may.0 parts.0; free = parts.1 }

  pub stored_free : waiting_at waiting number ≡ None
  stored_free = parts.1

  pub stored_beyond : (e : Entry) → AreBeyond log waiting → AreBeyond log (put_waiting (record { number = number; entry = e }) waiting)
  stored_beyond e beyond place from low =
      let high = free.past_end in
      put_other (record { number = number; entry = e }) waiting place (λ same. absurd (omega arith)) ∙ beyond place from low

  pub stored_book : (e : Entry) (other : ℕ) → book_with log (put_waiting (record { number = number; entry = e }) waiting) other ≡ (if nat_eq number other then Some e else book_with log waiting other)
  stored_book e other = go (cases_eq number other)
    where
      put : List Waiting
      put = put_waiting (record { number = number; entry = e }) waiting

      go : (number ≡ other) ⊎ (number ≢ other) → book_with log put other ≡ (if nat_eq number other then Some e else book_with log waiting other)
      go (inl same) =
          ap (λ (n : ℕ). book_with log put n) (sym same)
          ∙ ap (λ (o : Option Entry). entry_or o (waiting_at put number)) parts.0
          ∙ put_here (record { number = number; entry = e }) waiting parts.1
          ∙ sym (ap (λ (b : Bool). if b then Some e else book_with log waiting other) (eq-eqb number other same))
      go (inr ne) =
          ap (λ (o : Option Entry). entry_or (book_of log other) o) (put_other (record { number = number; entry = e }) waiting other ne)
          ∙ sym (ap (λ (b : Bool). if b then Some e else book_with log waiting other) (ne_eqb number other ne))

  pub stored_later : (e : Entry) → IsAbove (book_with log waiting) number e → Later (book_with log waiting) (book_with log (put_waiting (record { number = number; entry = e }) waiting))
  stored_later e above = put_later log waiting number e free above

  pub stored_rises : (e : Entry) → IsTrue (rises_from (length log) waiting) → IsTrue (rises_from (length log) (put_waiting (record { number = number; entry = e }) waiting))
  stored_rises e up = put_rises (length log) (record { number = number; entry = e }) waiting free.past_end parts.1 up
