-- An entry that is stored on a plain board.
use Rattle.std.proofs.Common.{◌≡◌, ℕ, zero, suc, ◌+◌, ◌<◌, ◌≤◌, Bool, List, [], ◌∷◌, length, Option, Some, None, refl, sym, ap, subst, ◌∙◌, arith}
use Rattle.std.specs.Prelude.{nat_eq, slice_get, IsTrue, if◌then◌else◌}
use Rattle.std.proofs.lemmas.Bool.{eq-eqb, ne_eqb}
use Rattle.std.proofs.lemmas.Option.{none-some}
use Rattle.sg_history.specs.declared.book.Waiting.{Waiting}
use Rattle.sg_history.specs.declared.entries.Entry.{Entry}
use Rattle.sg_history.specs.Board.{SideFollows}
use Rattle.sg_history.specs.History.{Extends}
use Rattle.sg_history.specs.Book.{Book, Later, book_of, book_with, entry_or, waiting_at}
use Rattle.sg_history.specs.World.{put_waiting, release, rises_from}
use Rattle.pending_front.specs.Pending.{AreBeyond}
use Rattle.tests_of_history.specs.inner.Boards.{board_with, CanStore, Stores}
use Rattle.tests_of_history.proofs.Releases.{put_length, rises_lower, rises_free, put_rises, released_log, released_count, released_rises}

get_none : {X : Type 0} (xs : List X) (k : ℕ) → slice_get xs k ≡ None → length xs ≤ k
get_none [] k h = omega arith
get_none (x ∷ xs) zero h = absurd (none-some _ (sym h))
get_none (x ∷ xs) (suc k) h = omega (arith, get_none xs k h)

none_parts : (o p : Option Entry) → entry_or o p ≡ None → (o ≡ None) × (p ≡ None)
none_parts None p h = (refl, h)
none_parts (Some e) p h = absurd (none-some _ (sym h))

past_end : (log : List Entry) (n : ℕ) → 1 ≤ n → book_of log n ≡ None → length log < n
past_end log zero from none = absurd (omega arith)
past_end log (suc k) from none = omega (arith, get_none log k none)

no_side : SideFollows [] []
no_side text old there = absurd (none-some old there)

-- the entries that wait, with one that is put among them
abbrev pub put_at : List Waiting → ℕ → Entry → List Waiting
put_at ws n e = put_waiting (record { number = n; entry = e }) ws

module _ (log : List Entry) (ws : List Waiting) (n : ℕ) (e : Entry) (can : CanStore (board_with log ws) n e) where
  pub none_beyond : AreBeyond log ws
  none_beyond place from low = rises_free (length log + 1) ws place can.waiting (omega arith)

  pub put_fits : (spare : ℕ) → length ws < spare → length (put_at ws n e) ≤ spare
  put_fits spare room = let more = put_length (record { number = n; entry = e }) ws in omega arith

  parts : (book_of log n ≡ None) × (waiting_at ws n ≡ None)
  parts = none_parts (book_of log n) (waiting_at ws n) can.free.1

  put_up : IsTrue (rises_from (length log) (put_at ws n e))
  put_up =
      put_rises (length log) (record { number = n; entry = e }) ws (past_end log n can.free.0 parts.0) parts.1
      (rises_lower (length log) (length log + 1) ws (omega arith) can.waiting)

  -- what a put and then a release leave
  pub stores : (book : (k : ℕ) → book_with log (put_at ws n e) k ≡ (if nat_eq n k then Some e else book_with log ws k)) → Later (book_with log ws) (book_with log (put_at ws n e))
      → (new_log : List Entry) (new_ws : List Waiting) → new_log ≡ (release log (put_at ws n e)).log → new_ws ≡ (release log (put_at ws n e)).pending
      → book_with new_log new_ws ≡ book_with log (put_at ws n e) → Stores (board_with log ws) n e (board_with new_log new_ws)
  stores book later new_log new_ws log_is ws_is same =
      let count = released_count log (put_at ws n e) in
      let more = put_length (record { number = n; entry = e }) ws in
      let new_count : length new_log + length new_ws ≡ length log + length ws + 1 =
      ap (λ (l : List Entry). length l + length new_ws) log_is ∙ ap (λ (l : List Waiting). length (release log (put_at ws n e)).log + length l) ws_is ∙ omega (arith, count, more)
      in
      record {
        after = record {
          limit = refl;
          book = subst (λ (b : Book). Later (book_with log ws) b) (sym same) later;
          log = subst (λ (l : List Entry). Extends log l) (sym log_is) (released_log log (put_at ws n e));
          count = omega (arith, new_count);
          bytes = omega arith;
          side = no_side;
          faults = omega arith;
        };
        here = ap (λ (b : Book). b n) same ∙ book n ∙ ap (λ (b : Bool). if b then Some e else book_with log ws n) (eq-eqb n n refl);
        elsewhere = λ k ne. ap (λ (b : Book). b k) same ∙ book k ∙ ap (λ (b : Bool). if b then Some e else book_with log ws k) (ne_eqb n k ne);
        waiting = subst (λ (l : List Waiting). IsTrue (rises_from (length new_log + 1) l)) (sym ws_is)
            (subst (λ (l : List Entry). IsTrue (rises_from (length l + 1) (release log (put_at ws n e)).pending)) (sym log_is) (released_rises log (put_at ws n e) put_up));
      }
