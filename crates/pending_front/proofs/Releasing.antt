-- what a release leaves: the book as it was, and no entry that comes next
use Rattle.std.proofs.Common.{◌≡◌, ◌≢◌, ◌⊎◌, inl, inr, ℕ, zero, suc, ◌+◌, ◌<◌, ◌≤◌, Bool, true, false, List, [], ◌∷◌, ◌++◌, length, Option, Some, None, refl, sym, ap, subst, ◌∙◌, arith, append_assoc}
use Rattle.std.specs.Prelude.{nat_eq, slice_get, IsTrue, if◌then◌else◌}
use Rattle.std.proofs.lemmas.Bool.{eqb-true, eqb-false, eq-eqb, ne_eqb, cases_eq, cases_lt}
use Rattle.std.proofs.lemmas.List.{length-append, append-nil}
use Rattle.std.proofs.lemmas.Option.{none-some}
use Rattle.sg_history.specs.declared.book.Waiting.{Waiting}
use Rattle.sg_history.specs.declared.entries.Entry.{Entry}
use Rattle.sg_history.specs.Book.{book_of, book_with, entry_or, waiting_at}
use Rattle.sg_history.specs.History.{Extends}
use Rattle.sg_history.specs.World.{Released, release, rises_from}
use Rattle.pending_front.specs.Pending.{AreBeyond}
use Rattle.pending_front.proofs.Putting.{at_first, at_other, rises_first, rises_rest, rises_join, rises_free}

pub get_other : {X : Type 0} (xs : List X) (x : X) (k : ℕ) → k ≢ length xs → slice_get (xs ++ x ∷ []) k ≡ slice_get xs k
get_other [] x zero ne = absurd (ne refl)
get_other [] x (suc k) ne = refl
get_other (y ∷ ys) x zero ne = refl
get_other (y ∷ ys) x (suc k) ne = get_other ys x k (λ e. ne (omega arith))

get_last : {X : Type 0} (xs : List X) (x : X) → slice_get (xs ++ x ∷ []) (length xs) ≡ Some x
get_last [] x = refl
get_last (y ∷ ys) x = get_last ys x

pub get_beyond : {X : Type 0} (xs : List X) (k : ℕ) → length xs ≤ k → slice_get xs k ≡ None
get_beyond [] k h = refl
get_beyond (y ∷ ys) zero h = absurd (omega arith)
get_beyond (y ∷ ys) (suc k) h = get_beyond ys k (omega arith)

pub one_longer : {X : Type 0} (xs : List X) (x : X) → length (xs ++ x ∷ []) ≡ length xs + 1
one_longer xs x = length-append xs (x ∷ [])

-- the entry next to the log's end says in the log what it said waiting
module _ (log : List Entry) (f : Waiting) (fs : List Waiting) (next : f.number ≡ length log + 1) (up : IsTrue (rises_from f.number fs)) where
  pub rises_moved : IsTrue (rises_from (length (log ++ f.entry ∷ [])) fs)
  rises_moved = subst (λ (n : ℕ). IsTrue (rises_from n fs)) (next ∙ sym (one_longer log f.entry)) up

  logged_other : (n : ℕ) → f.number ≢ n → book_of (log ++ f.entry ∷ []) n ≡ book_of log n
  logged_other zero ne = refl
  logged_other (suc k) ne = get_other log f.entry k (λ e. ne (omega (arith, next, e)))

  moved_other : (n : ℕ) → f.number ≢ n → book_with (log ++ f.entry ∷ []) fs n ≡ book_with log (f ∷ fs) n
  moved_other n ne =
      ap (λ (o : Option Entry). entry_or o (waiting_at fs n)) (logged_other n ne)
      ∙ ap (λ (o : Option Entry). entry_or (book_of log n) o) (sym (at_other f fs n ne))

  moved_here : book_with (log ++ f.entry ∷ []) fs (length log + 1) ≡ book_with log (f ∷ fs) (length log + 1)
  moved_here =
      let place : ◌≡◌ {A = ℕ} (length log + 1) (suc (length log)) = omega arith in
      let logged : book_of (log ++ f.entry ∷ []) (length log + 1) ≡ Some f.entry = ap (λ (n : ℕ). book_of (log ++ f.entry ∷ []) n) place ∙ get_last log f.entry in
      let empty : book_of log (length log + 1) ≡ None = ap (λ (n : ℕ). book_of log n) place ∙ get_beyond log (length log) (omega arith) in
      ap (λ (o : Option Entry). entry_or o (waiting_at fs (length log + 1))) logged
      ∙ sym (ap (λ (o : Option Entry). entry_or o (waiting_at (f ∷ fs) (length log + 1))) empty ∙ at_first f fs (length log + 1) next)

  pub moved_book : (n : ℕ) → book_with (log ++ f.entry ∷ []) fs n ≡ book_with log (f ∷ fs) n
  moved_book n = go (cases_eq f.number n)
    where
      go : (f.number ≡ n) ⊎ (f.number ≢ n) → book_with (log ++ f.entry ∷ []) fs n ≡ book_with log (f ∷ fs) n
      go (inl e) = subst (λ (m : ℕ). book_with (log ++ f.entry ∷ []) fs m ≡ book_with log (f ∷ fs) m) (sym next ∙ e) moved_here
      go (inr ne) = moved_other n ne

-- a release leaves the book as it was
pub released_at : (log : List Entry) (ws : List Waiting) (n : ℕ) → IsTrue (rises_from (length log) ws) → book_with (release log ws).log (release log ws).pending n ≡ book_with log ws n
released_at log [] n up = refl
released_at log (f ∷ fs) n up =
    go (nat_eq f.number (length log + 1)) refl (λ next. released_at (log ++ f.entry ∷ []) fs n (rises_moved log f fs next (rises_rest (length log) f fs up)))
  where
    go : (b : Bool) → nat_eq f.number (length log + 1) ≡ b
        → (f.number ≡ length log + 1 → book_with (release (log ++ f.entry ∷ []) fs).log (release (log ++ f.entry ∷ []) fs).pending n ≡ book_with (log ++ f.entry ∷ []) fs n)
        → book_with (if b then release (log ++ f.entry ∷ []) fs else record { log = log; pending = f ∷ fs }).log (if b then release (log ++ f.entry ∷ []) fs else record { log = log; pending = f ∷ fs }).pending n ≡ book_with log (f ∷ fs) n
    go true is more =
        let next = eqb-true f.number (length log + 1) is in
        more next ∙ moved_book log f fs next (rises_rest (length log) f fs up) n
    go false is more = refl

pub released_book : (log : List Entry) (ws : List Waiting) → IsTrue (rises_from (length log) ws) → book_with (release log ws).log (release log ws).pending ≡ book_with log ws
released_book log ws up = λ i n. released_at log ws n up i

-- after a release the numbers rise from the one next to the log's end
pub released_rises : (log : List Entry) (ws : List Waiting) → IsTrue (rises_from (length log) ws) → IsTrue (rises_from (length (release log ws).log + 1) (release log ws).pending)
released_rises log [] up = refl
released_rises log (f ∷ fs) up =
    go (nat_eq f.number (length log + 1)) refl (λ next. released_rises (log ++ f.entry ∷ []) fs (rises_moved log f fs next (rises_rest (length log) f fs up)))
  where
    go : (b : Bool) → nat_eq f.number (length log + 1) ≡ b
        → (f.number ≡ length log + 1 → IsTrue (rises_from (length (release (log ++ f.entry ∷ []) fs).log + 1) (release (log ++ f.entry ∷ []) fs).pending))
        → IsTrue (rises_from (length (if b then release (log ++ f.entry ∷ []) fs else record { log = log; pending = f ∷ fs }).log + 1) (if b then release (log ++ f.entry ∷ []) fs else record { log = log; pending = f ∷ fs }).pending)
    go true is more = more (eqb-true f.number (length log + 1) is)
    go false is more =
        let apart = eqb-false f.number (length log + 1) is in
        let first = rises_first (length log) f fs up in
        rises_join (length log + 1) f fs (omega (arith, first, apart)) (rises_rest (length log) f fs up)

-- a release makes the log longer at its end alone
pub released_log : (log : List Entry) (ws : List Waiting) → Extends log (release log ws).log
released_log log [] = ([], sym (append-nil log))
released_log log (f ∷ fs) = go (nat_eq f.number (length log + 1)) (released_log (log ++ f.entry ∷ []) fs)
  where
    go : (b : Bool) → Extends (log ++ f.entry ∷ []) (release (log ++ f.entry ∷ []) fs).log → Extends log (if b then release (log ++ f.entry ∷ []) fs else record { log = log; pending = f ∷ fs }).log
    go true more = (f.entry ∷ more.0, more.1 ∙ append_assoc log (f.entry ∷ []) more.0)
    go false more = ([], sym (append-nil log))

-- one entry that moves
pub moves : (log : List Entry) (old new : List Waiting) (n : ℕ) (e : Entry) → old ≡ record { number = n; entry = e } ∷ new → n ≡ length log + 1 → release (log ++ e ∷ []) new ≡ release log old
moves log old new n e is next =
    sym (ap (λ (ws : List Waiting). release log ws) is
    ∙ ap (λ (b : Bool). if b then release (log ++ e ∷ []) new else record { log = log; pending = record { number = n; entry = e } ∷ new }) (eq-eqb n (length log + 1) next))

-- none that moves
pub stays : (log : List Entry) (ws : List Waiting) → waiting_at ws (length log + 1) ≡ None → release log ws ≡ record { log = log; pending = ws }
stays log [] none = refl
stays log (f ∷ fs) none =
    ap (λ (b : Bool). if b then release (log ++ f.entry ∷ []) fs else record { log = log; pending = f ∷ fs })
    (ne_eqb f.number (length log + 1) (λ e. absurd (none-some _ (sym none ∙ at_first f fs (length log + 1) e))))

-- after one that moves none waits at a place of the log
pub moves_beyond : (log : List Entry) (old new : List Waiting) (n : ℕ) (e : Entry) → old ≡ record { number = n; entry = e } ∷ new → n ≡ length log + 1 → IsTrue (rises_from 0 old) → AreBeyond (log ++ e ∷ []) new
moves_beyond log old new n e is next up place from low =
    let rest = rises_rest 0 (record { number = n; entry = e }) new (subst (λ (ws : List Waiting). IsTrue (rises_from 0 ws)) is up) in
    rises_free n new place rest (omega (arith, low, next, one_longer log e))

-- none that is left
pub none_left : (log : List Entry) (ws : List Waiting) → length ws ≡ 0 → ◌≡◌ {A = Released} (record { log = log; pending = ws }) (release log ws)
none_left log [] none = refl
none_left log (f ∷ fs) none = absurd (omega arith)

-- numbers that are no places of the log rise from its length, and the other way round
pub beyond_rises : (log : List Entry) (ws : List Waiting) → IsTrue (rises_from 0 ws) → AreBeyond log ws → IsTrue (rises_from (length log) ws)
beyond_rises log [] up beyond = refl
beyond_rises log (f ∷ fs) up beyond = go (cases_lt (length log) f.number)
  where
    go : (length log < f.number) ⊎ (f.number ≤ length log) → IsTrue (rises_from (length log) (f ∷ fs))
    go (inl past) = rises_join (length log) f fs past (rises_rest 0 f fs up)
    go (inr low) =
        let first = rises_first 0 f fs up in
        absurd (none-some _ (sym (beyond f.number (omega arith) low) ∙ at_first f fs f.number refl))

pub rises_beyond : (log : List Entry) (ws : List Waiting) → IsTrue (rises_from (length log + 1) ws) → AreBeyond log ws
rises_beyond log ws up place from low = rises_free (length log + 1) ws place up (omega arith)

-- what a release says of the log and the entries that it leaves
module _ (log new_log : List Entry) (ws new_ws : List Waiting) (is : ◌≡◌ {A = Released} (record { log = new_log; pending = new_ws }) (release log ws)) (up : IsTrue (rises_from 0 ws)) (beyond : AreBeyond log ws) where
  left_rises : IsTrue (rises_from (length new_log + 1) new_ws)
  left_rises =
      subst (λ (r : Released). IsTrue (rises_from (length r.log + 1) r.pending)) (sym is) (released_rises log ws (beyond_rises log ws up beyond))

  pub left_next : waiting_at new_ws (length new_log + 1) ≡ None
  left_next = rises_free (length new_log + 1) new_ws (length new_log + 1) left_rises (omega arith)

  pub left_beyond : AreBeyond new_log new_ws
  left_beyond = rises_beyond new_log new_ws left_rises

  pub left_book : book_with new_log new_ws ≡ book_with log ws
  left_book =
      subst (λ (r : Released). book_with r.log r.pending ≡ book_with log ws) (sym is) (released_book log ws (beyond_rises log ws up beyond))
