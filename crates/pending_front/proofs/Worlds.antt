-- worlds of sequences, step by step
use Rattle.std.proofs.Common.{◌≡◌, ◌≢◌, ◌⊎◌, inl, inr, ℕ, zero, suc, ◌+◌, ◌<◌, ◌≤◌, Bool, true, false, ◌&&◌, ◌||◌, cond, List, [], ◌∷◌, ◌++◌, length, Option, Some, None, refl, sym, ap, subst, ◌∙◌, arith, append_assoc}
use Rattle.std.specs.Prelude.{nat_eq, nat_le, count_by, IsTrue, if◌then◌else◌}
use Rattle.std.proofs.lemmas.Bool.{eqb-true, eqb-false, cases_eq, cases_lt, false≢true, le-leb, lt-leb}
use Rattle.std.proofs.lemmas.List.{append-nil}
use Rattle.std.proofs.lemmas.List.Sums.{sum_by-cons}
use Rattle.std.proofs.lemmas.Option.{none-some}
use Rattle.sg_history.specs.declared.book.Waiting.{Waiting}
use Rattle.sg_history.specs.declared.entries.Entry.{Entry}
use Rattle.sg_history.specs.declared.entries.Entry.TheVariants.{Unused}
use Rattle.sg_history.specs.declared.entries.Write.{Write}
use Rattle.sg_history.specs.Book.{Book, book_of, book_with, entry_or, waiting_at, same_written, tied, IsAbove, Later}
use Rattle.sg_history.specs.History.{Extends, as_write, is_sync, is_write}
use Rattle.sg_history.specs.World.{World, Step, draw, store, swap, look, IsSound, IsHeld, MayStep, once_among, rises_from, release, put_waiting, without_number, with_released, world_book, world_after}
use Rattle.pending_front.specs.Runs.{world_of, world_after_all, MayRun}
use Rattle.pending_front.specs.Storing.{MayStore}
use Rattle.pending_front.proofs.Putting.{one, times, one_same, one_other, times_cons, put_times, rises_lower, rises_free, times_none, put_rises, put_other, put_here}
use Rattle.pending_front.proofs.Releasing.{get_beyond, one_longer, released_book, released_rises, released_log}

-- how often a number is held
abbrev pub held_times : ℕ → List ℕ → ℕ
held_times n held = count_by (λ h. nat_eq h n) held

held_cons : (n h : ℕ) (hs : List ℕ) → held_times n (h ∷ hs) ≡ one h n + held_times n hs
held_cons n h hs = sum_by-cons (λ (k : ℕ). cond (nat_eq k n) 1 0) h hs

once_in : (n count : ℕ) → 1 ≤ n → n ≤ count → once_among n count ≡ 1
once_in n count from low =
    ap (λ (b : Bool). if b && nat_le n count then 1 else 0) (le-leb 1 n from) ∙ ap (λ (b : Bool). if b then 1 else 0) (le-leb n count low)

once_zero : (count : ℕ) → once_among 0 count ≡ 0
once_zero count = refl

once_past : (n count : ℕ) → 1 ≤ n → count < n → once_among n count ≡ 0
once_past n count from high =
    ap (λ (b : Bool). if b && nat_le n count then 1 else 0) (le-leb 1 n from) ∙ ap (λ (b : Bool). if b then 1 else 0) (lt-leb n count high)

-- how a number stands to the first so many
once_cases : (n count : ℕ) → ((1 ≤ n) × (n ≤ count) × (once_among n count ≡ 1)) ⊎ (((n ≡ 0) ⊎ (count < n)) × (once_among n count ≡ 0))
once_cases zero count = inr (inl refl, refl)
once_cases (suc k) count = go (cases_lt count (suc k))
  where
    go : (count < suc k) ⊎ (suc k ≤ count) → ((1 ≤ suc k) × (suc k ≤ count) × (once_among (suc k) count ≡ 1)) ⊎ (((suc k ≡ 0) ⊎ (count < suc k)) × (once_among (suc k) count ≡ 0))
    go (inl high) = inr (inr high, once_past (suc k) count (omega arith) high)
    go (inr low) = inl (omega arith, low, once_in (suc k) count (omega arith) low)

-- the number next to the last is one more
once_more : (n count : ℕ) → once_among n (count + 1) ≡ once_among n count + one (count + 1) n
once_more zero count = let other = one_other (count + 1) 0 (λ e. absurd (omega arith)) in omega arith
once_more (suc k) count = go (cases_eq (count + 1) (suc k)) (cases_lt count (suc k))
  where
    go : (count + 1 ≡ suc k) ⊎ (count + 1 ≢ suc k) → (count < suc k) ⊎ (suc k ≤ count) → once_among (suc k) (count + 1) ≡ once_among (suc k) count + one (count + 1) (suc k)
    go (inl e) side =
        let now = once_in (suc k) (count + 1) (omega arith) (omega (arith, e)) in
        let old = once_past (suc k) count (omega arith) (omega (arith, e)) in
        let same = one_same (count + 1) (suc k) e in
        omega arith
    go (inr ne) (inl high) =
        let now = once_past (suc k) (count + 1) (omega arith) (omega (arith, ne, high)) in
        let old = once_past (suc k) count (omega arith) high in
        let other = one_other (count + 1) (suc k) ne in
        omega arith
    go (inr ne) (inr low) =
        let now = once_in (suc k) (count + 1) (omega arith) (omega (arith, low)) in
        let old = once_in (suc k) count (omega arith) low in
        let other = one_other (count + 1) (suc k) ne in
        omega arith

-- each drawn number is at one place, and the entries that wait do so past the log's end
pub record IsReady (count : ℕ) (held : List ℕ) (pending : List Waiting) (log : List Entry) : Type 0 where
  pub taken : (n : ℕ) → once_among n (length log) + times n pending + held_times n held ≡ once_among n count
  pub waiting : IsTrue (rises_from (length log) pending)

ready_from : (w : World) → IsSound w → IsReady w.count w.held w.pending w.log
ready_from w sound = record { taken = sound.taken; waiting = rises_lower (length w.log) (length w.log + 1) w.pending (omega arith) sound.waiting }

-- a held number is past the log's end, and nothing waits under it
pub record IsFree (number : ℕ) (pending : List Waiting) (log : List Entry) : Type 0 where
  pub past_end : length log < number
  pub free : waiting_at pending number ≡ None

held_free : (count : ℕ) (held : List ℕ) (pending : List Waiting) (log : List Entry) (number : ℕ) → IsReady count held pending log → 0 < held_times number held → IsFree number pending log
held_free count held pending log number ready is_held = go (once_cases number count) (once_cases number (length log)) (ready.taken number)
  where
    go : ((1 ≤ number) × (number ≤ count) × (once_among number count ≡ 1)) ⊎ (((number ≡ 0) ⊎ (count < number)) × (once_among number count ≡ 0))
        → ((1 ≤ number) × (number ≤ length log) × (once_among number (length log) ≡ 1)) ⊎ (((number ≡ 0) ⊎ (length log < number)) × (once_among number (length log) ≡ 0))
        → once_among number (length log) + times number pending + held_times number held ≡ once_among number count → IsFree number pending log
    go (inr out) place taken = let none = out.1 in absurd (omega arith)
    go (inl within) (inl place) taken = let all = within.2 in let here = place.2 in absurd (omega arith)
    go (inl within) (inr (inl none, out)) taken = let from = within.0 in absurd (omega arith)
    go (inl within) (inr (inr high, out)) taken =
        let all = within.2 in record { past_end = high; free = times_none number pending (omega arith) }

free_book : (number : ℕ) (pending : List Waiting) (log : List Entry) → IsFree number pending log → book_with log pending number ≡ None
free_book zero pending log it = let high = it.past_end in absurd (omega arith)
free_book (suc k) pending log it =
    let high = it.past_end in
    ap (λ (o : Option Entry). entry_or o (waiting_at pending (suc k))) (get_beyond log k (omega arith)) ∙ it.free

-- a held number that is given away
without_times : (c : ℕ) (held : List ℕ) → 0 < held_times c held → (n : ℕ) → held_times n (without_number c held) + one c n ≡ held_times n held
without_times c [] some n = absurd (omega arith)
without_times c (h ∷ hs) some n = go (nat_eq h c) refl (λ more. without_times c hs more n)
  where
    go : (b : Bool) → nat_eq h c ≡ b → (0 < held_times c hs → held_times n (without_number c hs) + one c n ≡ held_times n hs) → held_times n (if b then hs else h ∷ without_number c hs) + one c n ≡ held_times n (h ∷ hs)
    go true is rec =
        let first = held_cons n h hs in
        let same : one h n ≡ one c n = ap (λ (k : ℕ). one k n) (eqb-true h c is) in
        omega arith
    go false is rec =
        let first = held_cons c h hs in
        let other = one_other h c (eqb-false h c is) in
        let rest = rec (omega arith) in
        let all = held_cons n h hs in
        let left = held_cons n h (without_number c hs) in
        omega arith

put_ready : (count : ℕ) (held : List ℕ) (pending : List Waiting) (log : List Entry) (c : ℕ) (e : Entry) → IsReady count held pending log → 0 < held_times c held
    → IsReady count (without_number c held) (put_waiting (record { number = c; entry = e }) pending) log
put_ready count held pending log c e ready is_held =
    let it = held_free count held pending log c ready is_held in
    record {
      taken = λ n.
          let all = ready.taken n in
          let put = put_times n (record { number = c; entry = e }) pending in
          let left = without_times c held is_held n in
          omega arith;
      waiting = put_rises (length log) (record { number = c; entry = e }) pending it.past_end it.free ready.waiting;
    }

-- a release moves numbers from those that wait to the log
released_taken : (n : ℕ) (log : List Entry) (ws : List Waiting) → once_among n (length (release log ws).log) + times n (release log ws).pending ≡ once_among n (length log) + times n ws
released_taken n log [] = refl
released_taken n log (f ∷ fs) = go (nat_eq f.number (length log + 1)) refl (released_taken n (log ++ f.entry ∷ []) fs)
  where
    go : (b : Bool) → nat_eq f.number (length log + 1) ≡ b
        → once_among n (length (release (log ++ f.entry ∷ []) fs).log) + times n (release (log ++ f.entry ∷ []) fs).pending ≡ once_among n (length (log ++ f.entry ∷ [])) + times n fs
        → once_among n (length (if b then release (log ++ f.entry ∷ []) fs else record { log = log; pending = f ∷ fs }).log) + times n (if b then release (log ++ f.entry ∷ []) fs else record { log = log; pending = f ∷ fs }).pending ≡ once_among n (length log) + times n (f ∷ fs)
    go true is more =
        let longer : once_among n (length (log ++ f.entry ∷ [])) ≡ once_among n (length log + 1) = ap (λ (k : ℕ). once_among n k) (one_longer log f.entry) in
        let next = once_more n (length log) in
        let first = times_cons n f fs in
        let same : one f.number n ≡ one (length log + 1) n = ap (λ (k : ℕ). one k n) (eqb-true f.number (length log + 1) is) in
        more ∙ omega arith
    go false is more = refl

release_sound : (w : World) (held : List ℕ) (pending : List Waiting) → IsReady w.count held pending w.log → IsSound (with_released w held (release w.log pending))
release_sound w held pending ready =
    record {
      taken = λ n. let all = ready.taken n in let moved = released_taken n w.log pending in omega arith;
      waiting = released_rises w.log pending ready.waiting;
    }

one_some : (e x : Entry) → Some e ≡ Some x → e ≡ x
one_some e x h = cc

-- an entry that is given up is tied to none
untied : (o : Option Write) (s w : Bool) → (same_written o None || (s && (false || false)) || (w && false)) ≡ false
untied None true true = refl
untied None true false = refl
untied None false true = refl
untied None false false = refl
untied (Some x) true true = refl
untied (Some x) true false = refl
untied (Some x) false true = refl
untied (Some x) false false = refl

unused_untied : (other : Entry) → ¬ (IsTrue (tied other Unused))
unused_untied other tie = false≢true (sym (untied (as_write other) (is_sync other) (is_write other)) ∙ tie)

-- an entry that is put at a free number leads to a later book
module _ (log : List Entry) (pending : List Waiting) (c : ℕ) (e : Entry) (it : IsFree c pending log)
    (above : IsAbove (book_with log pending) c e) where
  abbrev pub put : List Waiting
  put = put_waiting (record { number = c; entry = e }) pending

  pub book_other : (n : ℕ) → c ≢ n → book_with log put n ≡ book_with log pending n
  book_other n ne = ap (λ (o : Option Entry). entry_or (book_of log n) o) (put_other (record { number = c; entry = e }) pending n ne)

  pub book_here : book_with log put c ≡ Some e
  book_here = go c refl
    where
      go : (n : ℕ) → c ≡ n → book_with log put c ≡ Some e
      go zero is = let high = it.past_end in absurd (omega arith)
      go (suc k) is =
          let high = it.past_end in
          let none : book_of log c ≡ None = ap (λ (n : ℕ). book_of log n) is ∙ get_beyond log k (omega arith) in
          ap (λ (o : Option Entry). entry_or o (waiting_at put c)) none ∙ put_here (record { number = c; entry = e }) pending it.free

  pub put_later : Later (book_with log pending) (book_with log put)
  put_later = record { kept = kept; above = higher }
    where
      none : book_with log pending c ≡ None
      none = free_book c pending log it

      kept : (n : ℕ) (x : Entry) → book_with log pending n ≡ Some x → book_with log put n ≡ Some x
      kept n x is = go (cases_eq c n)
        where
          go : (c ≡ n) ⊎ (c ≢ n) → book_with log put n ≡ Some x
          go (inl same) = absurd (none-some _ (sym none ∙ ap (λ (k : ℕ). book_with log pending k) same ∙ is))
          go (inr ne) = book_other n ne ∙ is

      higher : (new : ℕ) (x : Entry) → book_with log pending new ≡ None → book_with log put new ≡ Some x → IsAbove (book_with log pending) new x
      higher new x gone at old other there tie = go (cases_eq c new)
        where
          go : (c ≡ new) ⊎ (c ≢ new) → old < new
          go (inl same) =
              let here : e ≡ x = one_some e x (sym book_here ∙ ap (λ (k : ℕ). book_with log put k) same ∙ at) in
              subst (λ (k : ℕ). old < k) same (above old other there (subst (λ (y : Entry). IsTrue (tied other y)) (sym here) tie))
          go (inr ne) = absurd (none-some _ (sym gone ∙ sym (book_other new ne) ∙ at))

module _ (again : (a b c : Book) → Later a b → Later b c → Later a c) (itself : (b : Book) → Later b b) where
  released_later : (w : World) (held : List ℕ) (pending : List Waiting) → IsTrue (rises_from (length w.log) pending) → Later (world_book w) (book_with w.log pending) → Later (world_book w) (world_book (with_released w held (release w.log pending)))
  released_later w held pending up later = subst (λ (b : Book). Later (world_book w) b) (sym (released_book w.log pending up)) later

  -- of a swap the number given up has an entry that is tied to none, so that the entry stands above all to which it is tied still
  module _ (w : World) (sound : IsSound w) (unused number : ℕ) (e : Entry) (first : 0 < held_times unused w.held) (second : 0 < held_times number w.held) (apart : unused ≢ number) (above : IsAbove (world_book w) number e) where
    abbrev given : List Waiting
    given = put_waiting (record { number = unused; entry = Unused }) w.pending

    ready : IsReady w.count (without_number unused w.held) given w.log
    ready = put_ready w.count w.held w.pending w.log unused Unused (ready_from w sound) first

    still : 0 < held_times number (without_number unused w.held)
    still = let left = without_times unused w.held first number in let other = one_other unused number apart in omega arith

    nothing : IsAbove (book_with w.log w.pending) unused Unused
    nothing old other there tie = absurd (unused_untied other tie)

    still_above : IsAbove (book_with w.log given) number e
    still_above old other at tie = go (cases_eq unused old)
      where
        it : IsFree unused w.pending w.log
        it = held_free w.count w.held w.pending w.log unused (ready_from w sound) first

        go : (unused ≡ old) ⊎ (unused ≢ old) → old < number
        go (inl same) =
            let here : Unused ≡ other =
            one_some Unused other (sym (book_here w.log w.pending unused Unused it nothing) ∙ ap (λ (k : ℕ). book_with w.log given k) same ∙ at) in
            absurd (false≢true (subst (λ (x : Entry). IsTrue (tied x e)) (sym here) tie))
        go (inr ne) = above old other (sym (book_other w.log w.pending unused Unused it nothing old ne) ∙ at) tie

    swap_sound : IsSound (world_after w (swap unused number e))
    swap_sound = release_sound w (without_number number (without_number unused w.held)) (put_waiting (record { number = number; entry = e }) given) (put_ready w.count (without_number unused w.held) given w.log number e ready still)

    swap_later : Later (world_book w) (world_book (world_after w (swap unused number e)))
    swap_later =
        released_later w (without_number number (without_number unused w.held)) (put_waiting (record { number = number; entry = e }) given)
        (put_ready w.count (without_number unused w.held) given w.log number e ready still).waiting
        (again (world_book w) (book_with w.log given) (book_with w.log (put_waiting (record { number = number; entry = e }) given))
        (put_later w.log w.pending unused Unused (held_free w.count w.held w.pending w.log unused (ready_from w sound) first) nothing)
        (put_later w.log given number e (held_free w.count (without_number unused w.held) given w.log number ready still) still_above))

  pub step_sound : (w : World) (step : Step) → IsSound w → MayStep w step → IsSound (world_after w step)
  step_sound w draw sound may =
      record {
        taken = λ n.
            let all = sound.taken n in
            let more = once_more n w.count in
            let first = held_cons n (w.count + 1) w.held in
            omega arith;
        waiting = sound.waiting;
      }
  step_sound w (store number e) sound may =
      release_sound w (without_number number w.held) (put_waiting (record { number = number; entry = e }) w.pending) (put_ready w.count w.held w.pending w.log number e (ready_from w sound) may.0)
  step_sound w (swap unused number e) sound may = swap_sound w sound unused number e may.0 may.1 may.2 may.3
  step_sound w look sound may = sound

  pub step_later : (w : World) (step : Step) → IsSound w → MayStep w step → Later (world_book w) (world_book (world_after w step))
  step_later w draw sound may = itself (world_book w)
  step_later w (store number e) sound may =
      released_later w (without_number number w.held) (put_waiting (record { number = number; entry = e }) w.pending)
      (put_ready w.count w.held w.pending w.log number e (ready_from w sound) may.0).waiting
      (put_later w.log w.pending number e (held_free w.count w.held w.pending w.log number (ready_from w sound) may.0) may.1)
  step_later w (swap unused number e) sound may = swap_later w sound unused number e may.0 may.1 may.2 may.3
  step_later w look sound may = itself (world_book w)

  pub run_sound : (w : World) (steps : List Step) → IsSound w → MayRun w steps → IsSound (world_after_all w steps)
  run_sound w [] sound may = sound
  run_sound w (step ∷ steps) sound may = run_sound (world_after w step) steps (step_sound w step sound may.0) may.1

  pub run_later : (w : World) (steps : List Step) → IsSound w → MayRun w steps → Later (world_book w) (world_book (world_after_all w steps))
  run_later w [] sound may = itself (world_book w)
  run_later w (step ∷ steps) sound may =
      again (world_book w) (world_book (world_after w step)) (world_book (world_after_all (world_after w step) steps))
      (step_later w step sound may.0) (run_later (world_after w step) steps (step_sound w step sound may.0) may.1)

step_log : (w : World) (step : Step) → Extends w.log (world_after w step).log
step_log w draw = ([], sym (append-nil w.log))
step_log w (store number e) = released_log w.log (put_waiting (record { number = number; entry = e }) w.pending)
step_log w (swap unused number e) = released_log w.log (put_waiting (record { number = number; entry = e }) (put_waiting (record { number = unused; entry = Unused }) w.pending))
step_log w look = ([], sym (append-nil w.log))

pub run_log : (w : World) (steps : List Step) → Extends w.log (world_after_all w steps).log
run_log w [] = ([], sym (append-nil w.log))
run_log w (step ∷ steps) =
    let first = step_log w step in
    let rest = run_log (world_after w step) steps in
    (first.0 ++ rest.0, rest.1 ∙ ap (λ (l : List Entry). l ++ rest.0) first.1 ∙ append_assoc w.log first.0 rest.0)

pub log_sound : (log : List Entry) → IsSound (world_of log)
log_sound log = record { taken = λ n. omega arith; waiting = refl }

pub sound_next : (w : World) → IsSound w → waiting_at w.pending (length w.log + 1) ≡ None
sound_next w sound = rises_free (length w.log + 1) w.pending (length w.log + 1) sound.waiting (omega arith)

pub held_stores : (w : World) (number : ℕ) → IsSound w → IsHeld w number → MayStore w.log w.pending number
held_stores w number sound is_held =
    let it = held_free w.count w.held w.pending w.log number (ready_from w sound) is_held in
    let high = it.past_end in
    (omega arith, free_book number w.pending w.log it)
