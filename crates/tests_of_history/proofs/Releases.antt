-- An entry that is put among those that wait, and what a release leaves.
use Rattle.std.proofs.Common.{◌≡◌, ◌≢◌, ℕ, ◌+◌, ◌<◌, ◌≤◌, Bool, true, false, List, [], ◌∷◌, ◌++◌, length, Some, None, refl, sym, ap, subst, ◌∙◌, arith, append_assoc}
use Rattle.std.specs.Prelude.{nat_eq, nat_lt, IsTrue, if◌then◌else◌}
use Rattle.std.proofs.lemmas.Bool.{ltb-true, ltb-false, lt-ltb, eqb-true, eqb-false, ne_eqb, and_parts, and_from}
use Rattle.std.proofs.lemmas.List.{length-append, append-nil}
use Rattle.std.proofs.lemmas.Option.{none-some}
use Rattle.sg_history.specs.declared.book.Waiting.{Waiting}
use Rattle.sg_history.specs.declared.entries.Entry.{Entry}
use Rattle.sg_history.specs.Book.{waiting_at}
use Rattle.sg_history.specs.History.{Extends}
use Rattle.sg_history.specs.World.{put_waiting, release, rises_from}

pub put_length : (w : Waiting) (ws : List Waiting) → length (put_waiting w ws) ≡ length ws + 1
put_length w [] = refl
put_length w (f ∷ fs) = go (nat_lt w.number f.number) (put_length w fs)
  where
    go : (b : Bool) → length (put_waiting w fs) ≡ length fs + 1 → length (if b then w ∷ f ∷ fs else f ∷ put_waiting w fs) ≡ length (f ∷ fs) + 1
    go true more = omega arith
    go false more = omega arith

-- ---- numbers that rise

rises_first : (low : ℕ) (f : Waiting) (fs : List Waiting) → IsTrue (rises_from low (f ∷ fs)) → low < f.number
rises_first low f fs up = ltb-true low f.number (and_parts (nat_lt low f.number) (rises_from f.number fs) up).0

rises_rest : (low : ℕ) (f : Waiting) (fs : List Waiting) → IsTrue (rises_from low (f ∷ fs)) → IsTrue (rises_from f.number fs)
rises_rest low f fs up = (and_parts (nat_lt low f.number) (rises_from f.number fs) up).1

rises_join : (low : ℕ) (f : Waiting) (fs : List Waiting) → low < f.number → IsTrue (rises_from f.number fs) → IsTrue (rises_from low (f ∷ fs))
rises_join low f fs below up = and_from (nat_lt low f.number) (rises_from f.number fs) (lt-ltb low f.number below) up

pub rises_lower : (low high : ℕ) (ws : List Waiting) → low ≤ high → IsTrue (rises_from high ws) → IsTrue (rises_from low ws)
rises_lower low high [] h up = refl
rises_lower low high (f ∷ fs) h up =
    let first = rises_first high f fs up in rises_join low f fs (omega arith) (rises_rest high f fs up)

-- nothing waits at a number or below it, where numbers rise from it
pub rises_free : (low : ℕ) (ws : List Waiting) (n : ℕ) → IsTrue (rises_from low ws) → n ≤ low → waiting_at ws n ≡ None
rises_free low [] n up h = refl
rises_free low (f ∷ fs) n up h =
    let first = rises_first low f fs up in
    ap (λ (b : Bool). if b then Some f.entry else waiting_at fs n) (ne_eqb f.number n (λ e. absurd (omega arith)))
    ∙ rises_free f.number fs n (rises_rest low f fs up) (omega arith)

apart_first : (f : Waiting) (fs : List Waiting) (n : ℕ) → waiting_at (f ∷ fs) n ≡ None → (f.number ≢ n) × (waiting_at fs n ≡ None)
apart_first f fs n free = go (nat_eq f.number n) refl free
  where
    go : (b : Bool) → nat_eq f.number n ≡ b → (if b then Some f.entry else waiting_at fs n) ≡ None → (f.number ≢ n) × (waiting_at fs n ≡ None)
    go true is h = absurd (none-some _ (sym h))
    go false is h = (eqb-false f.number n is, h)

-- an entry that is put keeps the numbers rising
pub put_rises : (low : ℕ) (w : Waiting) (ws : List Waiting) → low < w.number → waiting_at ws w.number ≡ None → IsTrue (rises_from low ws) → IsTrue (rises_from low (put_waiting w ws))
put_rises low w [] below free up = rises_join low w [] below refl
put_rises low w (f ∷ fs) below free up =
    go (nat_lt w.number f.number) refl (λ h. put_rises f.number w fs h (apart_first f fs w.number free).1 (rises_rest low f fs up))
  where
    go : (b : Bool) → nat_lt w.number f.number ≡ b → (f.number < w.number → IsTrue (rises_from f.number (put_waiting w fs))) → IsTrue (rises_from low (if b then w ∷ f ∷ fs else f ∷ put_waiting w fs))
    go true is more = rises_join low w (f ∷ fs) below (rises_join w.number f fs (ltb-true w.number f.number is) (rises_rest low f fs up))
    go false is more =
        let least = ltb-false w.number f.number is in
        let apart = (apart_first f fs w.number free).0 in
        rises_join low f (put_waiting w fs) (rises_first low f fs up) (more (omega (arith, least, apart)))

-- ---- a release

longer : (log : List Entry) (e : Entry) → length (log ++ e ∷ []) ≡ length log + 1
longer log e = length-append log (e ∷ [])

-- the log is longer at its end alone
pub released_log : (log : List Entry) (ws : List Waiting) → Extends log (release log ws).log
released_log log [] = ([], sym (append-nil log))
released_log log (f ∷ fs) = go (nat_eq f.number (length log + 1)) (released_log (log ++ f.entry ∷ []) fs)
  where
    go : (b : Bool) → Extends (log ++ f.entry ∷ []) (release (log ++ f.entry ∷ []) fs).log → Extends log (if b then release (log ++ f.entry ∷ []) fs else record { log = log; pending = f ∷ fs }).log
    go true more = (f.entry ∷ more.0, more.1 ∙ append_assoc log (f.entry ∷ []) more.0)
    go false more = ([], sym (append-nil log))

-- no entry is lost
pub released_count : (log : List Entry) (ws : List Waiting) → length (release log ws).log + length (release log ws).pending ≡ length log + length ws
released_count log [] = refl
released_count log (f ∷ fs) = go (nat_eq f.number (length log + 1)) (released_count (log ++ f.entry ∷ []) fs)
  where
    go : (b : Bool) → length (release (log ++ f.entry ∷ []) fs).log + length (release (log ++ f.entry ∷ []) fs).pending ≡ length (log ++ f.entry ∷ []) + length fs
        → length (if b then release (log ++ f.entry ∷ []) fs else record { log = log; pending = f ∷ fs }).log + length (if b then release (log ++ f.entry ∷ []) fs else record { log = log; pending = f ∷ fs }).pending ≡ length log + length (f ∷ fs)
    go true more = let one = longer log f.entry in omega arith
    go false more = refl

-- the numbers of those that are left rise from the one next to the log's end
pub released_rises : (log : List Entry) (ws : List Waiting) → IsTrue (rises_from (length log) ws) → IsTrue (rises_from (length (release log ws).log + 1) (release log ws).pending)
released_rises log [] up = refl
released_rises log (f ∷ fs) up = go (nat_eq f.number (length log + 1)) refl (λ is. released_rises (log ++ f.entry ∷ []) fs (moved is))
  where
    moved : nat_eq f.number (length log + 1) ≡ true → IsTrue (rises_from (length (log ++ f.entry ∷ [])) fs)
    moved is = subst (λ (n : ℕ). IsTrue (rises_from n fs)) (eqb-true f.number (length log + 1) is ∙ sym (longer log f.entry)) (rises_rest (length log) f fs up)

    go : (b : Bool) → nat_eq f.number (length log + 1) ≡ b
        → (nat_eq f.number (length log + 1) ≡ true → IsTrue (rises_from (length (release (log ++ f.entry ∷ []) fs).log + 1) (release (log ++ f.entry ∷ []) fs).pending))
        → IsTrue (rises_from (length (if b then release (log ++ f.entry ∷ []) fs else record { log = log; pending = f ∷ fs }).log + 1) (if b then release (log ++ f.entry ∷ []) fs else record { log = log; pending = f ∷ fs }).pending)
    go true is more = more is
    go false is more =
        let apart = eqb-false f.number (length log + 1) is in
        let first = rises_first (length log) f fs up in
        rises_join (length log + 1) f fs (omega (arith, first, apart)) (rises_rest (length log) f fs up)
