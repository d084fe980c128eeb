-- entries that wait by rising numbers, and one that is put among them
use Rattle.std.proofs.Common.{◌≡◌, ◌≢◌, ◌⊎◌, inl, inr, ℕ, ◌+◌, ◌<◌, ◌≤◌, Bool, true, false, cond, List, [], ◌∷◌, length, Option, Some, None, refl, sym, ap, ◌∙◌, arith}
use Rattle.std.specs.Prelude.{nat_eq, nat_lt, count_by, IsTrue, if◌then◌else◌}
use Rattle.std.proofs.lemmas.Bool.{ltb-true, ltb-false, lt-ltb, eqb-false, eq-eqb, ne_eqb, and_parts, and_from, cases_eq}
use Rattle.std.proofs.lemmas.List.Sums.{sum_by-cons}
use Rattle.std.proofs.lemmas.Option.{none-some}
use Rattle.sg_history.specs.declared.book.Waiting.{Waiting}
use Rattle.sg_history.specs.declared.entries.Entry.{Entry}
use Rattle.sg_history.specs.Book.{waiting_at}
use Rattle.sg_history.specs.World.{put_waiting, rises_from}

-- one where the numbers are the same
abbrev pub one : ℕ → ℕ → ℕ
one number n = cond (nat_eq number n) 1 0

-- how many entries wait under a number
abbrev pub times : ℕ → List Waiting → ℕ
times n ws = count_by (λ p. nat_eq p.number n) ws

pub one_same : (number n : ℕ) → number ≡ n → one number n ≡ 1
one_same number n e = ap (λ (b : Bool). cond b 1 0) (eq-eqb number n e)

pub one_other : (number n : ℕ) → number ≢ n → one number n ≡ 0
one_other number n ne = ap (λ (b : Bool). cond b 1 0) (ne_eqb number n ne)

pub times_cons : (n : ℕ) (w : Waiting) (ws : List Waiting) → times n (w ∷ ws) ≡ one w.number n + times n ws
times_cons n w ws = sum_by-cons (λ (p : Waiting). cond (nat_eq p.number n) 1 0) w ws

pub put_times : (n : ℕ) (w : Waiting) (ws : List Waiting) → times n (put_waiting w ws) ≡ one w.number n + times n ws
put_times n w [] = times_cons n w []
put_times n w (f ∷ fs) = go (nat_lt w.number f.number) (put_times n w fs)
  where
    go : (b : Bool) → times n (put_waiting w fs) ≡ one w.number n + times n fs → times n (if b then w ∷ f ∷ fs else f ∷ put_waiting w fs) ≡ one w.number n + times n (f ∷ fs)
    go true more = times_cons n w (f ∷ fs)
    go false more =
        let first = times_cons n f (put_waiting w fs) in
        let both = times_cons n f fs in
        omega arith

pub put_length : (w : Waiting) (ws : List Waiting) → length (put_waiting w ws) ≡ length ws + 1
put_length w [] = refl
put_length w (f ∷ fs) = go (nat_lt w.number f.number) (put_length w fs)
  where
    go : (b : Bool) → length (put_waiting w fs) ≡ length fs + 1 → length (if b then w ∷ f ∷ fs else f ∷ put_waiting w fs) ≡ length (f ∷ fs) + 1
    go true more = omega arith
    go false more = omega arith

-- the first of rising numbers, and the rest
pub rises_first : (low : ℕ) (f : Waiting) (fs : List Waiting) → IsTrue (rises_from low (f ∷ fs)) → low < f.number
rises_first low f fs up = ltb-true low f.number (and_parts (nat_lt low f.number) (rises_from f.number fs) up).0

pub rises_rest : (low : ℕ) (f : Waiting) (fs : List Waiting) → IsTrue (rises_from low (f ∷ fs)) → IsTrue (rises_from f.number fs)
rises_rest low f fs up = (and_parts (nat_lt low f.number) (rises_from f.number fs) up).1

pub rises_join : (low : ℕ) (f : Waiting) (fs : List Waiting) → low < f.number → IsTrue (rises_from f.number fs) → IsTrue (rises_from low (f ∷ fs))
rises_join low f fs below up = and_from (nat_lt low f.number) (rises_from f.number fs) (lt-ltb low f.number below) up

pub rises_lower : (low high : ℕ) (ws : List Waiting) → low ≤ high → IsTrue (rises_from high ws) → IsTrue (rises_from low ws)
rises_lower low high [] h up = refl
rises_lower low high (f ∷ fs) h up =
    let first = rises_first high f fs up in rises_join low f fs (omega arith) (rises_rest high f fs up)

-- what waits under a number, at the first entry and past it
pub at_first : (f : Waiting) (fs : List Waiting) (n : ℕ) → f.number ≡ n → waiting_at (f ∷ fs) n ≡ Some f.entry
at_first f fs n e = ap (λ (b : Bool). if b then Some f.entry else waiting_at fs n) (eq-eqb f.number n e)

pub at_other : (f : Waiting) (fs : List Waiting) (n : ℕ) → f.number ≢ n → waiting_at (f ∷ fs) n ≡ waiting_at fs n
at_other f fs n ne = ap (λ (b : Bool). if b then Some f.entry else waiting_at fs n) (ne_eqb f.number n ne)

pub apart_first : (f : Waiting) (fs : List Waiting) (n : ℕ) → waiting_at (f ∷ fs) n ≡ None → (f.number ≢ n) × (waiting_at fs n ≡ None)
apart_first f fs n free = go (nat_eq f.number n) refl free
  where
    go : (b : Bool) → nat_eq f.number n ≡ b → (if b then Some f.entry else waiting_at fs n) ≡ None → (f.number ≢ n) × (waiting_at fs n ≡ None)
    go true is h = absurd (none-some _ (sym h))
    go false is h = (eqb-false f.number n is, h)

-- nothing waits at a number or below it, where numbers rise from it
pub rises_free : (low : ℕ) (ws : List Waiting) (n : ℕ) → IsTrue (rises_from low ws) → n ≤ low → waiting_at ws n ≡ None
rises_free low [] n up h = refl
rises_free low (f ∷ fs) n up h =
    let first = rises_first low f fs up in
    at_other f fs n (λ e. absurd (omega arith)) ∙ rises_free f.number fs n (rises_rest low f fs up) (omega arith)

pub none_times : (n : ℕ) (ws : List Waiting) → waiting_at ws n ≡ None → times n ws ≡ 0
none_times n [] free = refl
none_times n (f ∷ fs) free =
    let apart = apart_first f fs n free in
    let first = times_cons n f fs in
    let other = one_other f.number n apart.0 in
    let rest = none_times n fs apart.1 in
    omega arith

pub times_none : (n : ℕ) (ws : List Waiting) → times n ws ≡ 0 → waiting_at ws n ≡ None
times_none n [] h = refl
times_none n (f ∷ fs) h = go (cases_eq f.number n) (λ g. times_none n fs g)
  where
    go : (f.number ≡ n) ⊎ (f.number ≢ n) → (times n fs ≡ 0 → waiting_at fs n ≡ None) → waiting_at (f ∷ fs) n ≡ None
    go (inl e) rest = let first = times_cons n f fs in let same = one_same f.number n e in absurd (omega arith)
    go (inr ne) rest =
        let first = times_cons n f fs in let other = one_other f.number n ne in at_other f fs n ne ∙ rest (omega arith)

-- where numbers rise, each stands at most once
pub rises_times : (low n : ℕ) (ws : List Waiting) → IsTrue (rises_from low ws) → times n ws ≤ 1
rises_times low n [] up = omega arith
rises_times low n (f ∷ fs) up = go (cases_eq f.number n) (rises_times f.number n fs (rises_rest low f fs up))
  where
    go : (f.number ≡ n) ⊎ (f.number ≢ n) → times n fs ≤ 1 → times n (f ∷ fs) ≤ 1
    go (inl e) rest =
        let none = none_times n fs (rises_free f.number fs n (rises_rest low f fs up) (omega arith)) in
        let first = times_cons n f fs in
        let same = one_same f.number n e in
        omega arith
    go (inr ne) rest = let first = times_cons n f fs in let other = one_other f.number n ne in omega arith

-- an entry that is put keeps the numbers rising, and waits under its own number alone
pub put_rises : (low : ℕ) (w : Waiting) (ws : List Waiting) → low < w.number → waiting_at ws w.number ≡ None → IsTrue (rises_from low ws) → IsTrue (rises_from low (put_waiting w ws))
put_rises low w [] below free up = rises_join low w [] below refl
put_rises low w (f ∷ fs) below free up =
    go (nat_lt w.number f.number) refl (λ h. put_rises f.number w fs h (apart_first f fs w.number free).1 (rises_rest low f fs up))
  where
    go : (b : Bool) → nat_lt w.number f.number ≡ b → (f.number < w.number → IsTrue (rises_from f.number (put_waiting w fs))) → IsTrue (rises_from low (if b then w ∷ f ∷ fs else f ∷ put_waiting w fs))
    go true is more = rises_join low w (f ∷ fs) below (rises_join w.number f fs (ltb-true w.number f.number is) (rises_rest low f fs up))
    go false is more =
        let least = ltb-false w.number f.number is in
        let apart = (apart_first f fs w.number free).0 in
        rises_join low f (put_waiting w fs) (rises_first low f fs up) (more (omega (arith, least, apart)))

pub put_other : (w : Waiting) (ws : List Waiting) (n : ℕ) → w.number ≢ n → waiting_at (put_waiting w ws) n ≡ waiting_at ws n
put_other w [] n ne = at_other w [] n ne
put_other w (f ∷ fs) n ne = go (nat_lt w.number f.number) (put_other w fs n ne)
  where
    go : (b : Bool) → waiting_at (put_waiting w fs) n ≡ waiting_at fs n → waiting_at (if b then w ∷ f ∷ fs else f ∷ put_waiting w fs) n ≡ waiting_at (f ∷ fs) n
    go true more = at_other w (f ∷ fs) n ne
    go false more = ap (λ (o : Option Entry). if nat_eq f.number n then Some f.entry else o) more

pub put_here : (w : Waiting) (ws : List Waiting) → waiting_at ws w.number ≡ None → waiting_at (put_waiting w ws) w.number ≡ Some w.entry
put_here w [] free = at_first w [] w.number refl
put_here w (f ∷ fs) free = go (nat_lt w.number f.number) (put_here w fs (apart_first f fs w.number free).1)
  where
    go : (b : Bool) → waiting_at (put_waiting w fs) w.number ≡ Some w.entry → waiting_at (if b then w ∷ f ∷ fs else f ∷ put_waiting w fs) w.number ≡ Some w.entry
    go true more = at_first w (f ∷ fs) w.number refl
    go false more = at_other f (put_waiting w fs) w.number (apart_first f fs w.number free).0 ∙ more
