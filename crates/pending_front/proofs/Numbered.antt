-- what a map of waiting entries says of them by rising numbers, as entries come and go
use Rattle.std.proofs.Common.{◌≡◌, ◌≢◌, ◌⊎◌, inl, inr, ℕ, ◌+◌, ◌<◌, ◌≤◌, Bool, true, false, cond, List, [], ◌∷◌, length, Option, Some, None, refl, sym, ap, subst, ◌∙◌, arith}
use Rattle.std.specs.Prelude.{nat_eq, IsTrue, IsPermutation, Result, Ok, Err, IsOk, OnOk, IfOk, IfSome, IfNone, MatchOption}
use Rattle.std.specs.List.{sum_by}
use Rattle.std.specs.Map.{lookup, remove_entry, set_value}
use Rattle.std.proofs.lemmas.Bool.{cases_eq, cases_lt, eq-eqb, ne_eqb}
use Rattle.std.proofs.lemmas.List.Sums.{sum_by-cons}
use Rattle.std.proofs.lemmas.List.Sorted.{sum_by-IsPermutation}
use Rattle.std.proofs.lemmas.Option.{none-some, same_Some}
use Rattle.sg_history.specs.declared.book.Waiting.{Waiting}
use Rattle.sg_history.specs.declared.entries.Entry.{Entry}
use Rattle.sg_history.specs.Book.{waiting_at}
use Rattle.sg_history.specs.World.{put_waiting, rises_from}
use Rattle.pending_front.specs.ByNumber.{rising}
use Rattle.pending_front.proofs.Putting.{one, times, one_same, put_times, put_length, rises_rest, rises_join, rises_first, at_first, at_other, rises_free, none_times, times_none, rises_times, put_rises, put_other, put_here}

abbrev pub Held : Type 0
Held = List (ℕ × Entry)

abbrev pub waiting_of : ℕ × Entry → Waiting
waiting_of h = record { number = h.0; entry = h.1 }

-- how often a number stands in a map
abbrev pub held_times : ℕ → Held → ℕ
held_times n hs = sum_by (λ x. cond (nat_eq x.0 n) 1 0) hs

held_cons : (n : ℕ) (h : ℕ × Entry) (hs : Held) → held_times n (h ∷ hs) ≡ one h.0 n + held_times n hs
held_cons n h hs = sum_by-cons (λ (x : ℕ × Entry). cond (nat_eq x.0 n) 1 0) h hs

rising_times : (n : ℕ) (hs : Held) → times n (rising hs) ≡ held_times n hs
rising_times n [] = refl
rising_times n (h ∷ hs) =
    let rest = rising_times n hs in
    let put = put_times n (waiting_of h) (rising hs) in
    let both = held_cons n h hs in
    omega arith

pub rising_length : (hs : Held) → length (rising hs) ≡ length hs
rising_length [] = refl
rising_length (h ∷ hs) =
    let rest = rising_length hs in let put = put_length (waiting_of h) (rising hs) in omega arith

-- each number stands at most once
abbrev AreApart : Held → Type 0
AreApart hs = (n : ℕ) → held_times n hs ≤ 1

apart_rest : (h : ℕ × Entry) (hs : Held) → AreApart (h ∷ hs) → AreApart hs
apart_rest h hs apart n = let both = apart n in let first = held_cons n h hs in omega arith

free_rest : (h : ℕ × Entry) (hs : Held) → AreApart (h ∷ hs) → waiting_at (rising hs) h.0 ≡ None
free_rest h hs apart =
    let both = apart h.0 in
    let first = held_cons h.0 h hs in
    let same = one_same h.0 h.0 refl in
    let rest = rising_times h.0 hs in
    times_none h.0 (rising hs) (omega arith)

-- numbers that stand once each, none of them 0, rise
apart_rises : (hs : Held) → AreApart hs → held_times 0 hs ≡ 0 → IsTrue (rises_from 0 (rising hs))
apart_rises [] apart none = refl
apart_rises (h ∷ hs) apart none =
    let first = held_cons 0 h hs in
    let ne : h.0 ≢ 0 = λ e. let same = one_same h.0 0 e in absurd (omega arith) in
    put_rises 0 (waiting_of h) (rising hs) (omega (arith, ne)) (free_rest h hs apart) (apart_rises hs (apart_rest h hs apart) (omega arith))

rises_apart : (hs : Held) → IsTrue (rises_from 0 (rising hs)) → AreApart hs
rises_apart hs up n = let once = rises_times 0 n (rising hs) up in let same = rising_times n hs in omega arith

none_of_zero : (hs : Held) → IsTrue (rises_from 0 (rising hs)) → held_times 0 hs ≡ 0
none_of_zero hs up =
    let none = none_times 0 (rising hs) (rises_free 0 (rising hs) 0 up (omega arith)) in
    let all = rising_times 0 hs in
    omega arith

-- what waits under a number is what the map has there
apart_waits : (n : ℕ) (hs : Held) → AreApart hs → waiting_at (rising hs) n ≡ lookup (nat_eq n) hs
apart_waits n [] apart = refl
apart_waits n (h ∷ hs) apart = go (cases_eq h.0 n) (apart_waits n hs (apart_rest h hs apart))
  where
    go : (h.0 ≡ n) ⊎ (h.0 ≢ n) → waiting_at (rising hs) n ≡ lookup (nat_eq n) hs → waiting_at (rising (h ∷ hs)) n ≡ lookup (nat_eq n) (h ∷ hs)
    go (inl e) rest =
        ap (λ (k : ℕ). waiting_at (put_waiting (waiting_of h) (rising hs)) k) (sym e)
        ∙ put_here (waiting_of h) (rising hs) (free_rest h hs apart)
        ∙ sym (ap (λ (b : Bool). cond b (Some h.1) (lookup (nat_eq n) hs)) (eq-eqb n h.0 (sym e)))
    go (inr ne) rest =
        put_other (waiting_of h) (rising hs) n ne ∙ rest ∙ sym (ap (λ (b : Bool). cond b (Some h.1) (lookup (nat_eq n) hs)) (ne_eqb n h.0 (λ e. ne (sym e))))

pub held_waits : (n : ℕ) (hs : Held) → IsTrue (rises_from 0 (rising hs)) → waiting_at (rising hs) n ≡ lookup (nat_eq n) hs
held_waits n hs up = apart_waits n hs (rises_apart hs up)

-- entries by rising numbers are known by what waits under each number
same_rising : (low : ℕ) (xs ys : List Waiting) → IsTrue (rises_from low xs) → IsTrue (rises_from low ys) → ((n : ℕ) → waiting_at xs n ≡ waiting_at ys n) → xs ≡ ys
same_rising low [] [] up also same = refl
same_rising low [] (y ∷ ys) up also same = absurd (none-some _ (same y.number ∙ at_first y ys y.number refl))
same_rising low (x ∷ xs) [] up also same = absurd (none-some _ (sym (same x.number) ∙ at_first x xs x.number refl))
same_rising low (x ∷ xs) (y ∷ ys) up also same =
    let rest = same_rising x.number xs ys (rises_rest low x xs up) (subst (λ (n : ℕ). IsTrue (rises_from n ys)) (sym number) (rises_rest low y ys also)) others in
    λ i. first i ∷ rest i
  where
    no_less : (a b : Waiting) (rest bs : List Waiting) → IsTrue (rises_from low (b ∷ bs)) → waiting_at (b ∷ bs) a.number ≡ waiting_at (a ∷ rest) a.number → b.number ≤ a.number
    no_less a b rest bs up there = pick (cases_lt a.number b.number)
      where
        pick : (a.number < b.number) ⊎ (b.number ≤ a.number) → b.number ≤ a.number
        pick (inl below) = absurd (none-some _ (sym (rises_free a.number (b ∷ bs) a.number (rises_join a.number b bs below (rises_rest low b bs up)) (omega arith)) ∙ there ∙ at_first a rest a.number refl))
        pick (inr least) = least

    number : x.number ≡ y.number
    number =
        let high = no_less x y xs ys also (sym (same x.number)) in
        let least = no_less y x ys xs up (same y.number) in
        omega arith

    entry : x.entry ≡ y.entry
    entry =
        same_Some x.entry y.entry (sym (at_first x xs x.number refl) ∙ same x.number ∙ at_first y ys x.number (sym number))

    first : x ≡ y
    first = λ i. record { number = number i; entry = entry i }

    others : (n : ℕ) → waiting_at xs n ≡ waiting_at ys n
    others n = pick (cases_eq x.number n)
      where
        pick : (x.number ≡ n) ⊎ (x.number ≢ n) → waiting_at xs n ≡ waiting_at ys n
        pick (inl e) =
            rises_free x.number xs n (rises_rest low x xs up) (omega (arith, e))
            ∙ sym (rises_free y.number ys n (rises_rest low y ys also) (omega (arith, e, number)))
        pick (inr ne) = sym (at_other x xs n ne) ∙ same n ∙ at_other y ys n (λ e. ne (number ∙ e))

-- entries in another order of the map are the same by rising numbers
module _ (xs ys : Held) (moved : IsPermutation xs ys) (found : (n : ℕ) → lookup (nat_eq n) ys ≡ lookup (nat_eq n) xs) (up : IsTrue (rises_from 0 (rising xs))) where
  as_often : (n : ℕ) → held_times n ys ≡ held_times n xs
  as_often n = sum_by-IsPermutation (λ (x : ℕ × Entry). cond (nat_eq x.0 n) 1 0) xs ys moved

  pub same_rises : IsTrue (rises_from 0 (rising ys))
  same_rises =
      apart_rises ys (λ n. let once = rises_apart xs up n in let same = as_often n in omega arith) (as_often 0 ∙ none_of_zero xs up)

  pub same_waits : rising ys ≡ rising xs
  same_waits =
      same_rising 0 (rising ys) (rising xs) same_rises up (λ n. held_waits n ys same_rises ∙ found n ∙ sym (held_waits n xs up))

-- an entry that is put
module _ (n : ℕ) (e : Entry) (old new : Held) (moved : IsPermutation ((n, e) ∷ old) new) (found : (q : ℕ) → lookup (nat_eq q) new ≡ cond (nat_eq n q) (Some e) (lookup (nat_eq q) old))
    (up : IsTrue (rises_from 0 (rising old))) (from : 1 ≤ n) (free : waiting_at (rising old) n ≡ None) where
  turned : (q : ℕ) → nat_eq n q ≡ nat_eq q n
  turned q = go (cases_eq n q)
    where
      go : (n ≡ q) ⊎ (n ≢ q) → nat_eq n q ≡ nat_eq q n
      go (inl is) = eq-eqb n q is ∙ sym (eq-eqb q n (sym is))
      go (inr ne) = ne_eqb n q ne ∙ sym (ne_eqb q n (λ is. ne (sym is)))

  found_more : (q : ℕ) → lookup (nat_eq q) new ≡ lookup (nat_eq q) ((n, e) ∷ old)
  found_more q = found q ∙ ap (λ (b : Bool). cond b (Some e) (lookup (nat_eq q) old)) (turned q)

  more_rises : IsTrue (rises_from 0 (rising ((n, e) ∷ old)))
  more_rises = put_rises 0 (waiting_of (n, e)) (rising old) (omega arith) free up

  pub put_in_rises : IsTrue (rises_from 0 (rising new))
  put_in_rises = same_rises ((n, e) ∷ old) new moved found_more more_rises

  pub put_in : rising new ≡ put_waiting (waiting_of (n, e)) (rising old)
  put_in = same_waits ((n, e) ∷ old) new moved found_more more_rises

-- without a number none stands more often
fewer_times : (n m : ℕ) (hs : Held) → held_times m (remove_entry (nat_eq n) hs) ≤ held_times m hs
fewer_times n m [] = omega arith
fewer_times n m (h ∷ hs) = go (nat_eq n h.0) (fewer_times n m hs)
  where
    go : (b : Bool) → held_times m (remove_entry (nat_eq n) hs) ≤ held_times m hs → held_times m (cond b hs (h ∷ remove_entry (nat_eq n) hs)) ≤ held_times m (h ∷ hs)
    go true less = let first = held_cons m h hs in omega arith
    go false less =
        let first = held_cons m h hs in let rest = held_cons m h (remove_entry (nat_eq n) hs) in omega arith

-- numbers rise from one at which, and below which, nothing waits
rises_above : (n low : ℕ) (ws : List Waiting) → IsTrue (rises_from low ws) → ((m : ℕ) → low < m → m ≤ n → waiting_at ws m ≡ None) → IsTrue (rises_from n ws)
rises_above n low [] up none = refl
rises_above n low (f ∷ fs) up none = go (cases_lt n f.number)
  where
    go : (n < f.number) ⊎ (f.number ≤ n) → IsTrue (rises_from n (f ∷ fs))
    go (inl past) = rises_join n f fs past (rises_rest low f fs up)
    go (inr least) =
        absurd (none-some _ (sym (none f.number (rises_first low f fs up) least) ∙ at_first f fs f.number refl))

-- an entry that is taken
module _ (n : ℕ) (old new : Held) (moved : IsPermutation (remove_entry (nat_eq n) old) new) (found : (q : ℕ) → lookup (nat_eq q) new ≡ cond (nat_eq n q) None (lookup (nat_eq q) old))
    (up : IsTrue (rises_from 0 (rising old))) where
  less_often : (m : ℕ) → held_times m new ≤ held_times m old
  less_often m =
      let same = sum_by-IsPermutation (λ (x : ℕ × Entry). cond (nat_eq x.0 m) 1 0) (remove_entry (nat_eq n) old) new moved in
      let less = fewer_times n m old in
      omega arith

  pub taken_rises : IsTrue (rises_from 0 (rising new))
  taken_rises =
      let zero = none_of_zero old up in
      let less = less_often 0 in
      apart_rises new (λ m. let once = rises_apart old up m in let under = less_often m in omega arith) (omega arith)

  left_other : (m : ℕ) → n ≢ m → waiting_at (rising new) m ≡ waiting_at (rising old) m
  left_other m ne =
      held_waits m new taken_rises ∙ found m ∙ ap (λ (b : Bool). cond b None (lookup (nat_eq m) old)) (ne_eqb n m ne) ∙ sym (held_waits m old up)

  left_here : waiting_at (rising new) n ≡ None
  left_here =
      held_waits n new taken_rises ∙ found n ∙ ap (λ (b : Bool). cond b None (lookup (nat_eq n) old)) (eq-eqb n n refl)

  pub taken : (e : Entry) → lookup (nat_eq n) old ≡ Some e → ((m : ℕ) → 1 ≤ m → m < n → waiting_at (rising old) m ≡ None) → rising old ≡ waiting_of (n, e) ∷ rising new
  taken e there lowest =
      same_rising 0 (rising old) (waiting_of (n, e) ∷ rising new) up (rises_join 0 (waiting_of (n, e)) (rising new) positive (rises_above n 0 (rising new) taken_rises none)) same
    where
      here : waiting_at (rising old) n ≡ Some e
      here = held_waits n old up ∙ there

      positive : 0 < n
      positive = go (cases_lt 0 n)
        where
          go : (0 < n) ⊎ (n ≤ 0) → 0 < n
          go (inl more) = more
          go (inr low) = absurd (none-some _ (sym (rises_free 0 (rising old) n up low) ∙ here))

      none : (m : ℕ) → 0 < m → m ≤ n → waiting_at (rising new) m ≡ None
      none m from low = go (cases_eq n m)
        where
          go : (n ≡ m) ⊎ (n ≢ m) → waiting_at (rising new) m ≡ None
          go (inl is) = subst (λ (k : ℕ). waiting_at (rising new) k ≡ None) is left_here
          go (inr ne) = left_other m ne ∙ lowest m (omega arith) (omega (arith, low, ne))

      same : (m : ℕ) → waiting_at (rising old) m ≡ waiting_at (waiting_of (n, e) ∷ rising new) m
      same m = go (cases_eq n m)
        where
          go : (n ≡ m) ⊎ (n ≢ m) → waiting_at (rising old) m ≡ waiting_at (waiting_of (n, e) ∷ rising new) m
          go (inl is) =
              subst (λ (k : ℕ). waiting_at (rising old) k ≡ Some e) is here ∙ sym (at_first (waiting_of (n, e)) (rising new) m is)
          go (inr ne) = sym (left_other m ne) ∙ sym (at_other (waiting_of (n, e)) (rising new) m ne)

-- what is said of an entry that is taken, if there is one
module _ (n : ℕ) (old new : Held) (moved : IsPermutation (remove_entry (nat_eq n) old) new) (found : (q : ℕ) → lookup (nat_eq q) new ≡ cond (nat_eq n q) None (lookup (nat_eq q) old))
    (up : IsTrue (rises_from 0 (rising old))) (lowest : (m : ℕ) → 1 ≤ m → m < n → waiting_at (rising old) m ≡ None) where
  pub taken_some : (r : Option Entry) → r ≡ lookup (nat_eq n) old → IfSome r (λ e. rising old ≡ waiting_of (n, e) ∷ rising new)
  taken_some None is = tt
  taken_some (Some e) is = taken n old new moved found up e (sym is) lowest

  pub taken_none : (r : Option Entry) → r ≡ lookup (nat_eq n) old → IfNone r (waiting_at (rising old) n ≡ None)
  taken_none None is = held_waits n old up ∙ sym is
  taken_none (Some e) is = tt

-- what is said of an entry that is put where there was a place
pub put_moved : {E : Type 0} (r : Result (Option Entry) E) (n : ℕ) (e : Entry) (old new : Held) → IsOk r → IfOk r (λ o. o ≡ lookup (nat_eq n) old) → IfOk r (λ o. MatchOption o (IsPermutation ((n, e) ∷ old) new) (λ _. new ≡ set_value (nat_eq n) old e))
    → IsTrue (rises_from 0 (rising old)) → waiting_at (rising old) n ≡ None → IsPermutation ((n, e) ∷ old) new
put_moved (Ok o) n e old new ok was moved up free =
    let none : o ≡ None = was ∙ sym (held_waits n old up) ∙ free in
    subst (λ (x : Option Entry). MatchOption x (IsPermutation ((n, e) ∷ old) new) (λ _. new ≡ set_value (nat_eq n) old e)) none moved
put_moved (Err x) n e old new ok was moved up free = absurd cc

pub ok_gives : {A E P : Type 0} (r : Result A E) → IsOk r → OnOk r P → P
ok_gives (Ok x) is p = p
ok_gives (Err e) is p = absurd cc
