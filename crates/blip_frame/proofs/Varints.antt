-- Varints read and written.
use Rattle.std.proofs.Common.{◌≡◌, ℕ, zero, suc, ◌+◌, ◌-◌, ◌*◌, ◌/◌, ◌%◌, ◌^◌, ◌<◌, ◌≤◌, cond, ltb, List, [], ◌∷◌, ◌++◌, length, get_or, drop, All, Result, Ok, Err, refl, sym, ap, subst, ◌∙◌, append_assoc, add-one, arith, inl, inr, Bor}
use Rattle.std.proofs.lemmas.Bool.{cases_lt, le-ltb, lt-ltb}
use Rattle.std.proofs.lemmas.Nat.{pow-add}
use Rattle.std.proofs.Math.Pow.{pow_mono}
use Rattle.std.proofs.Math.Nat.{mul-le-mul_left, mul-le-mul_right}
use Rattle.std.proofs.lemmas.List.{drop_all, drop_at, get_or-drop}
use Rattle.std.proofs.Math.Seq.{drop-cons}
use Rattle.std.proofs.lemmas.List.Elements.{All-nil, All-cons, All-head, All-tail}
use Rattle.std.specs.Prelude.{◌↔◌, MatchResult, IfOk, IsOkAnd}
use Rattle.blip_frame.specs.declared.varint.VarintFault.{VarintFault}
use Rattle.blip_frame.specs.declared.varint.VarintFault.TheVariants.{Short, BadVarint}
use Rattle.blip_frame.specs.Varint.{IsVarint, IsRead, IsShortest, EndsInside, with_low, varint_at, fitting, number_at, varint_within, varint}

-- what was read before the bytes, and what is read from them
abbrev pub scaled : ℕ → ℕ → Result (ℕ × List ℕ) VarintFault → Result (ℕ × List ℕ) VarintFault
scaled value scale (Ok x) = Ok (value + scale * x.0, x.1)
scaled value scale (Err fault) = Err fault

scaled_once : (read : Result (ℕ × List ℕ) VarintFault) → scaled 0 1 read ≡ read
scaled_once (Ok x) = ap (λ (n : ℕ). Ok (n, x.1)) (omega arith)
scaled_once (Err fault) = refl

scaled_low : (value scale low : ℕ) (read : Result (ℕ × List ℕ) VarintFault) → scaled value scale (with_low low read) ≡ scaled (value + low * scale) (scale * 128) read
scaled_low value scale low (Ok x) = ap (λ (n : ℕ). Ok (n, x.1)) (omega arith)
scaled_low value scale low (Err fault) = refl

pub begins : (bytes : List ℕ) → scaled 0 1 (varint_at 10 (drop 0 bytes)) ≡ varint_at 10 bytes
begins bytes = scaled_once (varint_at 10 bytes)

-- ---- a turn of the reading loop

scale_fits : (scale i : ℕ) → scale ≡ 2 ^ (7 * i) → i ≤ 8 → scale ≤ 72057594037927936
scale_fits scale i e h = let p : 7 * i ≤ 56 = omega arith in let m : 2 ^ (7 * i) ≤ 2 ^ 56 = pow_mono p in omega (arith, e, m)

scale_last : (scale i : ℕ) → scale ≡ 2 ^ (7 * i) → i ≡ 9 → scale ≡ 9223372036854775808
scale_last scale i e h = e ∙ ap (λ (k : ℕ). 2 ^ (7 * k)) h

pub scale_next : (scale i : ℕ) → scale ≡ 2 ^ (7 * i) → scale * 128 ≡ 2 ^ (7 * (i + 1))
scale_next scale i e =
    let sum : 7 * (i + 1) ≡ 7 * i + 7 = omega arith in
    ap (λ (s : ℕ). s * 128) e ∙ sym (ap (λ (k : ℕ). 2 ^ k) sum ∙ pow-add 2 (7 * i) 7)

pub value_next : (value scale low : ℕ) → value < scale → low < 128 → value + low * scale < scale * 128
value_next value scale low h l = let l' : low ≤ 127 = omega arith in let n : low * scale ≤ 127 * scale = mul-le-mul_right scale l' in omega (arith, n)

pub value_fits : (value scale i low : ℕ) → i ≤ 9 → scale ≡ 2 ^ (7 * i) → value < scale → low < 128 → (i ≡ 9 → low ≤ 1) → value + low * scale < 2 ^ 64
value_fits value scale i low within e h l last =
    elim (cases_lt i 9) [
      | inl lt ↦
          let s = scale_fits scale i e (omega arith) in
          let n : low * scale ≤ 127 * scale = mul-le-mul_right scale (omega arith) in
          omega (arith, n, s)
      | inr le ↦
          let s = scale_last scale i e (omega arith) in
          let o : low ≤ 1 = last (omega arith) in
          let n : low * scale ≤ 1 * scale = mul-le-mul_right scale o in
          omega (arith, n, s)
    ]

module _ (value scale i : ℕ) (bytes : List ℕ) (so_far : scaled value scale (varint_at (10 - i) (drop i bytes)) ≡ varint_at 10 bytes) where
  at_place : i < length bytes → drop i bytes ≡ get_or bytes i 0 ∷ drop (i + 1) bytes
  at_place lt = rw add-one (drop-cons bytes i 0 lt)

  here : i ≤ 9 → i < length bytes → varint_at 10 bytes ≡ scaled value scale (cond (ltb (get_or bytes i 0) 128) (Ok (get_or bytes i 0, drop (i + 1) bytes)) (with_low (get_or bytes i 0 - 128) (varint_at (10 - (i + 1)) (drop (i + 1) bytes))))
  unfolding varint_at
  here within lt =
      let k : 10 - i ≡ suc (10 - (i + 1)) = omega arith in
      sym so_far ∙ ap (λ (bs : List ℕ). scaled value scale (varint_at (10 - i) bs)) (at_place lt)
      ∙ ap (λ (n : ℕ). scaled value scale (varint_at n (get_or bytes i 0 ∷ drop (i + 1) bytes))) k

  pub ended : i ≤ 9 → length bytes ≤ i → number_at bytes ≡ Err Short
  unfolding number_at varint_at
  ended within le =
      let k : 10 - i ≡ suc (9 - i) = omega arith in
      let nothing : drop i bytes ≡ [] = drop_all i bytes le in
      ap fitting (sym so_far ∙ ap (λ (bs : List ℕ). scaled value scale (varint_at (10 - i) bs)) nothing ∙ ap (λ (n : ℕ). scaled value scale (varint_at n [])) k)

  pub last : (low : ℕ) → i ≤ 9 → i < length bytes → get_or bytes i 0 < 128 → low ≡ get_or bytes i 0 → value + low * scale < 2 ^ 64 → number_at bytes ≡ Ok (value + low * scale, drop (i + 1) bytes)
  unfolding number_at
  last low within lt small e fits =
      let is : varint_at 10 bytes ≡ Ok (value + scale * get_or bytes i 0, drop (i + 1) bytes) = here within lt ∙ rw (lt-ltb (get_or bytes i 0) 128 small) refl in
      let sum : value + scale * get_or bytes i 0 ≡ value + low * scale = rw (← e) (omega arith) in
      ap fitting (is ∙ ap (λ (n : ℕ). Ok (n, drop (i + 1) bytes)) sum) ∙ rw (lt-ltb (value + low * scale) (2 ^ 64) fits) refl

  pub goes_on : (low : ℕ) → i ≤ 9 → i < length bytes → 128 ≤ get_or bytes i 0 → low ≡ get_or bytes i 0 - 128 → scaled (value + low * scale) (scale * 128) (varint_at (10 - (i + 1)) (drop (i + 1) bytes)) ≡ varint_at 10 bytes
  goes_on low within lt large e =
      let is : varint_at 10 bytes ≡ scaled value scale (with_low (get_or bytes i 0 - 128) (varint_at (10 - (i + 1)) (drop (i + 1) bytes))) = here within lt ∙ rw (le-ltb (get_or bytes i 0) 128 large) refl in
      sym (is ∙ ap (λ (l : ℕ). scaled value scale (with_low l (varint_at (10 - (i + 1)) (drop (i + 1) bytes)))) (sym e) ∙ scaled_low value scale low (varint_at (10 - (i + 1)) (drop (i + 1) bytes)))

  pub too_many : i ≡ 9 → i < length bytes → 1 < get_or bytes i 0 → scale ≡ 2 ^ (7 * i) → number_at bytes ≡ Err BadVarint
  unfolding number_at varint_at
  too_many ninth lt above e =
      let s = scale_last scale i e ninth in
      let k : 10 - (i + 1) ≡ 0 = omega arith in
      elim (cases_lt (get_or bytes i 0) 128) [
        | inl small ↦
            let is : varint_at 10 bytes ≡ Ok (value + scale * get_or bytes i 0, drop (i + 1) bytes) = here (omega arith) lt ∙ rw (lt-ltb (get_or bytes i 0) 128 small) refl in
            let n : scale * 2 ≤ scale * get_or bytes i 0 = mul-le-mul_left scale above in
            ap fitting is ∙ rw (le-ltb (value + scale * get_or bytes i 0) (2 ^ 64) (omega (arith, n, s))) refl
        | inr large ↦
            let is : varint_at 10 bytes ≡ scaled value scale (with_low (get_or bytes i 0 - 128) (varint_at (10 - (i + 1)) (drop (i + 1) bytes))) = here (omega arith) lt ∙ rw (le-ltb (get_or bytes i 0) 128 large) refl in
            ap fitting (is ∙ ap (λ (m : ℕ). scaled value scale (with_low (get_or bytes i 0 - 128) (varint_at m (drop (i + 1) bytes)))) k)
      ]

-- ---- what is read is a varint, and each varint is read

abbrev pub IsBytes : List ℕ → Type 0
IsBytes bytes = (i : ℕ) → get_or bytes i 0 < 256

IsBytes-rest : (b : ℕ) (bytes : List ℕ) → IsBytes (b ∷ bytes) → IsBytes bytes
IsBytes-rest b bytes h i = h (suc i)

IsBytes-head : (b : ℕ) (bytes : List ℕ) → IsBytes (b ∷ bytes) → b < 256
IsBytes-head b bytes h = h 0

pub IsBytes-drop : (n : ℕ) (bytes : List ℕ) → IsBytes bytes → IsBytes (drop n bytes)
IsBytes-drop n bytes h i = rw get_or-drop (h (n + i))

pub IsBytes-after : (front rest bytes : List ℕ) → bytes ≡ front ++ rest → IsBytes bytes → IsBytes rest
IsBytes-after front rest bytes e h = subst IsBytes (ap (drop (length front)) e ∙ drop_at front rest (length front) refl) (IsBytes-drop (length front) bytes h)

-- a number's bytes at the front of others
pub record Begins (most : ℕ) (bytes : List ℕ) (n : ℕ) (rest : List ℕ) : Type 0 where
  pub front : List ℕ
  pub varint : IsVarint front n
  pub size : length front ≤ most
  pub parts : bytes ≡ front ++ rest

abbrev done : ℕ × List ℕ → Result (ℕ × List ℕ) VarintFault
done x = Ok x

one_byte : (b : ℕ) (bytes : List ℕ) (k n : ℕ) (rest : List ℕ) → b < 128 → done (b, bytes) ≡ done (n, rest) → Begins (suc k) (b ∷ bytes) n rest
one_byte b bytes k n rest lt e =
    let p : ◌≡◌ {A = ℕ × List ℕ} (b, bytes) (n, rest) = cc in
    subst (λ (x : ℕ × List ℕ). Begins (suc k) (b ∷ bytes) x.0 x.1) p (record { front = b ∷ []; varint = (lt, refl); size = omega arith; parts = refl })

more_bytes : (b : ℕ) (k high : ℕ) (bytes rest : List ℕ) → 128 ≤ b → b < 256 → Begins k bytes high rest → Begins (suc k) (b ∷ bytes) (b - 128 + 128 * high) rest
more_bytes b k high bytes rest large below begun = longer begun.front begun.varint begun.size begun.parts where
  longer : (front : List ℕ) → IsVarint front high → length front ≤ k → bytes ≡ front ++ rest → Begins (suc k) (b ∷ bytes) (b - 128 + 128 * high) rest
  longer [] v s p = absurd v
  longer (c ∷ front) v s p = record { front = b ∷ c ∷ front; varint = (large, below, high, omega arith, v); size = omega arith; parts = ap (λ (x : List ℕ). b ∷ x) p }

low_ok : (low n : ℕ) (rest : List ℕ) (read : Result (ℕ × List ℕ) VarintFault) → with_low low read ≡ Ok (n, rest) → (high : ℕ) × (read ≡ Ok (high, rest)) × (low + 128 * high ≡ n)
low_ok low n rest (Ok x) e =
    let p : (low + 128 * x.0, x.1) ≡ (n, rest) = cc in
    (x.0, ap (λ (r : List ℕ). done (x.0, r)) (ap (λ (y : ℕ × List ℕ). y.1) p), ap (λ (y : ℕ × List ℕ). y.0) p)
low_ok low n rest (Err fault) e = absurd cc

varint_taken : (k : ℕ) (bytes : List ℕ) (n : ℕ) (rest : List ℕ) → IsBytes bytes → varint_at k bytes ≡ Ok (n, rest) → Begins k bytes n rest
unfolding varint_at
varint_taken zero bytes n rest fits e = absurd cc
varint_taken (suc k) [] n rest fits e = absurd cc
varint_taken (suc k) (b ∷ bs) n rest fits e =
    elim (cases_lt b 128) [
      | inl lt ↦ one_byte b bs k n rest lt (rw (lt-ltb b 128 lt) at e)
      | inr le ↦
          let more = low_ok (b - 128) n rest (varint_at k bs) (rw (le-ltb b 128 le) at e) in
          subst (λ (m : ℕ). Begins (suc k) (b ∷ bs) m rest) more.2 (more_bytes b k more.0 bs rest le (IsBytes-head b bs fits) (varint_taken k bs more.0 rest (IsBytes-rest b bs fits) more.1))
    ]

pub varint_again : (k : ℕ) (front : List ℕ) (n : ℕ) (rest : List ℕ) → IsVarint front n → length front ≤ k → varint_at k (front ++ rest) ≡ Ok (n, rest)
unfolding varint_at
varint_again k [] n rest v s = absurd v
varint_again zero (b ∷ bs) n rest v s = absurd (omega arith)
varint_again (suc k) (b ∷ []) n rest v s = rw (lt-ltb b 128 v.0) (ap (λ (m : ℕ). done (m, rest)) (sym v.1))
varint_again (suc k) (b ∷ c ∷ bs) n rest v s =
    let inner = varint_again k (c ∷ bs) v.2 rest v.4 (omega arith) in
    let sum : b - 128 + 128 * v.2 ≡ n = omega (arith, v.3, v.0) in
    rw (le-ltb b 128 v.0) (rw inner (ap (λ (m : ℕ). done (m, rest)) sum))

-- a varint that fits 64 bits is read, and nothing else
pub number_taken : (bytes : List ℕ) (n : ℕ) (rest : List ℕ) → IsBytes bytes → number_at bytes ≡ Ok (n, rest) → (front : List ℕ) × IsRead front n × (bytes ≡ front ++ rest)
unfolding number_at
number_taken bytes n rest fits e =
    let f = fitting_ok (varint_at 10 bytes) n rest e in
    let b = varint_taken 10 bytes n rest fits f.0 in
    (b.front, record { varint = b.varint; size = b.size; below = f.1 }, b.parts)
  where
    fitting_ok : (read : Result (ℕ × List ℕ) VarintFault) (n : ℕ) (rest : List ℕ) → fitting read ≡ Ok (n, rest) → (read ≡ Ok (n, rest)) × (n < 2 ^ 64)
    fitting_ok (Ok x) n rest e =
        elim (cases_lt x.0 (2 ^ 64)) [
          | inl lt ↦
              let is : done x ≡ done (n, rest) = rw (lt-ltb x.0 (2 ^ 64) lt) at e in
              let p : ◌≡◌ {A = ℕ × List ℕ} x (n, rest) = cc in
              (is, subst (λ (y : ℕ × List ℕ). y.0 < 2 ^ 64) p lt)
          | inr le ↦ let no : ◌≡◌ {A = Result (ℕ × List ℕ) VarintFault} (Err BadVarint) (Ok (n, rest)) = rw (le-ltb x.0 (2 ^ 64) le) at e in absurd cc
        ]
    fitting_ok (Err fault) n rest e = absurd cc

pub number_again : (front : List ℕ) (n : ℕ) (rest : List ℕ) → IsRead front n → number_at (front ++ rest) ≡ Ok (n, rest)
unfolding number_at
number_again front n rest r = ap fitting (varint_again 10 front n rest r.varint r.size) ∙ rw (lt-ltb n (2 ^ 64) r.below) refl

-- ---- the bytes that end inside a varint

low_short : (low : ℕ) (read : Result (ℕ × List ℕ) VarintFault) → with_low low read ≡ Err Short → read ≡ Err Short
low_short low (Ok x) e = absurd cc
low_short low (Err fault) e = e

short_taken : (k : ℕ) (bytes : List ℕ) → varint_at k bytes ≡ Err Short → All (λ b. 128 ≤ b) bytes × (length bytes < k)
unfolding varint_at
short_taken zero bytes e = absurd cc
short_taken (suc k) [] e = (All-nil (λ b. 128 ≤ b), omega arith)
short_taken (suc k) (b ∷ bs) e =
    elim (cases_lt b 128) [
      | inl lt ↦ let no : done (b, bs) ≡ Err Short = rw (lt-ltb b 128 lt) at e in absurd cc
      | inr le ↦
          let more = short_taken k bs (low_short (b - 128) (varint_at k bs) (rw (le-ltb b 128 le) at e)) in
          (All-cons (λ b. 128 ≤ b) b bs le more.0, omega (arith, more.1))
    ]

short_again : (k : ℕ) (bytes : List ℕ) → All (λ b. 128 ≤ b) bytes → length bytes < k → varint_at k bytes ≡ Err Short
unfolding varint_at
short_again zero bytes high lt = absurd (omega arith)
short_again (suc k) [] high lt = refl
short_again (suc k) (b ∷ bs) high lt =
    rw (le-ltb b 128 (All-head (λ b. 128 ≤ b) b bs high))
    (ap (with_low (b - 128)) (short_again k bs (All-tail (λ b. 128 ≤ b) b bs high) (omega arith)))

pub number_short : (bytes : List ℕ) → number_at bytes ≡ Err Short → EndsInside bytes
unfolding number_at
number_short bytes e = short_taken 10 bytes (fitting_short (varint_at 10 bytes) e) where
  fitting_short : (read : Result (ℕ × List ℕ) VarintFault) → fitting read ≡ Err Short → read ≡ Err Short
  fitting_short (Ok x) e =
      elim (cases_lt x.0 (2 ^ 64)) [
        | inl lt ↦ let no : done x ≡ Err Short = rw (lt-ltb x.0 (2 ^ 64) lt) at e in absurd cc
        | inr le ↦ let no : ◌≡◌ {A = Result (ℕ × List ℕ) VarintFault} (Err BadVarint) (Err Short) = rw (le-ltb x.0 (2 ^ 64) le) at e in absurd cc
      ]
  fitting_short (Err fault) e = e

pub number_ends : (bytes : List ℕ) → EndsInside bytes → number_at bytes ≡ Err Short
unfolding number_at
number_ends bytes h = ap fitting (short_again 10 bytes h.0 h.1)

-- ---- the same of what a call answers

-- the call's answer is the reading
abbrev pub Reads : Result (ℕ × Bor (List ℕ)) VarintFault → List ℕ → Type 0
Reads r bytes = MatchResult r (λ x. number_at bytes ≡ Ok (x.0, x.1.now)) (λ fault. number_at bytes ≡ Err fault)

pub answer_found : (r : Result (ℕ × Bor (List ℕ)) VarintFault) (bytes : List ℕ) → IsBytes bytes → Reads r bytes → IfOk r (λ x. (front : List ℕ) × IsRead front x.0 × (bytes ≡ front ++ x.1.now))
answer_found (Ok x) bytes fits e = number_taken bytes x.0 x.1.now fits e
answer_found (Err fault) bytes fits e = tt

pub answer_only : (r : Result (ℕ × Bor (List ℕ)) VarintFault) (front rest : List ℕ) (n : ℕ) → Reads r (front ++ rest) → IsRead front n → IsOkAnd r (λ x. (x.0 ≡ n) × (x.1.now ≡ rest))
answer_only (Ok x) front rest n e is =
    let p : ◌≡◌ {A = ℕ × List ℕ} (x.0, x.1.now) (n, rest) = let q : done (x.0, x.1.now) ≡ done (n, rest) = sym e ∙ number_again front n rest is in cc in
    (ap (λ (y : ℕ × List ℕ). y.0) p, ap (λ (y : ℕ × List ℕ). y.1) p)
answer_only (Err fault) front rest n e is = let q : ◌≡◌ {A = Result (ℕ × List ℕ) VarintFault} (Err fault) (Ok (n, rest)) = sym e ∙ number_again front n rest is in absurd cc

pub answer_short : (r : Result (ℕ × Bor (List ℕ)) VarintFault) (bytes : List ℕ) → Reads r bytes → ((r ≡ Err Short) ↔ EndsInside bytes)
answer_short (Ok x) bytes e = (λ h. absurd cc, λ h. let q : done (x.0, x.1.now) ≡ Err Short = sym e ∙ number_ends bytes h in absurd cc)
answer_short (Err fault) bytes e = (λ h. number_short bytes (e ∙ ap (λ (f : VarintFault). Err f) (fault_is fault Short h)), λ h. ap (λ (f : VarintFault). Err f) (same_fault fault Short (sym e ∙ number_ends bytes h))) where
  fault_is : (f g : VarintFault) → ◌≡◌ {A = Result (ℕ × Bor (List ℕ)) VarintFault} (Err f) (Err g) → f ≡ g
  fault_is f g h = cc

  same_fault : (f g : VarintFault) → ◌≡◌ {A = Result (ℕ × List ℕ) VarintFault} (Err f) (Err g) → f ≡ g
  same_fault f g h = cc

-- ---- a turn of the writing loop

pub writes_more : (k rest : ℕ) (out mid whole : List ℕ) → 128 ≤ rest → rest < 2 ^ (7 * (k + 1)) → mid ≡ out ++ (rest % 128 + 128) ∷ [] → out ++ varint_within k rest ≡ whole
    → (j : ℕ) × (j + 1 ≡ k) × (rest / 128 < 2 ^ (7 * (j + 1))) × (mid ++ varint_within j (rest / 128) ≡ whole)
unfolding varint_within
writes_more zero rest out mid whole large below added so_far = absurd (omega arith)
writes_more (suc k) rest out mid whole large below added so_far =
    let scale : 2 ^ (7 * (k + 1)) * 128 ≡ 2 ^ (7 * (k + 1 + 1)) = scale_next (2 ^ (7 * (k + 1))) (k + 1) refl in
    let same : suc k + 1 ≡ k + 1 + 1 = omega arith in
    let below' : rest < 2 ^ (7 * (k + 1 + 1)) = subst (λ (n : ℕ). rest < 2 ^ (7 * n)) same below in
    let is : varint_within (suc k) rest ≡ (rest % 128 + 128) ∷ varint_within k (rest / 128) = rw (le-ltb rest 128 large) refl in (
      k,
      omega arith,
      omega (arith, scale, below'),
      ap (λ (x : List ℕ). x ++ varint_within k (rest / 128)) added
          ∙ append_assoc out ((rest % 128 + 128) ∷ []) (varint_within k (rest / 128))
          ∙ ap (λ (x : List ℕ). out ++ x) (sym is) ∙ so_far,
    )

pub writes_last : (k rest : ℕ) → rest < 128 → varint_within k rest ≡ rest ∷ []
unfolding varint_within
writes_last zero rest lt = refl
writes_last (suc k) rest lt = rw (lt-ltb rest 128 lt) refl

pub writes_all : (n : ℕ) → varint n ≡ varint_within 9 n
unfolding varint
writes_all n = refl

-- ---- the shortest form

-- the bytes of one that has no needless byte
abbrev IsTight : List ℕ → ℕ → Type 0
IsTight [] n = ⊥
IsTight (b ∷ []) n = (b < 128) × (n ≡ b)
IsTight (b ∷ c ∷ bs) n = (128 ≤ b) × (b < 256) × (high : ℕ) × (0 < high) × (n + 128 ≡ b + 128 * high) × IsTight (c ∷ bs) high

tight_varint : (bytes : List ℕ) (n : ℕ) → IsTight bytes n → IsVarint bytes n
tight_varint [] n t = absurd t
tight_varint (b ∷ []) n t = t
tight_varint (b ∷ c ∷ bs) n t = (t.0, t.1, t.2, t.4, tight_varint (c ∷ bs) t.2 t.5)

tight_least : (bytes : List ℕ) (n : ℕ) → IsTight bytes n → (other : List ℕ) → IsVarint other n → length bytes ≤ length other
tight_least [] n t other v = absurd t
tight_least (b ∷ bs) n t [] v = absurd v
tight_least (b ∷ []) n t (d ∷ ds) v = omega arith
tight_least (b ∷ c ∷ bs) n t (d ∷ []) v = absurd (omega (arith, t.0, t.1, t.3, t.4, v.0, v.1))
tight_least (b ∷ c ∷ bs) n t (d ∷ e ∷ ds) v =
    let same : v.2 ≡ t.2 = omega (arith, t.0, t.1, t.4, v.0, v.1, v.3) in
    let inner = tight_least (c ∷ bs) t.2 t.5 (e ∷ ds) (subst (λ (h : ℕ). IsVarint (e ∷ ds) h) same v.4) in
    omega (arith, inner)

-- a byte before a tight form of a number that is not 0
tight_more : (b n : ℕ) (bytes : List ℕ) (high : ℕ) → 128 ≤ b → b < 256 → 0 < high → n + 128 ≡ b + 128 * high → IsTight bytes high → IsTight (b ∷ bytes) n
tight_more b n [] high p q r e t = absurd t
tight_more b n (c ∷ bs) high p q r e t = (p, q, high, r, e, t)

tight_within : (k n : ℕ) → n < 2 ^ (7 * (k + 1)) → IsTight (varint_within k n) n
unfolding varint_within
tight_within zero n lt = (lt, refl)
tight_within (suc k) n lt =
    elim (cases_lt n 128) [
      | inl small ↦ rw (lt-ltb n 128 small) (small, refl)
      | inr large ↦
          let scale : 2 ^ (7 * (k + 1)) * 128 ≡ 2 ^ (7 * (k + 1 + 1)) = scale_next (2 ^ (7 * (k + 1))) (k + 1) refl in
          let same : suc k + 1 ≡ k + 1 + 1 = omega arith in
          let lt' : n < 2 ^ (7 * (k + 1 + 1)) = subst (λ (m : ℕ). n < 2 ^ (7 * m)) same lt in
          rw (le-ltb n 128 large) (tight_more (n % 128 + 128) n (varint_within k (n / 128)) (n / 128) (omega arith) (omega arith) (omega arith) (omega arith) (tight_within k (n / 128) (omega (arith, scale, lt'))))
    ]

tight : (n : ℕ) → n < 2 ^ 64 → IsTight (varint n) n
unfolding varint
tight n lt = tight_within 9 n (omega arith)

pub varint_shortest : (n : ℕ) → n < 2 ^ 64 → IsShortest (varint n) n
varint_shortest n lt = record { varint = tight_varint (varint n) n (tight n lt); least = tight_least (varint n) n (tight n lt) }

-- varints of one number with as many bytes are one
same_size : (xs ys : List ℕ) (n : ℕ) → IsVarint xs n → IsVarint ys n → length xs ≡ length ys → xs ≡ ys
same_size [] ys n v w e = absurd v
same_size (x ∷ xs) [] n v w e = absurd w
same_size (x ∷ []) (y ∷ []) n v w e = ap (λ (b : ℕ). b ∷ []) (sym v.1 ∙ w.1)
same_size (x ∷ []) (y ∷ z ∷ ys) n v w e = absurd (omega arith)
same_size (x ∷ z ∷ xs) (y ∷ []) n v w e = absurd (omega arith)
same_size (x ∷ a ∷ xs) (y ∷ b ∷ ys) n v w e =
    let head : x ≡ y = omega (arith, v.0, v.1, v.3, w.0, w.1, w.3) in
    let high : w.2 ≡ v.2 = omega (arith, v.0, v.1, v.3, w.0, w.1, w.3) in
    let tail = same_size (a ∷ xs) (b ∷ ys) v.2 v.4 (subst (λ (h : ℕ). IsVarint (b ∷ ys) h) high w.4) (omega arith) in
    cc

pub shortest_one : (xs : List ℕ) (n : ℕ) → n < 2 ^ 64 → IsShortest xs n → xs ≡ varint n
shortest_one xs n lt s =
    let t = varint_shortest n lt in
    let a = s.least (varint n) t.varint in
    let b = t.least xs s.varint in
    same_size xs (varint n) n s.varint t.varint (omega (arith, a, b))

size_within : (k n : ℕ) → length (varint_within k n) ≤ k + 1
unfolding varint_within
size_within zero n = omega arith
size_within (suc k) n =
    elim (cases_lt n 128) [
      | inl small ↦ rw (lt-ltb n 128 small) (omega arith)
      | inr large ↦ rw (le-ltb n 128 large) (omega (arith, size_within k (n / 128)))
    ]

-- what is written is read
pub varint_read : (n : ℕ) → n < 2 ^ 64 → IsRead (varint n) n
unfolding varint
varint_read n lt = record { varint = (varint_shortest n lt).varint; size = size_within 9 n; below = lt }

-- ---- no varint begins another

pub numbers_apart : (a b x y : List ℕ) (m n : ℕ) → IsRead a m → IsRead b n → a ++ x ≡ b ++ y → (m ≡ n) × (x ≡ y)
numbers_apart a b x y m n p q e =
    let same : done (m, x) ≡ done (n, y) = sym (number_again a m x p) ∙ ap number_at e ∙ number_again b n y q in
    let r : ◌≡◌ {A = ℕ × List ℕ} (m, x) (n, y) = cc in
    (ap (λ (w : ℕ × List ℕ). w.0) r, ap (λ (w : ℕ × List ℕ). w.1) r)
