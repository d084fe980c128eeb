-- The table of the checksum against its bits.
use Rattle.std.proofs.Common.{◌≡◌, ℕ, zero, suc, ◌+◌, ◌*◌, ◌/◌, ◌%◌, ◌^◌, ◌<◌, List, [], ◌∷◌, ◌++◌, map, get_or, refl, sym, ap, ◌∙◌, arith, length, take, drop, add-one, ◌≤◌}
use Rattle.std.specs.Int.Bits.{bit_xor, bit_and, xor_assoc, xor_shr, xor_mod, xor_zero_r, xor_self, xor_shifted}
use Rattle.std.specs.List.{flat_map, range_with_len, AllByRecursion}
use Rattle.std.specs.Int.{w64, from_le_bytes}
use Rattle.std.proofs.lemmas.Nat.{xor_comm, xor_lt, and_mask}
use Rattle.std.proofs.lemmas.List.Concat.{flat_map-append, flat_map-cons}
use Rattle.std.proofs.lemmas.List.FromFn.{get_or-map-range_with_len}
use Rattle.std.proofs.lemmas.List.{drop_all, take-append-drop}
use Rattle.std.proofs.Math.Seq.{drop-cons}
use Rattle.blip_frame.specs.Checksum.{polynomial, all_ones, after_bit, after_bits, byte_bits, checksum_after, checksum}
use Rattle.blip_frame.specs.declared.tables.TheConstants.{TABLE_1, TABLE_2, TABLE_3, TABLE_4, TABLE_5, TABLE_6, TABLE_7, TABLE_8}

-- the register after a bit of 0
abbrev step : ℕ → ℕ
step x = bit_xor (x / 2) (polynomial * (x % 2))

-- the register after so many bits of 0
unfoldable steps : ℕ → ℕ → ℕ
steps zero x = x
steps (suc k) x = steps k (step x)

-- ---- exclusive or

swap_last : (a b c : ℕ) → bit_xor (bit_xor a b) c ≡ bit_xor (bit_xor a c) b
swap_last a b c = xor_assoc a b c ∙ ap (bit_xor a) (xor_comm b c) ∙ sym (xor_assoc a c b)

swap_middle : (a b c d : ℕ) → bit_xor (bit_xor a b) (bit_xor c d) ≡ bit_xor (bit_xor a c) (bit_xor b d)
swap_middle a b c d = sym (xor_assoc (bit_xor a b) c d) ∙ ap (λ (x : ℕ). bit_xor x d) (swap_last a b c) ∙ xor_assoc (bit_xor a c) b d

pub xor_twice : (a b : ℕ) → bit_xor a (bit_xor a b) ≡ b
xor_twice a b = sym (xor_assoc a a b) ∙ ap (λ (x : ℕ). bit_xor x b) (xor_self a)

digits_xor : (i j : ℕ) → i < 2 → j < 2 → bit_xor i j ≡ (i + j) % 2
digits_xor zero zero p q = refl
digits_xor zero (suc zero) p q = refl
digits_xor (suc zero) zero p q = refl
digits_xor (suc zero) (suc zero) p q = refl
digits_xor (suc (suc i)) j p q = absurd (omega arith)
digits_xor zero (suc (suc j)) p q = absurd (omega arith)
digits_xor (suc zero) (suc (suc j)) p q = absurd (omega arith)

times_digits : (i j : ℕ) → i < 2 → j < 2 → polynomial * ((i + j) % 2) ≡ bit_xor (polynomial * i) (polynomial * j)
times_digits zero zero p q = refl
times_digits zero (suc zero) p q = refl
times_digits (suc zero) zero p q = refl
times_digits (suc zero) (suc zero) p q = refl
times_digits (suc (suc i)) j p q = absurd (omega arith)
times_digits zero (suc (suc j)) p q = absurd (omega arith)
times_digits (suc zero) (suc (suc j)) p q = absurd (omega arith)

xor_half : (a b : ℕ) → bit_xor a b / 2 ≡ bit_xor (a / 2) (b / 2)
xor_half a b = xor_shr a b 1

xor_odd : (a b : ℕ) → bit_xor a b % 2 ≡ (a % 2 + b % 2) % 2
xor_odd a b = xor_mod a b 1 ∙ digits_xor (a % 2) (b % 2) (omega arith) (omega arith)

-- ---- the register

-- a bit of 0 goes through two registers as through one
step_xor : (a b : ℕ) → step (bit_xor a b) ≡ bit_xor (step a) (step b)
step_xor a b =
    let odd : polynomial * (bit_xor a b % 2) ≡ bit_xor (polynomial * (a % 2)) (polynomial * (b % 2)) = ap (λ (d : ℕ). polynomial * d) (xor_odd a b) ∙ times_digits (a % 2) (b % 2) (omega arith) (omega arith) in
    ap (λ (x : ℕ). bit_xor x (polynomial * (bit_xor a b % 2))) (xor_half a b)
    ∙ ap (bit_xor (bit_xor (a / 2) (b / 2))) odd
    ∙ swap_middle (a / 2) (b / 2) (polynomial * (a % 2)) (polynomial * (b % 2))

-- a byte in the register before the bits of 0 is its lowest bit now and the rest of it later
step_byte : (r b : ℕ) → step (bit_xor r b) ≡ bit_xor (after_bit r (b % 2)) (b / 2)
step_byte r b =
    let odd : bit_xor r b % 2 ≡ (r + b % 2) % 2 = xor_odd r b ∙ omega arith in
    ap (λ (x : ℕ). bit_xor x (polynomial * (bit_xor r b % 2))) (xor_half r b)
    ∙ ap (λ (d : ℕ). bit_xor (bit_xor (r / 2) (b / 2)) (polynomial * d)) odd
    ∙ swap_last (r / 2) (b / 2) (polynomial * ((r + b % 2) % 2))

-- the lowest bits of a number, and what is left of it
unfoldable low_bits : ℕ → ℕ → List ℕ
low_bits zero b = []
low_bits (suc k) b = b % 2 ∷ low_bits k (b / 2)

unfoldable halved : ℕ → ℕ → ℕ
halved zero b = b
halved (suc k) b = halved k (b / 2)

unfoldable doubled : ℕ → ℕ → ℕ
doubled zero h = h
doubled (suc k) h = 2 * doubled k h

steps_byte : (k r b : ℕ) → steps k (bit_xor r b) ≡ bit_xor (after_bits r (low_bits k b)) (halved k b)
unfolding steps low_bits halved after_bits
steps_byte zero r b = refl
steps_byte (suc k) r b = ap (steps k) (step_byte r b) ∙ steps_byte k (after_bit r (b % 2)) (b / 2)

steps_xor : (k a b : ℕ) → steps k (bit_xor a b) ≡ bit_xor (steps k a) (steps k b)
unfolding steps
steps_xor zero a b = refl
steps_xor (suc k) a b = ap (steps k) (step_xor a b) ∙ steps_xor k (step a) (step b)

step_double : (h : ℕ) → step (2 * h) ≡ h
step_double h =
    let half : 2 * h / 2 ≡ h = omega arith in
    let even : 2 * h % 2 ≡ 0 = omega arith in
    rw (half, even) (xor_zero_r h)

-- what is above the bits that go through comes down
steps_high : (k h l : ℕ) → steps k (bit_xor (doubled k h) l) ≡ bit_xor h (steps k l)
unfolding steps doubled
steps_high zero h l = refl
steps_high (suc k) h l = ap (steps k) (step_xor (2 * doubled k h) l ∙ ap (λ (x : ℕ). bit_xor x (step l)) (step_double (doubled k h))) ∙ steps_high k h (step l)

eight_doubled : (h : ℕ) → doubled 8 h ≡ h * 2 ^ 8
unfolding doubled
eight_doubled h = omega arith

eight_halved : (b : ℕ) → b < 256 → halved 8 b ≡ 0
unfolding halved
eight_halved b h = omega arith

eight : {a0 a1 a2 a3 a4 a5 a6 a7 b0 b1 b2 b3 b4 b5 b6 b7 : ℕ} → a0 ≡ b0 → a1 ≡ b1 → a2 ≡ b2 → a3 ≡ b3 → a4 ≡ b4 → a5 ≡ b5 → a6 ≡ b6 → a7 ≡ b7
    → (a0 ∷ a1 ∷ a2 ∷ a3 ∷ a4 ∷ a5 ∷ a6 ∷ a7 ∷ []) ≡ (b0 ∷ b1 ∷ b2 ∷ b3 ∷ b4 ∷ b5 ∷ b6 ∷ b7 ∷ [])
eight e0 e1 e2 e3 e4 e5 e6 e7 = cc

eight_bits : (b : ℕ) → byte_bits b ≡ low_bits 8 b
unfolding low_bits
eight_bits b = eight (omega arith) (omega arith) (omega arith) (omega arith) (omega arith) (omega arith) (omega arith) (omega arith)

-- a byte's bits go in as the byte does, before eight bits of 0
after_byte_is : (r b : ℕ) → b < 256 → after_bits r (byte_bits b) ≡ steps 8 (bit_xor r b)
after_byte_is r b h =
    ap (after_bits r) (eight_bits b)
    ∙ sym (xor_zero_r (after_bits r (low_bits 8 b)))
    ∙ ap (bit_xor (after_bits r (low_bits 8 b))) (sym (eight_halved b h))
    ∙ sym (steps_byte 8 r b)

steps_split : (x : ℕ) → steps 8 x ≡ bit_xor (x / 256) (steps 8 (x % 256))
steps_split x =
    let parts : x ≡ bit_xor (doubled 8 (x / 256)) (x % 256) =
    rw (eight_doubled (x / 256)) (rw (xor_shifted (x / 256) 8 (x % 256) (omega arith)) (omega arith)) in
    ap (steps 8) parts ∙ steps_high 8 (x / 256) (x % 256)

-- so many bytes of 0 take the register on
unfoldable on_by : ℕ → ℕ → ℕ
on_by zero x = x
on_by (suc n) x = on_by n (steps 8 x)

-- what a table has
abbrev IsTable : ℕ → List ℕ → Type 0
IsTable n table = (i : ℕ) → i < 256 → get_or table i 0 ≡ on_by n i

is_table : (n : ℕ) (table : List ℕ) → table ≡ map (on_by n) (range_with_len 0 256) → IsTable n table
is_table n table is i h = ap (λ (t : List ℕ). get_or t i 0) is ∙ get_or-map-range_with_len (on_by n) 0 256 i i 0 h (omega arith)

is_table_1 : IsTable 1 TABLE_1
unfolding on_by steps
is_table_1 = is_table 1 TABLE_1 refl

is_table_2 : IsTable 2 TABLE_2
unfolding on_by steps
is_table_2 = is_table 2 TABLE_2 refl

is_table_3 : IsTable 3 TABLE_3
unfolding on_by steps
is_table_3 = is_table 3 TABLE_3 refl

is_table_4 : IsTable 4 TABLE_4
unfolding on_by steps
is_table_4 = is_table 4 TABLE_4 refl

is_table_5 : IsTable 5 TABLE_5
unfolding on_by steps
is_table_5 = is_table 5 TABLE_5 refl

is_table_6 : IsTable 6 TABLE_6
unfolding on_by steps
is_table_6 = is_table 6 TABLE_6 refl

is_table_7 : IsTable 7 TABLE_7
unfolding on_by steps
is_table_7 = is_table 7 TABLE_7 refl

is_table_8 : IsTable 8 TABLE_8
unfolding on_by steps
is_table_8 = is_table 8 TABLE_8 refl

table_at : (i : ℕ) → i < 256 → get_or TABLE_1 i 0 ≡ steps 8 i
unfolding on_by
table_at i h = is_table_1 i h

-- one look into the table takes a byte in
pub by_table : (r b : ℕ) → b < 256 → bit_xor (get_or TABLE_1 (bit_and (bit_xor r b) 255) 0) (bit_xor r b / 256) ≡ after_bits r (byte_bits b)
by_table r b h =
    let x = bit_xor r b in
    let low : bit_and x 255 ≡ x % 256 = and_mask x 8 in
    ap (λ (i : ℕ). bit_xor (get_or TABLE_1 i 0) (x / 256)) low
    ∙ ap (λ (t : ℕ). bit_xor t (x / 256)) (table_at (x % 256) (omega arith))
    ∙ xor_comm (steps 8 (x % 256)) (x / 256)
    ∙ sym (steps_split x)
    ∙ sym (after_byte_is r b h)

-- ---- many bytes

pub after_bits-append : (r : ℕ) (xs ys : List ℕ) → after_bits r (xs ++ ys) ≡ after_bits (after_bits r xs) ys
unfolding after_bits
after_bits-append r [] ys = refl
after_bits-append r (x ∷ xs) ys = after_bits-append (after_bit r x) xs ys

-- what follows other bytes continues their checksum
pub checksum_after-append : (value : ℕ) (xs ys : List ℕ) → checksum_after (checksum_after value xs) ys ≡ checksum_after value (xs ++ ys)
unfolding checksum_after
checksum_after-append value xs ys =
    let start = bit_xor all_ones value in
    ap (bit_xor all_ones)
    (ap (λ (r : ℕ). after_bits r (flat_map byte_bits ys)) (xor_twice all_ones (after_bits start (flat_map byte_bits xs)))
    ∙ sym (after_bits-append start (flat_map byte_bits xs) (flat_map byte_bits ys))
    ∙ ap (after_bits start) (sym (flat_map-append byte_bits xs ys)))

pub goes_on : (value : ℕ) (xs ys : List ℕ) → checksum_after (checksum_after value xs) ys ≡ checksum_after value (xs ++ ys)
goes_on = checksum_after-append

pub checksum_after-nil : (value : ℕ) → checksum_after value [] ≡ value
unfolding checksum_after after_bits
checksum_after-nil value = xor_twice all_ones value

pub checksum_after-zero : (xs : List ℕ) → checksum_after 0 xs ≡ checksum xs
unfolding checksum_after checksum
checksum_after-zero xs = refl

pub checksum_after-checksum : (xs ys : List ℕ) → checksum_after (checksum xs) ys ≡ checksum (xs ++ ys)
checksum_after-checksum xs ys = ap (λ (v : ℕ). checksum_after v ys) (sym (checksum_after-zero xs)) ∙ checksum_after-append 0 xs ys ∙ checksum_after-zero (xs ++ ys)

-- ---- bytes at a time

-- bytes as a number, the lowest first
abbrev pub lowest_first : List ℕ → ℕ
lowest_first [] = 0
lowest_first (b ∷ bs) = b + 256 * lowest_first bs

on_by_xor : (n a b : ℕ) → on_by n (bit_xor a b) ≡ bit_xor (on_by n a) (on_by n b)
unfolding on_by
on_by_xor zero a b = refl
on_by_xor (suc n) a b = ap (on_by n) (steps_xor 8 a b) ∙ on_by_xor n (steps 8 a) (steps 8 b)

-- a byte that goes in before others has them above it
one_below : (r b h : ℕ) → b < 256 → bit_xor (steps 8 (bit_xor r b)) h ≡ steps 8 (bit_xor r (b + 256 * h))
one_below r b h small =
    let above : b + 256 * h ≡ bit_xor (doubled 8 h) b = rw (eight_doubled h) (rw (xor_shifted h 8 b small) (omega arith)) in
    xor_comm (steps 8 (bit_xor r b)) h
    ∙ sym (steps_high 8 h (bit_xor r b))
    ∙ ap (steps 8) (sym (xor_assoc (doubled 8 h) r b) ∙ ap (λ (x : ℕ). bit_xor x b) (xor_comm (doubled 8 h) r) ∙ xor_assoc r (doubled 8 h) b)
    ∙ ap (λ (x : ℕ). steps 8 (bit_xor r x)) (sym above)

-- bytes go in as their number does, before as many bytes of 0
bytes_in : (r : ℕ) (bs : List ℕ) → AllByRecursion (λ b. b < 256) bs → after_bits r (flat_map byte_bits bs) ≡ on_by (length bs) (bit_xor r (lowest_first bs))
unfolding on_by after_bits
bytes_in r [] small = sym (xor_zero_r r)
bytes_in r (b ∷ bs) small =
    ap (after_bits r) (flat_map-cons byte_bits b bs)
    ∙ after_bits-append r (byte_bits b) (flat_map byte_bits bs)
    ∙ ap (λ (x : ℕ). after_bits x (flat_map byte_bits bs)) (after_byte_is r b small.0)
    ∙ bytes_in (steps 8 (bit_xor r b)) bs small.1
    ∙ ap (on_by (length bs)) (one_below r b (lowest_first bs) small.0)

-- the lowest byte goes all the way, and what is above it one byte less
byte_out : (n x : ℕ) → on_by (suc n) x ≡ bit_xor (on_by n (x / 256)) (on_by (suc n) (x % 256))
unfolding on_by
byte_out n x = ap (on_by n) (steps_split x) ∙ on_by_xor n (x / 256) (steps 8 (x % 256))

-- eight looks into the tables take eight bytes in, which with the register are a number of eight bytes
eight_looks : (x : ℕ) → x < 2 ^ 64
    → bit_xor (bit_xor (bit_xor (bit_xor (bit_xor (bit_xor (bit_xor (on_by 1 (x / 256 ^ 7 % 256)) (on_by 2 (x / 256 ^ 6 % 256))) (on_by 3 (x / 256 ^ 5 % 256))) (on_by 4 (x / 256 ^ 4 % 256))) (on_by 5 (x / 256 ^ 3 % 256))) (on_by 6 (x / 256 ^ 2 % 256))) (on_by 7 (x / 256 ^ 1 % 256))) (on_by 8 (x % 256)) ≡ on_by 8 x
eight_looks x small =
    let q1 : x / 256 ^ 1 ≡ x / 256 = omega arith in
    let q2 : x / 256 ^ 2 ≡ x / 256 / 256 = omega arith in
    let q3 : x / 256 ^ 3 ≡ x / 256 / 256 / 256 = omega arith in
    let q4 : x / 256 ^ 4 ≡ x / 256 / 256 / 256 / 256 = omega arith in
    let q5 : x / 256 ^ 5 ≡ x / 256 / 256 / 256 / 256 / 256 = omega arith in
    let q6 : x / 256 ^ 6 ≡ x / 256 / 256 / 256 / 256 / 256 / 256 = omega arith in
    let q7 : x / 256 ^ 7 % 256 ≡ x / 256 / 256 / 256 / 256 / 256 / 256 / 256 = omega arith in
    let o7 = byte_out 1 (x / 256 / 256 / 256 / 256 / 256 / 256) in
    let o6 = byte_out 2 (x / 256 / 256 / 256 / 256 / 256) in
    let o5 = byte_out 3 (x / 256 / 256 / 256 / 256) in
    let o4 = byte_out 4 (x / 256 / 256 / 256) in
    let o3 = byte_out 5 (x / 256 / 256) in
    let o2 = byte_out 6 (x / 256) in
    let o1 = byte_out 7 x in
    cc

-- what is known of eight bytes: each is one, and their number is as the code reads it
record Eight (bs : List ℕ) : Type 0 where
  small : AllByRecursion (λ b. b < 256) bs
  number : from_le_bytes w64 bs ≡ lowest_first bs
  below : lowest_first bs < 2 ^ 64

eight_of : (bs : List ℕ) → length bs ≡ 8 → ((i : ℕ) → get_or bs i 0 < 256) → Eight bs
eight_of (b0 ∷ b1 ∷ b2 ∷ b3 ∷ b4 ∷ b5 ∷ b6 ∷ b7 ∷ []) e small =
    let s0 = small 0 in
    let s1 = small 1 in
    let s2 = small 2 in
    let s3 = small 3 in
    let s4 = small 4 in
    let s5 = small 5 in
    let s6 = small 6 in
    let s7 = small 7 in
    record {
      small = (s0, (s1, (s2, (s3, (s4, (s5, (s6, (s7, tt))))))));
      number = omega arith;
      below = omega arith;
    }
eight_of _ e small = absurd (omega arith)

-- eight looks take eight bytes in
pub eight_in : (r : ℕ) (bs : List ℕ) (x : ℕ) → r < 2 ^ 64 → length bs ≡ 8 → ((i : ℕ) → get_or bs i 0 < 256) → x ≡ bit_xor r (from_le_bytes w64 bs)
    → bit_xor (bit_xor (bit_xor (bit_xor (bit_xor (bit_xor (bit_xor (get_or TABLE_1 (x / 256 ^ 7 % 256) 0) (get_or TABLE_2 (x / 256 ^ 6 % 256) 0)) (get_or TABLE_3 (x / 256 ^ 5 % 256) 0)) (get_or TABLE_4 (x / 256 ^ 4 % 256) 0)) (get_or TABLE_5 (x / 256 ^ 3 % 256) 0)) (get_or TABLE_6 (x / 256 ^ 2 % 256) 0)) (get_or TABLE_7 (x / 256 ^ 1 % 256) 0)) (get_or TABLE_8 (x % 256) 0) ≡ after_bits r (flat_map byte_bits bs)
eight_in r bs x fits e small is =
    let eight = eight_of bs e small in
    let below : x < 2 ^ 64 = rw is (rw eight.number (xor_lt 64 r (lowest_first bs) fits eight.below)) in
    let t1 = is_table_1 (x / 256 ^ 7 % 256) (omega arith) in
    let t2 = is_table_2 (x / 256 ^ 6 % 256) (omega arith) in
    let t3 = is_table_3 (x / 256 ^ 5 % 256) (omega arith) in
    let t4 = is_table_4 (x / 256 ^ 4 % 256) (omega arith) in
    let t5 = is_table_5 (x / 256 ^ 3 % 256) (omega arith) in
    let t6 = is_table_6 (x / 256 ^ 2 % 256) (omega arith) in
    let t7 = is_table_7 (x / 256 ^ 1 % 256) (omega arith) in
    let t8 = is_table_8 (x % 256) (omega arith) in
    rw (t1, t2, t3, t4, t5, t6, t7, t8)
    (eight_looks x below ∙ ap (on_by 8) (is ∙ ap (bit_xor r) eight.number) ∙ ap (λ (n : ℕ). on_by n (bit_xor r (lowest_first bs))) (sym e) ∙ sym (bytes_in r bs eight.small))

-- bytes that are taken in bring the rest on
pub first_in : (r : ℕ) (bytes : List ℕ) (n : ℕ) (total : ℕ) → after_bits r (flat_map byte_bits bytes) ≡ total
    → after_bits (after_bits r (flat_map byte_bits (take n bytes))) (flat_map byte_bits (drop n bytes)) ≡ total
first_in r bytes n total so_far =
    sym (after_bits-append r (flat_map byte_bits (take n bytes)) (flat_map byte_bits (drop n bytes)))
    ∙ ap (after_bits r) (sym (flat_map-append byte_bits (take n bytes) (drop n bytes)) ∙ ap (flat_map byte_bits) (take-append-drop n bytes))
    ∙ so_far

-- ---- the loop over bytes

pub one_more : (r : ℕ) (bytes : List ℕ) (i byte : ℕ) (total : ℕ) → i < length bytes → get_or bytes i 0 ≡ byte
    → after_bits r (flat_map byte_bits (drop i bytes)) ≡ total → after_bits (after_bits r (byte_bits byte)) (flat_map byte_bits (drop (i + 1) bytes)) ≡ total
one_more r bytes i byte total lt e so_far =
    let parts : drop i bytes ≡ byte ∷ drop (i + 1) bytes = rw add-one (drop-cons bytes i 0 lt ∙ ap (λ (x : ℕ). x ∷ drop (suc i) bytes) e) in
    sym (after_bits-append r (byte_bits byte) (flat_map byte_bits (drop (i + 1) bytes)))
    ∙ ap (after_bits r) (sym (ap (flat_map byte_bits) parts ∙ flat_map-cons byte_bits byte (drop (i + 1) bytes)))
    ∙ so_far

pub none_left : (r : ℕ) (bytes : List ℕ) (i : ℕ) (total : ℕ) → length bytes ≤ i → after_bits r (flat_map byte_bits (drop i bytes)) ≡ total → r ≡ total
unfolding after_bits
none_left r bytes i total le so_far =
    let nothing : drop i bytes ≡ [] = drop_all i bytes le in
    sym (ap (λ (bs : List ℕ). after_bits r (flat_map byte_bits bs)) nothing) ∙ so_far

pub checksum-nil : checksum [] ≡ 0
unfolding checksum after_bits
checksum-nil = refl
