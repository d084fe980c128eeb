-- The bytes of varints.
use Rattle.std.proofs.Common.{ℕ, zero, suc, ◌+◌, ◌/◌, ◌%◌, ◌≤◌, Bool, true, false, cond, ltb, List, [], ◌∷◌, length, arith}
use Rattle.blip_frame.specs.Frame.{largest_written}
use Rattle.blip_frame.specs.Varint.{varint, varint_within}

-- a varint has few bytes
varint_within_few : (k n : ℕ) → length (varint_within k n) ≤ k + 1
unfolding varint_within
varint_within_few zero n = omega arith
varint_within_few (suc k) n = short (ltb n 128) (varint_within k (n / 128)) (varint_within_few k (n / 128)) where
  short : (b : Bool) (rest : List ℕ) → length rest ≤ k + 1 → length (cond b (n ∷ []) ((n % 128 + 128) ∷ rest)) ≤ suc k + 1
  short true rest h = omega arith
  short false rest h = omega arith

pub varint_fits : (n : ℕ) → length (varint n) ≤ largest_written
unfolding varint
varint_fits n = omega (arith, varint_within_few 9 n)
