-- The checksum of a direction: CRC-32 as IEEE 802.3 has it, reflected, given bit by bit over all bytes.
use Rattle.std.specs.Prelude.{ℕ, ◌+◌, ◌*◌, ◌/◌, ◌%◌, List, [], ◌∷◌, bit_xor}
use Rattle.std.specs.Int.{bit_at}
use Rattle.std.specs.List.{flat_map}

-- the polynomial, its bits in reverse
abbrev pub polynomial : ℕ
polynomial = 0xEDB88320

-- what the register is turned by, in the beginning and at the end
abbrev pub all_ones : ℕ
all_ones = 0xFFFFFFFF

-- The register after one bit: it moves one place to the right, and where the bit that falls out of it and the bit that comes are not the same, the polynomial is put in.
abbrev pub after_bit : ℕ → ℕ → ℕ
after_bit register bit = bit_xor (register / 2) (polynomial * ((register + bit) % 2))

-- the register after bits, one after another
unfoldable pub after_bits : ℕ → List ℕ → ℕ
after_bits register [] = register
after_bits register (bit ∷ bits) = after_bits (after_bit register bit) bits

-- the bits of a byte, the lowest first
abbrev pub byte_bits : ℕ → List ℕ
byte_bits byte = bit_at byte 0 ∷ bit_at byte 1 ∷ bit_at byte 2 ∷ bit_at byte 3 ∷ bit_at byte 4 ∷ bit_at byte 5 ∷ bit_at byte 6 ∷ bit_at byte 7 ∷ []

-- the checksum once these bytes have followed those that the value is the checksum of
unfoldable pub checksum_after : ℕ → List ℕ → ℕ
checksum_after value bytes = bit_xor all_ones (after_bits (bit_xor all_ones value) (flat_map byte_bits bytes))

-- the checksum of bytes, which is 0 where there are none
unfoldable pub checksum : List ℕ → ℕ
checksum bytes = bit_xor all_ones (after_bits all_ones (flat_map byte_bits bytes))
