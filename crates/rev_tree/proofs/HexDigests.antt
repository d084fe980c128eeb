-- hexadecimal texts are digests
use Rattle.std.proofs.Common.{◌≡◌, ℕ, suc, ◌*◌, ◌/◌, ◌%◌, ◌<◌, true, List, [], ◌∷◌, length, get_or, refl, arith}
use Rattle.std.specs.Prelude.{slice_index}
use Rattle.std.specs.List.{list_all}
use Rattle.std.proofs.lemmas.Bool.{and_from, agree_below_at, lt-ltb, le-leb}
use Rattle.hex.specs.Hex.{encode_with, encode_lower, lower_digits}
use Rattle.sg_names.specs.Grammar.{is_digest, is_digest_byte}

digit_fits : (n : ℕ) → n < 16 → is_digest_byte (slice_index lower_digits n) ≡ true
digit_fits n h = agree_below_at (λ (k : ℕ). is_digest_byte (slice_index lower_digits k)) (λ (k : ℕ). true) 16 n refl h

hex_fits : (bytes : List ℕ) → ((k : ℕ) → get_or bytes k 0 < 256) → list_all is_digest_byte (encode_lower bytes) ≡ true
unfolding encode_with
hex_fits [] h = refl
hex_fits (b ∷ bs) h =
    let small : b < 256 = h 0 in
    and_from _ _ (digit_fits (b / 16) (omega arith)) (and_from _ _ (digit_fits (b % 16) (omega arith)) (hex_fits bs (λ k. h (suc k))))

hex_length : (bytes : List ℕ) → length (encode_lower bytes) ≡ 2 * length bytes
unfolding encode_with
hex_length [] = refl
hex_length (b ∷ bs) = omega (arith, hex_length bs)

-- the text of 16 bytes
pub hex_is_digest : (bytes : List ℕ) → ((k : ℕ) → get_or bytes k 0 < 256) → length bytes ≡ 16 → is_digest (encode_lower bytes) ≡ true
hex_is_digest bytes h e =
    and_from _ _ (and_from _ _ (lt-ltb 0 (length (encode_lower bytes)) (omega (arith, hex_length bytes))) (le-leb (length (encode_lower bytes)) 64 (omega (arith, hex_length bytes)))) (hex_fits bytes h)
