-- Numbers of properties. Only proofs need this.
use Rattle.std.specs.Prelude.{ℕ, zero, suc, List, Option, Some, None, decimal, if◌then◌else◌}
use Rattle.std.specs.Str.{bytes_eq}

-- the number from 1 to the limit of which the text is the decimal
unfoldable pub number_up_to : ℕ → List ℕ → Option ℕ
number_up_to zero text = None
number_up_to (suc n) text = if bytes_eq text (decimal (suc n)) then Some (suc n) else number_up_to n text
