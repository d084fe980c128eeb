-- reading of inputs that come one after another
use Rattle.std.proofs.Common.{◌≡◌, ℕ, ◌<◌, List, [], ◌∷◌, length, drop, refl, arith, length-drop, not-suc-le-zero}
use Rattle.sg_lines.specs.declared.inputs.LineInput.{LineInput}
use Rattle.sg_lines.specs.declared.inputs.LineInput.TheVariants as input
use Rattle.sg_lines.specs.Inputs.{rest_first, coming, left_of_rest}

left_some : (rest : List ℕ) → 0 < length rest → left_of_rest rest ≡ input.Bytes rest ∷ []
left_some [] h = absurd (not-suc-le-zero h)
left_some (byte ∷ bytes) h = refl

-- what is left at a place of bytes behind which there are some
pub left_before : (at : ℕ) (bytes : List ℕ) → at < length bytes → left_of_rest (drop at bytes) ≡ input.Bytes (drop at bytes) ∷ []
left_before at bytes h = left_some (drop at bytes) (omega (arith, h, length-drop at bytes))

from_start : (inputs : List LineInput) → rest_first 0 inputs ≡ inputs
from_start [] = refl
from_start (input.Bytes bytes ∷ later) = refl
from_start (input.Idle ∷ later) = refl

-- no input was read
pub all_coming : (inputs : List LineInput) → coming inputs 0 0 ≡ inputs
all_coming inputs = from_start inputs
