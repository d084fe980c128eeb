-- The tokens of a text stand one behind the other.
use Rattle.std.specs.Prelude.{ℕ, ◌+◌, ◌^◌, ◌<◌, List, [], ◌∷◌, length, chars}
use Rattle.sync_tokens.specs.declared.token.Token.{Token}
use Rattle.sync_tokens.specs.Places.{IsBefore}
use Rattle.sync_tokens.specs.Scan.{tokens_of}

-- each token stands before the next
abbrev pub Rise : List Token → Type 0
Rise [] = Unit {0}
Rise (t ∷ []) = Unit {0}
Rise (t ∷ u ∷ ts) = IsBefore t.place u.place × Rise (u ∷ ts)

-- so do those of each text whose places 32 bits can count
abbrev pub TokensRise : Type 0
TokensRise = (text : List ℕ) → length (chars text) + 2 < 2 ^ 32 → Rise (tokens_of text)
