-- Signs: the longest at a place is the one that stands there.
use Rattle.std.specs.Prelude.{ℕ, List, [], ◌∷◌, length, nat_eq, codes, Option, Some, None, if◌then◌else◌}
use Rattle.std.specs.List.{starts_with}
use Rattle.sync_tokens.specs.declared.token.Sign.{Sign}
use Rattle.sync_tokens.specs.declared.token.Sign.TheVariants as s

-- the signs, a longer one before those that it begins with
abbrev pub signs : List (List ℕ × Sign)
signs =
    (codes "===", s.Same) ∷ (codes "!==", s.NotSame) ∷ (codes "==", s.Equal) ∷ (codes "!=", s.NotEqual) ∷
    (codes "<=", s.LessOrEqual) ∷ (codes ">=", s.GreaterOrEqual) ∷ (codes "+=", s.PlusAssign) ∷
    (codes "-=", s.MinusAssign) ∷ (codes "++", s.Increment) ∷ (codes "--", s.Decrement) ∷ (codes "||", s.Or) ∷
    (codes "&&", s.And) ∷ (codes "(", s.ParenOpen) ∷ (codes ")", s.ParenClose) ∷ (codes "{", s.BraceOpen) ∷
    (codes "}", s.BraceClose) ∷ (codes "[", s.BracketOpen) ∷ (codes "]", s.BracketClose) ∷ (codes ",", s.Comma) ∷
    (codes ";", s.Semicolon) ∷ (codes ":", s.Colon) ∷ (codes ".", s.Dot) ∷ (codes "?", s.Question) ∷
    (codes "=", s.Assign) ∷ (codes "<", s.Less) ∷ (codes ">", s.Greater) ∷ (codes "+", s.Plus) ∷
    (codes "-", s.Minus) ∷ (codes "*", s.Star) ∷ (codes "!", s.Not) ∷ []

-- the first sign of the table that the characters begin with, and how many it takes
abbrev pub lookup_sign : List (List ℕ × Sign) → List ℕ → Option (Sign × ℕ)
lookup_sign [] chars = None
lookup_sign (entry ∷ table) chars = if starts_with nat_eq chars entry.0 then Some (entry.1, length entry.0) else lookup_sign table chars

-- the longest sign that the characters begin with
unfoldable pub sign_at : List ℕ → Option (Sign × ℕ)
sign_at = lookup_sign signs
