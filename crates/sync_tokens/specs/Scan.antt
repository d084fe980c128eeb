-- The tokens of a text, in order, each with the place of its first character.
use Rattle.std.specs.Prelude.{◌≡◌, ℕ, zero, suc, ◌+◌, ◌-◌, ◌^◌, ◌==◌, min, ◌||◌, ⊤, List, [], ◌∷◌, ◌++◌, take, chars, Option, Some, None, Result, Ok, Err, if◌then◌else◌}
use Rattle.std.specs.declared.alloc.AllocError.{AllocError}
use Rattle.std.specs.Char.{is_ascii_digit}
use Rattle.sync_tokens.specs.declared.place.Place.{Place}
use Rattle.sync_tokens.specs.declared.place.SyntaxWhy.TheVariants.{BadText}
use Rattle.sync_tokens.specs.declared.token.Sign.{Sign}
use Rattle.sync_tokens.specs.declared.token.Kind.{Kind}
use Rattle.sync_tokens.specs.declared.token.Kind.TheVariants as kinds
use Rattle.sync_tokens.specs.declared.token.Token.{Token}
use Rattle.sync_tokens.specs.declared.scan.Piece.{Piece}
use Rattle.sync_tokens.specs.declared.scan.Piece.TheVariants as pieces
use Rattle.sync_tokens.specs.Places.{step, first_place}
use Rattle.sync_tokens.specs.Blanks.{is_space, line_len, comment_len}
use Rattle.sync_tokens.specs.Words.{is_letter, word_len, word_kind}
use Rattle.sync_tokens.specs.Signs.{sign_at}
use Rattle.sync_tokens.specs.Literals.{digits_len, integer_kind, literal_at}

-- one more, as far as 64 bits go
abbrev pub plus : ℕ → ℕ → ℕ
plus n k = min (n + k) (2 ^ 64 - 1)

-- a text or comment that isn't closed, a bad escape, a character of no token
abbrev pub bad_text : Piece
bad_text = pieces.Last (kinds.Bad BadText)

abbrev pub word : List ℕ → Piece
word all = pieces.Token (word_kind (take (word_len all) all)) (word_len all)

-- digits that are no integer end the tokens
abbrev pub integer_by : Kind → ℕ → Piece
integer_by (kinds.Bad why) len = pieces.Last (kinds.Bad why)
integer_by kind len = pieces.Token kind len

abbrev pub integer : List ℕ → Piece
integer all = integer_by (integer_kind (take (digits_len all) all)) (digits_len all)

abbrev pub text_by : Option (List ℕ × ℕ) → Piece
text_by None = bad_text
text_by (Some found) = pieces.Token (kinds.Text found.0) (plus found.1 1)

-- a text, by what stands behind its opening quote
abbrev pub text : ℕ → List ℕ → Piece
text quote more = text_by (literal_at quote more)

abbrev pub sign_by : Option (Sign × ℕ) → Piece
sign_by None = bad_text
sign_by (Some found) = pieces.Token (kinds.Sign found.0) found.1

abbrev pub sign : List ℕ → Piece
sign all = sign_by (sign_at all)

abbrev pub comment_by : Option ℕ → Piece
comment_by None = bad_text
comment_by (Some len) = pieces.Blank (plus len 2)

-- what a slash begins, by what stands behind it: a comment to the line's end, or one in `/*` and `*/`
unfoldable pub slash : List ℕ → Piece
slash [] = bad_text
slash (c ∷ cs) = if c == 47 then pieces.Blank (plus (line_len cs) 2) else (if c == 42 then comment_by (comment_len cs) else bad_text)

-- what stands at the front of a text
unfoldable pub piece_at : List ℕ → Piece
piece_at [] = pieces.Last kinds.End
piece_at (c ∷ cs) =
    if is_space c then pieces.Blank 1
    else (if is_letter c then word (c ∷ cs)
    else (if is_ascii_digit c then integer (c ∷ cs)
    else (if c == 39 || c == 34 then text c cs
    else (if c == 47 then slash cs
    else sign (c ∷ cs)))))

-- the token of a piece, with those of the characters that come after the first
abbrev pub laid : Place → Piece → (ℕ → List Token) → List Token
laid p (pieces.Blank len) rest = rest (len - 1)
laid p (pieces.Token kind len) rest = record { place = p; kind = kind } ∷ rest (len - 1)
laid p (pieces.Last kind) rest = record { place = p; kind = kind } ∷ []

-- the tokens of a text from this place on; the number counts the characters that the piece before still has
abbrev pub tokens_from : ℕ → Place → List ℕ → List Token
tokens_from left p [] = record { place = p; kind = kinds.End } ∷ []
tokens_from (suc left) p (c ∷ cs) = tokens_from left (step p c) cs
tokens_from zero p (c ∷ cs) = laid p (piece_at (c ∷ cs)) (λ left. tokens_from left (step p c) cs)

abbrev pub tokens_in : List ℕ → List Token
tokens_in = tokens_from 0 first_place

-- the tokens of a text, given as its bytes
unfoldable pub tokens_of : List ℕ → List Token
tokens_of bytes = tokens_in (chars bytes)

-- ---- what `lay` does

abbrev pub LaysOne : List Token → Token → List Token → Option ℕ → Option ℕ → Type 0
LaysOne old t new more r = (new ≡ old ++ t ∷ []) × (r ≡ more)

abbrev pub LaysOk : Place → Piece → List Token → List Token → Option ℕ → Type 0
LaysOk p (pieces.Blank len) old new r = (new ≡ old) × (r ≡ Some (len - 1))
LaysOk p (pieces.Token kind len) old new r = LaysOne old (record { place = p; kind = kind }) new (Some (len - 1)) r
LaysOk p (pieces.Last kind) old new r = LaysOne old (record { place = p; kind = kind }) new None r

abbrev pub Lays : Place → Piece → List Token → List Token → Result (Option ℕ) AllocError → Type 0
Lays p piece old new (Ok r) = LaysOk p piece old new r
Lays p piece old new (Err e) = ⊤
