-- Which token of a text is at fault.
use Rattle.std.specs.Prelude.{◌≡◌, ℕ, ◌<◌, ◌≤◌, Bool, false, is_some, List, [], ◌∷◌, ◌++◌, length, Err, IsUtf8}
use Rattle.sync_tokens.specs.Scan.{tokens_of}
use Rattle.sync_tokens.specs.Spellable.{AreTokens}
use Rattle.sync_tokens.specs.declared.place.SyntaxWhy.TheVariants.{Unexpected, TooDeep}
use Rattle.sync_tokens.specs.declared.token.Kind.{Kind}
use Rattle.sync_tokens.specs.declared.token.Kind.TheVariants as kinds
use Rattle.sync_tokens.specs.declared.token.Token.{Token}
use Rattle.sync_syntax.specs.declared.fault.ParseFault.{ParseFault}
use Rattle.sync_syntax.specs.declared.fault.ParseFault.TheVariants.{Bad}
use Rattle.sync_syntax.specs.declared.tree.Program.{Program}
use Rattle.sync_syntax.specs.Depth.{depth}
use Rattle.sync_syntax.specs.Grammar.{IsProgram}
use Rattle.sync_syntax.specs.Laws.{max_depth}
use Rattle.sync_syntax.specs.Operators.{writing_by}
use Rattle.sync_syntax.specs.Reading.{Tokens, kind, why_at}
use Rattle.sync_syntax.specs.Statements.{max_len, parsed}

-- no tokens that a text can have, and that begin with these, are a program by the grammar, however much is open in it
abbrev pub NoneBegins : Tokens → Type 0
NoneBegins ts = (rest : Tokens) (p : Program) → AreTokens (ts ++ rest) → IsProgram (ts ++ rest) p → ⊥

-- tokens that a text can have, and that begin with these, are a program by the grammar
pub record SomeBegins (ts : Tokens) : Type 0 where
  pub rest : Tokens
  pub program : Program
  pub are : AreTokens (ts ++ rest)
  pub is : IsProgram (ts ++ rest) program

-- whether the first is a name that is written, by the second behind it
abbrev pub is_written : Kind → Kind → Bool
is_written (kinds.Name n) k = is_some (writing_by k)
is_written _ k = false

-- in each program by the grammar whose tokens a text can have, and begin with these and the token, more is open than may be, but
-- where the token is a name that is written
abbrev pub NoneWithin : Tokens → Token → Type 0
NoneWithin before t = (rest : Tokens) (p : Program) → is_written t.kind (kind rest) ≡ false → AreTokens (before ++ t ∷ rest) → (d : IsProgram (before ++ t ∷ rest) p)
    → max_depth < depth d

-- The fault stands at a token of these: it is the token's own, where that is none, or else as here. Some program begins with what
-- stands before the token.
pub data IsFaultOf (ts : Tokens) : ParseFault → Type 0 where
  -- no program begins with that and the token
  unexpected : (before : Tokens) (token : Token) (rest : Tokens) → ts ≡ before ++ token ∷ rest → SomeBegins before → NoneBegins (before ++ token ∷ [])
      → IsFaultOf ts (Bad (record { place = token.place; why = why_at token.kind Unexpected }))
  -- one more than may be open begins at the token, and so in each program that begins with that and the token
  deep : (before : Tokens) (token : Token) (rest : Tokens) → ts ≡ before ++ token ∷ rest → SomeBegins before → NoneWithin before token
      → IsFaultOf ts (Bad (record { place = token.place; why = why_at token.kind TooDeep }))

-- where a text of no more bytes than it may have is read as no program, the fault is at the first token that is at fault
abbrev pub FaultsAreFirst : Type 0
FaultsAreFirst = (text : List ℕ) → IsUtf8 text → length text ≤ max_len → (e : ParseFault) → parsed text ≡ Err e → IsFaultOf (tokens_of text) e
