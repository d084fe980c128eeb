-- What holds of every program that is printed.
use Rattle.std.specs.Prelude.{◌≡◌, ℕ, List, [], ◌∷◌, ◌++◌, ◌+◌, ◌^◌, ◌<◌, ◌≤◌, length, map, Ok, IsUtf8}
use Rattle.sync_tokens.specs.Places.{first_place}
use Rattle.sync_tokens.specs.Scan.{tokens_of}
use Rattle.sync_tokens.specs.declared.token.Kind.{Kind}
use Rattle.sync_tokens.specs.declared.token.Kind.TheVariants as kinds
use Rattle.sync_tokens.specs.declared.token.Token.{Token}
use Rattle.sync_syntax.specs.declared.tree.Program.{Program}
use Rattle.sync_syntax.specs.Depth.{depth}
use Rattle.sync_syntax.specs.Grammar.{IsProgram}
use Rattle.sync_syntax.specs.Laws.{max_depth}
use Rattle.sync_syntax.specs.Moved.{moved}
use Rattle.sync_syntax.specs.Statements.{max_len, parsed}
use Rattle.sync_print.specs.Printing.{printed}
use Rattle.sync_print.specs.Trees.{program}

-- a program without its places
abbrev pub placeless : Program → Program
placeless = moved (λ _. first_place)

-- tokens without their places
abbrev pub kinds_of : List Token → List Kind
kinds_of ts = map (λ t. t.kind) ts

-- tokens that are those of a program by the grammar, at whatever places, are a program that differs in its places alone
abbrev pub TokensAreReadBack : Type 0
TokensAreReadBack = (all ts : List Token) (p : Program) → IsProgram all p → kinds_of ts ≡ program p ++ kinds.End ∷ []
    → (r : Program) × IsProgram ts r × (placeless r ≡ placeless p)

-- the printed text of a program is by the grammar a program that differs from it in its places alone
abbrev pub IsReadAlike : Program → Type 0
IsReadAlike p = (r : Program) × IsProgram (tokens_of (printed p)) r × (placeless r ≡ placeless p)

-- The printed text of a program that a text is by the grammar, is by the grammar a program that differs from it in its places
-- alone, however long it is and however much is open. Its length fits 64 bits.
abbrev pub PrintedIsReadBack : Type 0
PrintedIsReadBack = (text : List ℕ) → IsUtf8 text → (p : Program) → IsProgram (tokens_of text) p → length (printed p) + 2 < 2 ^ 64 → IsReadAlike p

-- what a program is read as from its printed text
pub record IsReadBack (p : Program) : Type 0 where
  pub tree : Program
  -- the same, its places apart
  pub same : placeless tree ≡ placeless p
  pub is : IsProgram (tokens_of (printed p)) tree
  -- it is what is read, where no more is open than may be
  pub read : depth is ≤ max_depth → parsed (printed p) ≡ Ok tree
  -- nothing else is read
  pub alone : (q : Program) → parsed (printed p) ≡ Ok q → q ≡ tree

-- The printed text of a program that a text is by the grammar is read as that program, its places apart, where it is not too long
-- and no more is open than may be.
abbrev pub PrintedIsParsed : Type 0
PrintedIsParsed = (text : List ℕ) → IsUtf8 text → (p : Program) → IsProgram (tokens_of text) p → length (printed p) ≤ max_len → IsReadBack p
