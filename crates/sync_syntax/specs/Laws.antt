-- What holds of every text.
use Rattle.std.specs.Prelude.{◌≡◌, ℕ, ◌≤◌, List, length, Ok, IsUtf8}
use Rattle.sync_tokens.specs.Scan.{tokens_of}
use Rattle.sync_syntax.specs.declared.tree.Program.{Program}
use Rattle.sync_syntax.specs.Depth.{depth}
use Rattle.sync_syntax.specs.Grammar.{IsProgram}
use Rattle.sync_syntax.specs.Statements.{max_len, parsed}

-- how much may be open at once
abbrev pub max_depth : ℕ
max_depth = 100

-- a program by the grammar is what its text is read as, where the text is not too long and not too much is open at once
abbrev pub ProgramsAreRead : Type 0
ProgramsAreRead = (text : List ℕ) → IsUtf8 text → length text ≤ max_len → (p : Program) (d : IsProgram (tokens_of text) p) → depth d ≤ max_depth → parsed text ≡ Ok p

-- a text is one program by the grammar at most, however long it is and however much is open
abbrev pub GrammarIsUnambiguous : Type 0
GrammarIsUnambiguous = (text : List ℕ) → IsUtf8 text → (p q : Program) → IsProgram (tokens_of text) p → IsProgram (tokens_of text) q → p ≡ q

-- what a text is read as is by the grammar a program of its tokens
abbrev pub ReadIsProgram : Type 0
ReadIsProgram = (text : List ℕ) (p : Program) → parsed text ≡ Ok p → IsProgram (tokens_of text) p
