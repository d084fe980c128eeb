-- Trees that texts are.
use Rattle.std.specs.Prelude.{ℕ, ◌≤◌, List, length, IsUtf8}
use Rattle.sync_tokens.specs.Scan.{tokens_of}
use Rattle.sync_syntax.specs.declared.tree.Program.{Program}
use Rattle.sync_syntax.specs.Grammar.{IsProgram}
use Rattle.sync_syntax.specs.Statements.{max_len}

-- a text in UTF-8, of no more bytes than it may have, whose tokens are by the grammar this tree
pub record HasText (tree : Program) : Type 0 where
  pub text : List ℕ
  pub utf8 : IsUtf8 text
  pub short : length text ≤ max_len
  pub is : IsProgram (tokens_of text) tree
