-- What is read behind the part of a rule that comes first. Only proofs need this.
use Rattle.std.specs.Prelude.{ℕ, Bool}
use Rattle.sync_tokens.specs.declared.place.Place.{Place}
use Rattle.sync_tokens.specs.declared.token.Sign.{Sign}
use Rattle.sync_tokens.specs.declared.token.Sign.TheVariants as signs
use Rattle.sync_syntax.specs.declared.tree.Expr.{Expr}
use Rattle.sync_syntax.specs.declared.tree.Statement.{Statement}
use Rattle.sync_syntax.specs.declared.tree.Statement.TheVariants as s
use Rattle.sync_syntax.specs.Reading.{Rule, ◌>>=◌, ◌>>◌, ◌<$>◌, expect, pure_rule}
use Rattle.sync_syntax.specs.Statements.{statement_end, else_rule_in, statement}

-- what was found, with this sign behind it
abbrev pub closed : {A : Type 0} → A → Sign → Rule A
closed found sign = do
  expect sign
  pure_rule found

-- what was found, with the end of a statement behind it
abbrev pub ended : {A : Type 0} → A → Rule A
ended found = do
  statement_end
  pure_rule found

-- an `if` behind its condition
abbrev pub chosen : ℕ → Place → Bool → Expr → Rule Statement
chosen room p in_loop condition = do
  expect signs.ParenClose
  first ← statement room in_loop
  s.If p condition first <$> else_rule_in room in_loop
