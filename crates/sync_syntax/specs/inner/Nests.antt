-- Function values: one that reads what an expression holds inside, where so much more may be open.
use Rattle.std.specs.Prelude.{ℕ, Bool, Result}
use Rattle.std.specs.declared.alloc.Global.{Global}
use denote.Ref.{MutBor}
use Rattle.sync_syntax.specs.declared.tree.Expr.{Expr}
use Rattle.sync_syntax.specs.declared.fault.ParseFault.{ParseFault}
use Rattle.sync_syntax.specs.Reading.{Tokens, ReadsByRule}
use Rattle.sync_syntax.specs.Expressions.{nested}
use Rattle.sync_syntax.specs.declared.tree.Statement.{Statement}
use Rattle.sync_syntax.specs.Statements.{statement}

pub record Nests (room : ℕ) (pre : Global → MutBor Tokens → ℕ → Bool → Type 0)
    (post : Global → MutBor Tokens → ℕ → Bool → Result Expr ParseFault → MutBor Tokens → Type 0) : Type 0 where
  pub callable : (alloc : Global) (old : MutBor Tokens) (is_operand : Bool) → pre alloc old room is_operand
  pub reads : (alloc : Global) (old new : MutBor Tokens) (is_operand : Bool) (r : Result Expr ParseFault) → post alloc old room is_operand r new
      → ReadsByRule (nested room is_operand old.now) r new.now

-- a function value that reads a statement inside, where so much more may be open
pub record NestsStatement (room : ℕ) (pre : Global → MutBor Tokens → ℕ → Bool → Type 0)
    (post : Global → MutBor Tokens → ℕ → Bool → Result Statement ParseFault → MutBor Tokens → Type 0) : Type 0 where
  pub callable : (alloc : Global) (old : MutBor Tokens) (in_loop : Bool) → pre alloc old room in_loop
  pub reads : (alloc : Global) (old new : MutBor Tokens) (in_loop : Bool) (r : Result Statement ParseFault) → post alloc old room in_loop r new
      → ReadsByRule (statement room in_loop old.now) r new.now
