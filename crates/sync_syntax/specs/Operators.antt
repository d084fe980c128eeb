-- Which tokens are operators, and how they bind.
use Rattle.std.specs.Prelude.{ℕ, ◌==◌, Bool, true, false, Option, Some, None, if◌then◌else◌}
use Rattle.sync_tokens.specs.declared.token.Kind.{Kind}
use Rattle.sync_tokens.specs.declared.token.Kind.TheVariants as kinds
use Rattle.sync_tokens.specs.declared.token.Sign.{Sign}
use Rattle.sync_tokens.specs.declared.token.Sign.TheVariants as signs
use Rattle.sync_tokens.specs.declared.token.Word.{Word}
use Rattle.sync_tokens.specs.declared.token.Word.TheVariants as words
use Rattle.sync_syntax.specs.declared.operator.Writing.{Writing}
use Rattle.sync_syntax.specs.declared.operator.Writing.TheVariants as writing
use Rattle.sync_syntax.specs.declared.tree.Writes.TheVariants as writes
use Rattle.sync_syntax.specs.declared.tree.Operator.{Operator}
use Rattle.sync_syntax.specs.declared.tree.Operator.TheVariants as operators
use Rattle.sync_syntax.specs.declared.tree.Prefix.{Prefix}
use Rattle.sync_syntax.specs.declared.tree.Prefix.TheVariants as prefixes
use Rattle.sync_syntax.specs.declared.tree.Declares.{Declares}
use Rattle.sync_syntax.specs.declared.tree.Declares.TheVariants as declares

abbrev pub sign_operator : Sign → Option Operator
sign_operator signs.Or = Some operators.Or
sign_operator signs.And = Some operators.And
sign_operator signs.Equal = Some operators.Equal
sign_operator signs.NotEqual = Some operators.NotEqual
sign_operator signs.Same = Some operators.Same
sign_operator signs.NotSame = Some operators.NotSame
sign_operator signs.Less = Some operators.Less
sign_operator signs.LessOrEqual = Some operators.LessOrEqual
sign_operator signs.Greater = Some operators.Greater
sign_operator signs.GreaterOrEqual = Some operators.GreaterOrEqual
sign_operator signs.Plus = Some operators.Add
sign_operator signs.Minus = Some operators.Subtract
sign_operator signs.Star = Some operators.Multiply
sign_operator _ = None

-- the operator between operands that a token is
unfoldable pub operator : Kind → Option Operator
operator (kinds.Sign s) = sign_operator s
operator _ = None

-- how loosely an operator binds, from 1 for `*` to 6 for `||`
unfoldable pub level : Operator → ℕ
level operators.Or = 6
level operators.And = 5
level operators.Equal = 4
level operators.NotEqual = 4
level operators.Same = 4
level operators.NotSame = 4
level operators.Less = 3
level operators.LessOrEqual = 3
level operators.Greater = 3
level operators.GreaterOrEqual = 3
level operators.Add = 2
level operators.Subtract = 2
level operators.Multiply = 1

abbrev pub only_at : ℕ → Option Operator → Option Operator
only_at n None = None
only_at n (Some op) = if level op == n then Some op else None

-- the operator of this level that a token is
unfoldable pub operator_at : ℕ → Kind → Option Operator
operator_at n k = only_at n (operator k)

abbrev pub sign_prefix : Sign → Option Prefix
sign_prefix signs.Not = Some prefixes.Not
sign_prefix signs.Minus = Some prefixes.Negate
sign_prefix _ = None

abbrev pub word_prefix : Word → Option Prefix
word_prefix words.Typeof = Some prefixes.Typeof
word_prefix _ = None

-- the operator before an operand that a token is
unfoldable pub prefix_by : Kind → Option Prefix
prefix_by (kinds.Sign s) = sign_prefix s
prefix_by (kinds.Word w) = word_prefix w
prefix_by _ = None

abbrev pub word_declares : Word → Option Declares
word_declares words.Var = Some declares.Var
word_declares words.Let = Some declares.Let
word_declares words.Const = Some declares.Const
word_declares _ = None

-- how a token declares
unfoldable pub declares_by : Kind → Option Declares
declares_by (kinds.Word w) = word_declares w
declares_by _ = None

abbrev pub sign_writes : Sign → Option Writing
sign_writes signs.Assign = Some (writing.Sets writes.Set)
sign_writes signs.PlusAssign = Some (writing.Sets writes.Add)
sign_writes signs.MinusAssign = Some (writing.Sets writes.Subtract)
sign_writes signs.Increment = Some writing.Increments
sign_writes signs.Decrement = Some writing.Decrements
sign_writes _ = None

-- what a token behind a name does to a variable
unfoldable pub writing_by : Kind → Option Writing
writing_by (kinds.Sign s) = sign_writes s
writing_by _ = None

abbrev pub is_name_kind : Kind → Bool
is_name_kind (kinds.Name n) = true
is_name_kind _ = false
