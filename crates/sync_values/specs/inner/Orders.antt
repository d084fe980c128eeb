-- Which order of two values an operator wants. Only contracts of private functions speak of it.
use Rattle.std.specs.Prelude.{Bool, not}
use Rattle.std.specs.Ordering.{is_lt, is_gt}
use Rattle.std.specs.declared.cmp.Ordering.{Ordering}
use Rattle.sync_syntax.specs.declared.tree.Operator.{Operator}
use Rattle.sync_syntax.specs.declared.tree.Operator.TheVariants as op

-- whether an order is the one that `<`, `<=`, `>` or else `>=` wants
abbrev pub wanted : Operator → Ordering → Bool
wanted op.Less o = is_lt o
wanted op.LessOrEqual o = not (is_gt o)
wanted op.Greater o = is_gt o
wanted _ o = not (is_lt o)
