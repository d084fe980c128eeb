-- The lemmas that the walks over expressions and statements use.
use Rattle.std.proofs.lemmas.Grind.{common_steps}
use Rattle.sync_syntax.specs.declared.tree.Expr as expr
use Rattle.sync_syntax.specs.declared.tree.Statement as statement
use Rattle.sync_resolve.proofs.Closing.{more_none, more_append, left_more, left_twice}
use Rattle.sync_resolve.proofs.Earliest.{earliest_append}

pub ruleset expr_steps = (common_steps, expr.the_lemmas, earliest_append)

pub ruleset walk_steps = (common_steps, statement.the_lemmas, earliest_append, more_none, more_append, left_more, left_twice)
