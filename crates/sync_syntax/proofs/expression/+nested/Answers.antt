use Rattle.std.proofs.Common.{◌≡◌, ◌∙◌, ap, sym, arith, Err}
use Rattle.sync_syntax.specs.Expressions.{nested}
use Rattle.sync_syntax.proofs.Turns.{deeper}
use Rattle.sync_syntax.proofs.expression.+nested.Goals as goal

pub returns-then-room-eq0 : goal.returns-then-room-eq0
unfolding nested
returns-then-room-eq0 t c _ =
    let none : c.args.room ≡ 0 = omega arith in ap (λ n. nested n c.args.is_operand c.args.tokens.now) none ∙ ap Err (sym c.too_deep.ensures)

pub returns : goal.returns
unfolding nested
returns t c =
    rw (deeper (λ n. nested n c.args.is_operand c.args.tokens.now) c.args.room (omega arith)) c.opened.ensures
