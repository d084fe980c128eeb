use Rattle.std.proofs.Common.{◌≡◌, ◌∙◌, ap, sym, arith, Err}
use Rattle.sync_syntax.specs.Statements.{statement}
use Rattle.sync_syntax.proofs.Turns.{deeper}
use Rattle.sync_syntax.proofs.statement.+statement.Goals as goal

pub returns-then-room-eq0 : goal.returns-then-room-eq0
unfolding statement
returns-then-room-eq0 t c _ =
    let none : c.args.room ≡ 0 = omega arith in
    ap (λ n. statement n c.args.in_loop c.args.tokens.now) none ∙ ap Err (sym c.too_deep.ensures)

pub returns : goal.returns
unfolding statement
returns t c =
    rw (deeper (λ n. statement n c.args.in_loop c.args.tokens.now) c.args.room (omega arith)) c.opened.ensures
