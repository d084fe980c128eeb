use Rattle.std.proofs.Common.{rules, arith}
use Rattle.std.proofs.lemmas.Grind.{common_steps}
use Rattle.sync_syntax.specs.Statements.{block_rule, block_from, statement}
use Rattle.sync_syntax.proofs.Turns.{one_more, no_more}
use Rattle.sync_syntax.proofs.statement.Statements.block.Goals as goal

pub loop-turn-init : goal.loop-turn-init
unfolding block_rule
loop-turn-init g c = first_of (search rules, grind (arith, common_steps))

pub returns-then-eat : goal.returns-then-eat
unfolding block_from
returns-then-eat g c =
    let e = one_more (λ n. block_from c.args.self.now.room (statement c.args.self.now.room) c.args.in_loop n c.loop-turn.found c.loop-turn.tokens) _ c.loop-turn._turn c.loop-turn-test.true c.loop-turn.invariant in
    first_of (search rules, grind (arith, common_steps))

pub returns-in_err-inner : goal.returns-in_err-inner
unfolding block_from
returns-in_err-inner g c =
    let e = one_more (λ n. block_from c.args.self.now.room (statement c.args.self.now.room) c.args.in_loop n c.loop-turn.found c.loop-turn.tokens) _ c.loop-turn._turn c.loop-turn-test.true c.loop-turn.invariant in
    first_of (search rules, grind (arith, common_steps))

pub loop-turn-preserved : goal.loop-turn-preserved
unfolding block_from
loop-turn-preserved g c =
    let e = one_more (λ n. block_from c.args.self.now.room (statement c.args.self.now.room) c.args.in_loop n c.loop-turn.found c.loop-turn.tokens) _ c.loop-turn._turn c.loop-turn-test.true c.loop-turn.invariant in
    first_of (search rules, grind (arith, common_steps))

pub returns : goal.returns
unfolding block_from
returns g c =
    let e = no_more (λ n. block_from c.args.self.now.room (statement c.args.self.now.room) c.args.in_loop n c.loop-turn.found c.loop-turn.tokens) _ c.loop-turn._turn c.loop-turn-test.false c.loop-turn.invariant in
    first_of (search rules, grind (arith, common_steps))
