use Rattle.std.proofs.Common.{rules, arith}
use Rattle.std.proofs.lemmas.Grind.{common_steps}
use Rattle.sync_syntax.specs.Reading.{separated, separated_from}
use Rattle.sync_syntax.specs.Statements.{declared_rule}
use Rattle.sync_syntax.proofs.Turns.{one_more, no_more}
use Rattle.sync_syntax.proofs.simple.Parts.more_declared.Goals as goal

pub loop-turn-init : goal.loop-turn-init
unfolding separated
loop-turn-init c = first_of (search rules, grind (arith, common_steps))

pub returns-in_err-declared : goal.returns-in_err-declared
unfolding separated_from
returns-in_err-declared c =
    let e = one_more (λ n. separated_from (declared_rule c.args.self.now.room) n c.loop-turn.found c.loop-turn.tokens) _ c.loop-turn._turn c.loop-turn-test.true c.loop-turn.invariant in
    first_of (search rules, grind (arith, common_steps))

pub returns-then-not-eat : goal.returns-then-not-eat
unfolding separated_from
returns-then-not-eat c =
    let e = one_more (λ n. separated_from (declared_rule c.args.self.now.room) n c.loop-turn.found c.loop-turn.tokens) _ c.loop-turn._turn c.loop-turn-test.true c.loop-turn.invariant in
    first_of (search rules, grind (arith, common_steps))

pub loop-turn-preserved : goal.loop-turn-preserved
unfolding separated_from
loop-turn-preserved c =
    let e = one_more (λ n. separated_from (declared_rule c.args.self.now.room) n c.loop-turn.found c.loop-turn.tokens) _ c.loop-turn._turn c.loop-turn-test.true c.loop-turn.invariant in
    first_of (search rules, grind (arith, common_steps))

pub returns : goal.returns
unfolding separated_from
returns c =
    let e = no_more (λ n. separated_from (declared_rule c.args.self.now.room) n c.loop-turn.found c.loop-turn.tokens) _ c.loop-turn._turn c.loop-turn-test.false c.loop-turn.invariant in
    first_of (search rules, grind (arith, common_steps))
