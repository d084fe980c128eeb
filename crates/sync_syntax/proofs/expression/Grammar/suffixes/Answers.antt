use Rattle.std.proofs.Common.{rules, arith}
use Rattle.std.proofs.lemmas.Grind.{common_steps}
use Rattle.sync_syntax.specs.Expressions.{nested, suffixes_from, all_suffixes}
use Rattle.sync_syntax.proofs.Turns.{one_more, no_more}
use Rattle.sync_syntax.proofs.expression.Grammar.suffixes.Goals as goal

pub loop-turn-init : goal.loop-turn-init
unfolding all_suffixes
loop-turn-init g c = first_of (search rules, grind (arith, common_steps))

pub returns-then-not-begins_suffix : goal.returns-then-not-begins_suffix
unfolding suffixes_from
returns-then-not-begins_suffix g c =
    let e = one_more (λ n. suffixes_from (nested c.args.self.now.room) n c.loop-turn.found c.loop-turn.tokens) _ c.loop-turn._turn c.loop-turn-test.true c.loop-turn.invariant in
    first_of (search rules, grind (arith, common_steps))

pub returns-in_err-suffix : goal.returns-in_err-suffix
unfolding suffixes_from
returns-in_err-suffix g c =
    let e = one_more (λ n. suffixes_from (nested c.args.self.now.room) n c.loop-turn.found c.loop-turn.tokens) _ c.loop-turn._turn c.loop-turn-test.true c.loop-turn.invariant in
    first_of (search rules, grind (arith, common_steps))

pub loop-turn-preserved : goal.loop-turn-preserved
unfolding suffixes_from
loop-turn-preserved g c =
    let e = one_more (λ n. suffixes_from (nested c.args.self.now.room) n c.loop-turn.found c.loop-turn.tokens) _ c.loop-turn._turn c.loop-turn-test.true c.loop-turn.invariant in
    first_of (search rules, grind (arith, common_steps))

pub returns : goal.returns
unfolding suffixes_from
returns g c =
    let e = no_more (λ n. suffixes_from (nested c.args.self.now.room) n c.loop-turn.found c.loop-turn.tokens) _ c.loop-turn._turn c.loop-turn-test.false c.loop-turn.invariant in
    first_of (search rules, grind (arith, common_steps))
