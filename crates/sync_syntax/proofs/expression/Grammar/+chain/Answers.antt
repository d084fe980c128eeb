use Rattle.std.proofs.Common.{◌≡◌, ◌-◌, rules, arith}
use Rattle.std.proofs.lemmas.Grind.{common_steps}
use Rattle.sync_syntax.specs.Expressions.{chain_rule, chain_in, tails, tails_from}
use Rattle.sync_syntax.proofs.Turns.{one_more, no_more, deeper}
use Rattle.sync_syntax.proofs.expression.Grammar.+chain.Goals as goal

pub chain-returns-then-level-eq0 : goal.chain-returns-then-level-eq0
unfolding chain_rule
chain-returns-then-level-eq0 g t c =
    let none : c.args.level ≡ 0 = omega arith in
    first_of (search rules, grind (arith, common_steps))

pub chain-returns-in_err-first : goal.chain-returns-in_err-first
unfolding chain_rule
chain-returns-in_err-first g t c =
    let more = deeper (λ n. chain_in c.args.self.now.room n c.args.tokens.now) c.args.level (omega arith) in
    first_of (search rules, grind (arith, common_steps))

pub chain-returns-in-Err : goal.chain-returns-in-Err
unfolding chain_rule
chain-returns-in-Err g t c =
    let more = deeper (λ n. chain_in c.args.self.now.room n c.args.tokens.now) c.args.level (omega arith) in
    first_of (search rules, grind (arith, common_steps))

pub chain-returns : goal.chain-returns
unfolding chain_rule
chain-returns g t c =
    let more = deeper (λ n. chain_in c.args.self.now.room n c.args.tokens.now) c.args.level (omega arith) in
    first_of (search rules, grind (arith, common_steps))

pub tails-loop-turn-init : goal.tails-loop-turn-init
unfolding tails
tails-loop-turn-init g t c = first_of (search rules, grind (arith, common_steps))

pub tails-returns-in_default : goal.tails-returns-in_default
unfolding tails_from
tails-returns-in_default g t c =
    let e = one_more (λ n. tails_from c.args.level (chain_in c.args.self.now.room (c.args.level - 1)) n c.loop-turn.found c.loop-turn.tokens) _ c.loop-turn._turn c.loop-turn-test.true c.loop-turn.invariant in
    first_of (search rules, grind (arith, common_steps))

pub tails-returns-in_err-right : goal.tails-returns-in_err-right
unfolding tails_from
tails-returns-in_err-right g t c =
    let e = one_more (λ n. tails_from c.args.level (chain_in c.args.self.now.room (c.args.level - 1)) n c.loop-turn.found c.loop-turn.tokens) _ c.loop-turn._turn c.loop-turn-test.true c.loop-turn.invariant in
    first_of (search rules, grind (arith, common_steps))

pub tails-loop-turn-preserved : goal.tails-loop-turn-preserved
unfolding tails_from
tails-loop-turn-preserved g t c =
    let e = one_more (λ n. tails_from c.args.level (chain_in c.args.self.now.room (c.args.level - 1)) n c.loop-turn.found c.loop-turn.tokens) _ c.loop-turn._turn c.loop-turn-test.true c.loop-turn.invariant in
    first_of (search rules, grind (arith, common_steps))

pub tails-returns : goal.tails-returns
unfolding tails_from
tails-returns g t c =
    let e = no_more (λ n. tails_from c.args.level (chain_in c.args.self.now.room (c.args.level - 1)) n c.loop-turn.found c.loop-turn.tokens) _ c.loop-turn._turn c.loop-turn-test.false c.loop-turn.invariant in
    first_of (search rules, grind (arith, common_steps))
