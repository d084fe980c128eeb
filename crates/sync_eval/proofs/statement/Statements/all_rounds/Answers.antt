use Rattle.std.proofs.Common.{rules, arith}
use Rattle.std.proofs.lemmas.Grind.{common_steps}
use Rattle.sync_meaning.specs.Statements.{all_rounds, rounds, run}
use Rattle.sync_code.specs.Code.{source_or_none}
use Rattle.sync_code.specs.Steps.{plain_or_none, step_source}
use Rattle.sync_eval.proofs.Depths.{one_more, no_more}
use Rattle.std.proofs.lemmas.Bool.{and_parts}
use Rattle.sync_eval.proofs.statement.Statements.all_rounds.Goals as goal

pub loop-round-init : goal.loop-round-init
unfolding all_rounds
loop-round-init g c = λ scope f. first_of (search rules, grind (arith, common_steps))

pub returns-in_err-holds : goal.returns-in_err-holds
unfolding rounds
returns-in_err-holds g c = λ scope f.
    let e = one_more (λ n. rounds c.args.self.now.depth (run c.args.self.now.depth) n scope c.args.place (source_or_none c.args.condition.now) (plain_or_none c.args.step.now) (step_source c.args.body.now) c.loop-round.state) _ c.loop-round._round c.loop-round-test.true (c.loop-round.invariant scope f) in
    let h = c.holds.ensures scope (and_parts _ _ f).0 in
    first_of (search (rules, h), grind (arith, common_steps))

pub returns-then-not-branch : goal.returns-then-not-branch
unfolding rounds
returns-then-not-branch g c = λ scope f.
    let e = one_more (λ n. rounds c.args.self.now.depth (run c.args.self.now.depth) n scope c.args.place (source_or_none c.args.condition.now) (plain_or_none c.args.step.now) (step_source c.args.body.now) c.loop-round.state) _ c.loop-round._round c.loop-round-test.true (c.loop-round.invariant scope f) in
    let h = c.holds.ensures scope (and_parts _ _ f).0 in
    first_of (search (rules, h), grind (arith, common_steps))

pub returns-in_err-inner : goal.returns-in_err-inner
unfolding rounds
returns-in_err-inner g c = λ scope f.
    let e = one_more (λ n. rounds c.args.self.now.depth (run c.args.self.now.depth) n scope c.args.place (source_or_none c.args.condition.now) (plain_or_none c.args.step.now) (step_source c.args.body.now) c.loop-round.state) _ c.loop-round._round c.loop-round-test.true (c.loop-round.invariant scope f) in
    let h = c.holds.ensures scope (and_parts _ _ f).0 in
    let b = c.inner.ensures scope (and_parts _ _ (and_parts _ _ f).1).1 in
    first_of (search (rules, h, b), grind (arith, common_steps))

pub returns-in-Break : goal.returns-in-Break
unfolding rounds
returns-in-Break g c = λ scope f.
    let e = one_more (λ n. rounds c.args.self.now.depth (run c.args.self.now.depth) n scope c.args.place (source_or_none c.args.condition.now) (plain_or_none c.args.step.now) (step_source c.args.body.now) c.loop-round.state) _ c.loop-round._round c.loop-round-test.true (c.loop-round.invariant scope f) in
    let h = c.holds.ensures scope (and_parts _ _ f).0 in
    let b = c.inner.ensures scope (and_parts _ _ (and_parts _ _ f).1).1 in
    first_of (search (rules, h, b), grind (arith, common_steps))

pub returns-in-Return : goal.returns-in-Return
unfolding rounds
returns-in-Return g c = λ scope f.
    let e = one_more (λ n. rounds c.args.self.now.depth (run c.args.self.now.depth) n scope c.args.place (source_or_none c.args.condition.now) (plain_or_none c.args.step.now) (step_source c.args.body.now) c.loop-round.state) _ c.loop-round._round c.loop-round-test.true (c.loop-round.invariant scope f) in
    let h = c.holds.ensures scope (and_parts _ _ f).0 in
    let b = c.inner.ensures scope (and_parts _ _ (and_parts _ _ f).1).1 in
    first_of (search (rules, h, b), grind (arith, common_steps))

pub returns-in_err-step : goal.returns-in_err-step
unfolding rounds
returns-in_err-step g c = λ scope f.
    let e = one_more (λ n. rounds c.args.self.now.depth (run c.args.self.now.depth) n scope c.args.place (source_or_none c.args.condition.now) (plain_or_none c.args.step.now) (step_source c.args.body.now) c.loop-round.state) _ c.loop-round._round c.loop-round-test.true (c.loop-round.invariant scope f) in
    let h = c.holds.ensures scope (and_parts _ _ f).0 in
    let b = c.inner.ensures scope (and_parts _ _ (and_parts _ _ f).1).1 in
    let s = c.step.ensures scope (and_parts _ _ (and_parts _ _ f).1).0 in
    first_of (search (rules, h, b, s), grind (arith, common_steps))

pub loop-round-preserved : goal.loop-round-preserved
unfolding rounds
loop-round-preserved g c = λ scope f.
    let e = one_more (λ n. rounds c.args.self.now.depth (run c.args.self.now.depth) n scope c.args.place (source_or_none c.args.condition.now) (plain_or_none c.args.step.now) (step_source c.args.body.now) c.loop-round.state) _ c.loop-round._round c.loop-round-test.true (c.loop-round.invariant scope f) in
    let h = c.holds.ensures scope (and_parts _ _ f).0 in
    let b = c.inner.ensures scope (and_parts _ _ (and_parts _ _ f).1).1 in
    let s = c.step.ensures scope (and_parts _ _ (and_parts _ _ f).1).0 in
    first_of (search (rules, h, b, s), grind (arith, common_steps))

pub returns : goal.returns
unfolding rounds
returns g c = λ scope f.
    let e = no_more (λ n. rounds c.args.self.now.depth (run c.args.self.now.depth) n scope c.args.place (source_or_none c.args.condition.now) (plain_or_none c.args.step.now) (step_source c.args.body.now) c.loop-round.state) _ c.loop-round._round c.loop-round-test.false (c.loop-round.invariant scope f) in
    first_of (search rules, grind (arith, common_steps))
