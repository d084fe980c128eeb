use Rattle.std.proofs.Common.{◌<◌, ◌∙◌, sym, ap, arith, List, [], length, drop}
use Rattle.std.proofs.lemmas.List.{drop_all}
use Rattle.grant_history.specs.declared.facts.Fact.{Fact}
use Rattle.grant_history.specs.Facts.{same_facts}
use Rattle.grant_history.proofs.Same.{apart_lists, next_apart, next_same}
use Rattle.grant_history.proofs.facts.are_same.Goals as goal

pub loop-i-preserved : goal.loop-i-preserved
loop-i-preserved c =
    let one = c.args.one.now in
    let other = c.args.other.now in
    let i = c.loop-i.i in
    let low : i < length one = omega arith in
    let low_other : i < length other = omega arith in
    next_same one other i c.index-one-i.result c.index-other-i.result low low_other c.index-one-i.is c.index-other-i.is (sym c.is_same.ensures ∙ c.if-not-is_same.false)
    ∙ c.loop-i.invariant

pub returns-then-not-is_same : goal.returns-then-not-is_same
returns-then-not-is_same c =
    let one = c.args.one.now in
    let other = c.args.other.now in
    let i = c.loop-i.i in
    let low : i < length one = omega arith in
    let low_other : i < length other = omega arith in
    sym (next_apart one other i c.index-one-i.result c.index-other-i.result low low_other c.index-one-i.is c.index-other-i.is (sym c.is_same.ensures ∙ c.if-not-is_same.true))
    ∙ c.loop-i.invariant

pub returns-then-one-other : goal.returns-then-one-other
returns-then-one-other c = sym (apart_lists c.args.one.now c.args.other.now (λ same. absurd (omega (arith, same))))

pub returns : goal.returns
returns c =
    let other = c.args.other.now in
    let i = c.loop-i.i in
    sym (ap (λ (l : List Fact). same_facts l (drop i other)) (drop_all i c.args.one.now (omega arith)) ∙ ap (λ (l : List Fact). same_facts [] l) (drop_all i other (omega arith)))
    ∙ c.loop-i.invariant
