use Rattle.std.proofs.Common.{◌≡◌, ◌∙◌, ap, sym, subst, refl, IsTrue, drop, Ok, rules, arith}
use Rattle.std.proofs.lemmas.Bool.{and_parts}
use Rattle.std.proofs.lemmas.Grind.{common_steps}
use Rattle.sync_meaning.specs.declared.scope.Scope.{Scope}
use Rattle.sync_meaning.specs.Acts.{and_then}
use Rattle.sync_meaning.specs.Statements.{declare_one, declare_all}
use Rattle.sync_meaning.specs.Variables.{declared}
use Rattle.sync_code.specs.Code.{source_or_none}
use Rattle.sync_code.specs.Steps.{name_sources, names_fit}
use Rattle.sync_eval.proofs.InTurn.{split_left, none_left, rest_same}
use Rattle.sync_eval.proofs.simple.Parts.declare_all.Goals as goal

pub loop-left-init : goal.loop-left-init
loop-left-init c = λ first f. (first, f, refl)

pub returns-in_err-declare_one : goal.returns-in_err-declare_one
returns-in_err-declare_one c = λ first f.
    let i = c.loop-left.invariant first f in
    let l = split_left c.loop-left.left.now c.next-item.result c.in-len1-up.len_at_least c.next-item.is in
    let k = and_parts _ _ (subst (λ x. IsTrue (names_fit c.args.declares x i.0)) l i.1) in
    let h = c.declare_one.ensures i.0 k.0 in
    let e = sym i.2 ∙ ap (λ x. declare_all c.args.self.now.depth c.args.declares i.0 (name_sources x) c.loop-left.state) l in
    first_of (search (rules, h, e), grind (arith, common_steps, h, e))

pub loop-left-preserved : goal.loop-left-preserved
loop-left-preserved c = λ first f.
    let i = c.loop-left.invariant first f in
    let l = split_left c.loop-left.left.now c.next-item.result c.in-len1-up.len_at_least c.next-item.is in
    let k = and_parts _ _ (subst (λ x. IsTrue (names_fit c.args.declares x i.0)) l i.1) in
    let h = c.declare_one.ensures i.0 k.0 in
    let e = sym i.2 ∙ ap (λ x. declare_all c.args.self.now.depth c.args.declares i.0 (name_sources x) c.loop-left.state) l in
    let next = declare_all c.args.self.now.depth c.args.declares (declared c.args.declares c.next-item.result.0.slot.name i.0) (name_sources (drop 1 c.loop-left.left.now)) in
    let done : declare_one c.args.self.now.depth c.args.declares i.0 c.next-item.result.0.slot.name (source_or_none c.next-item.result.1) c.loop-left.state ≡ Ok (tt, c.declare_one.new.state) = first_of (search (rules, h), grind (arith, common_steps, h)) in
    let go = ap (λ r. and_then r (λ _. next)) done in
    subst (λ x. (scope : Scope) × IsTrue (names_fit c.args.declares x scope) × (declare_all c.args.self.now.depth c.args.declares scope (name_sources x) c.declare_one.new.state ≡ declare_all c.args.self.now.depth c.args.declares first (name_sources c.args.names.now) c.args.state.now))
    (sym (rest_same c.loop-left.left.now))
    (declared c.args.declares c.next-item.result.0.slot.name i.0, k.1, sym go ∙ sym e)

pub returns : goal.returns
returns c = λ first f.
    let i = c.loop-left.invariant first f in
    sym i.2 ∙ ap (λ x. declare_all c.args.self.now.depth c.args.declares i.0 (name_sources x) c.loop-left.state) (none_left c.loop-left.left.now c.in_default.len_below)
