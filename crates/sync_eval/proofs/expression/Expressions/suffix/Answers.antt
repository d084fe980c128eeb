use Rattle.std.proofs.Common.{◌∙◌, IsTrue, ap, subst, rules, arith}
use Rattle.std.proofs.lemmas.Grind.{common_steps}
use Rattle.sync_meaning.specs.Acts.{Does}
use Rattle.sync_meaning.specs.Expressions as spec
use Rattle.sync_meaning.specs.Expressions.{evaluated}
use Rattle.sync_code.specs.Code.{sources, tail_source, all_fit, tail_fits}
use Rattle.sync_eval.specs.inner.Nested.{DoesWhere}
use Rattle.sync_eval.proofs.Nodes.{does_as, suffix_Member, suffix_Index, suffix_Call, fits_Index, fits_Call}
use Rattle.sync_eval.proofs.expression.Expressions.suffix.Goals as goal

pub returns-in_err-value-in-Call : goal.returns-in_err-value-in-Call
returns-in_err-value-in-Call g c = λ scope f.
    let inner = evaluated c.args.self.now.depth in
    let s = c.args.state.now in
    let h = subst (λ z. DoesWhere (all_fit z) (λ k. spec.call inner k c.args.place c.args.target (sources z)) s c.call.result c.call.new.state) c.as_slice.ensures c.call.ensures in
    let k = subst (λ b. IsTrue b) (ap (λ x. tail_fits x scope) c.in-Call.is ∙ fits_Call scope _) f in
    let d = h scope k in
    let e = ap (λ x. spec.suffix inner c.args.called scope c.args.place c.args.target (tail_source x) s) c.in-Call.is ∙ suffix_Call inner c.args.called scope c.args.place c.args.target s _ in
    first_of (search (rules, d, e), grind (arith, common_steps, d, e))

pub returns-in-Member : goal.returns-in-Member
returns-in-Member g c = λ scope f.
    let inner = evaluated c.args.self.now.depth in
    let s = c.args.state.now in
    let d = subst (λ z. Does (spec.member_or_method c.args.called c.args.place c.args.target z s) c.member_or_method.result c.member_or_method.new.state) c.as_str.ensures c.member_or_method.ensures in
    does_as _ _ (ap (λ x. spec.suffix inner c.args.called scope c.args.place c.args.target (tail_source x) s) c.in-Member.is ∙ suffix_Member inner c.args.called scope c.args.place c.args.target s _) d

pub returns-in-Index : goal.returns-in-Index
returns-in-Index g c = λ scope f.
    let inner = evaluated c.args.self.now.depth in
    let s = c.args.state.now in
    let k = subst (λ b. IsTrue b) (ap (λ x. tail_fits x scope) c.in-Index.is ∙ fits_Index scope _) f in
    does_as _ _ (ap (λ x. spec.suffix inner c.args.called scope c.args.place c.args.target (tail_source x) s) c.in-Index.is ∙ suffix_Index inner c.args.called scope c.args.place c.args.target s _) (c.index.ensures scope k)

pub returns-in_ok-value-in-Call : goal.returns-in_ok-value-in-Call
returns-in_ok-value-in-Call g c = λ scope f.
    let inner = evaluated c.args.self.now.depth in
    let s = c.args.state.now in
    let h = subst (λ z. DoesWhere (all_fit z) (λ k. spec.call inner k c.args.place c.args.target (sources z)) s c.call.result c.call.new.state) c.as_slice.ensures c.call.ensures in
    let k = subst (λ b. IsTrue b) (ap (λ x. tail_fits x scope) c.in-Call.is ∙ fits_Call scope _) f in
    let d = h scope k in
    let e = ap (λ x. spec.suffix inner c.args.called scope c.args.place c.args.target (tail_source x) s) c.in-Call.is ∙ suffix_Call inner c.args.called scope c.args.place c.args.target s _ in
    first_of (search (rules, d, e), grind (arith, common_steps, d, e))
