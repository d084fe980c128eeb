use Rattle.std.proofs.Common.{◌∙◌, ◌&&◌, IsTrue, ap, subst, rules, arith}
use Rattle.std.proofs.lemmas.Grind.{common_steps}
use Rattle.sync_meaning.specs.Statements as spec
use Rattle.sync_meaning.specs.Statements.{run}
use Rattle.sync_meaning.specs.Variables.{declared, started}
use Rattle.sync_code.specs.Code.{source, source_or_none, fits, fits_or_none}
use Rattle.sync_code.specs.Steps.{begin_or_none, begin_or_none_fits, held_source, new_fits, opening_fits, opening_source, other_of, other_said, other_source, plain_fits, plain_or_none, plain_source, rounds_fit, step_fits, step_source, step_sources, steps_fit}
use Rattle.sync_eval.specs.inner.Nested.{DoesWhere}
use Rattle.sync_eval.proofs.Nodes.{does_as}
use Rattle.sync_eval.proofs.Opened.{open_Block, open_Empty, open_Declare, open_If, open_For, open_ForOf, open_Return, open_Throw, open_Break, open_Continue, open_Simple, fits_Block, fits_Declare, fits_If, fits_For, fits_ForOf, fits_Return, fits_Throw, fits_Simple}
use Rattle.sync_eval.proofs.statement.Statements.opened.Goals as goal

pub returns-in-Block : goal.returns-in-Block
returns-in-Block g c = λ scope f.
    let depth = c.args.self.now.depth in
    let s = c.args.state.now in
    let k = subst (λ b. IsTrue b) (ap (λ x. step_fits x scope) c.in-Block.is ∙ fits_Block scope _ _) f in
    let h = subst (λ x. DoesWhere (steps_fit x) (λ k. spec.block depth (run depth) k c.in-Block.place (step_sources x)) s c.block.result c.block.new.state) c.as_slice.ensures c.block.ensures in
    does_as _ _ (ap (λ x. spec.run_statement depth (run depth) scope (step_source x) s) c.in-Block.is ∙ open_Block depth (run depth) scope s _ _) (h scope k)

pub returns-in-Empty : goal.returns-in-Empty
returns-in-Empty g c = λ scope f.
    let depth = c.args.self.now.depth in
    let s = c.args.state.now in
    does_as _ _ (ap (λ x. spec.run_statement depth (run depth) scope (step_source x) s) c.in-Empty.is ∙ open_Empty depth (run depth) scope s _) c.jump.ensures

pub returns-in_err-declare-in-Declare : goal.returns-in_err-declare-in-Declare
returns-in_err-declare-in-Declare g c = λ scope f.
    let depth = c.args.self.now.depth in
    let s = c.args.state.now in
    let k = subst (λ b. IsTrue b) (ap (λ x. step_fits x scope) c.in-Declare.is ∙ fits_Declare scope _) f in
    let h = subst (λ n. DoesWhere (opening_fits c.in-Declare.found) (λ k. spec.declare n k (opening_source c.in-Declare.found)) s c.declare.result c.declare.new.state) c.parts.ensures c.declare.ensures in
    let d = h scope k in
    let e = (ap (λ x. spec.run_statement depth (run depth) scope (step_source x) s) c.in-Declare.is ∙ open_Declare depth (run depth) scope s _) in
    first_of (search (rules, d, e), grind (arith, common_steps, d, e))

pub returns-in_ok-declare-in-Declare : goal.returns-in_ok-declare-in-Declare
returns-in_ok-declare-in-Declare g c = λ scope f.
    let depth = c.args.self.now.depth in
    let s = c.args.state.now in
    let k = subst (λ b. IsTrue b) (ap (λ x. step_fits x scope) c.in-Declare.is ∙ fits_Declare scope _) f in
    let h = subst (λ n. DoesWhere (opening_fits c.in-Declare.found) (λ k. spec.declare n k (opening_source c.in-Declare.found)) s c.declare.result c.declare.new.state) c.parts.ensures c.declare.ensures in
    let d = h scope k in
    let e = (ap (λ x. spec.run_statement depth (run depth) scope (step_source x) s) c.in-Declare.is ∙ open_Declare depth (run depth) scope s _) in
    first_of (search (rules, d, e), grind (arith, common_steps, d, e))

pub returns-in_err-simple-in-Simple : goal.returns-in_err-simple-in-Simple
returns-in_err-simple-in-Simple g c = λ scope f.
    let depth = c.args.self.now.depth in
    let s = c.args.state.now in
    let k = subst (λ b. IsTrue b) (ap (λ x. step_fits x scope) c.in-Simple.is ∙ fits_Simple scope _) f in
    let h = subst (λ n. DoesWhere (plain_fits c.in-Simple.found) (λ k. spec.simple n k (plain_source c.in-Simple.found)) s c.simple.result c.simple.new.state) c.parts-in-Simple.ensures c.simple.ensures in
    let d = h scope k in
    let e = (ap (λ x. spec.run_statement depth (run depth) scope (step_source x) s) c.in-Simple.is ∙ open_Simple depth (run depth) scope s _) in
    first_of (search (rules, d, e), grind (arith, common_steps, d, e))

pub returns-in_ok-simple-in-Simple : goal.returns-in_ok-simple-in-Simple
returns-in_ok-simple-in-Simple g c = λ scope f.
    let depth = c.args.self.now.depth in
    let s = c.args.state.now in
    let k = subst (λ b. IsTrue b) (ap (λ x. step_fits x scope) c.in-Simple.is ∙ fits_Simple scope _) f in
    let h = subst (λ n. DoesWhere (plain_fits c.in-Simple.found) (λ k. spec.simple n k (plain_source c.in-Simple.found)) s c.simple.result c.simple.new.state) c.parts-in-Simple.ensures c.simple.ensures in
    let d = h scope k in
    let e = (ap (λ x. spec.run_statement depth (run depth) scope (step_source x) s) c.in-Simple.is ∙ open_Simple depth (run depth) scope s _) in
    first_of (search (rules, d, e), grind (arith, common_steps, d, e))

pub returns-in-If : goal.returns-in-If
returns-in-If g c = λ scope f.
    let depth = c.args.self.now.depth in
    let s = c.args.state.now in
    let k = subst (λ b. IsTrue b) (ap (λ x. step_fits x scope) c.in-If.is ∙ fits_If scope _ _ _ _) f in
    let h = subst (λ x. DoesWhere (λ k. fits x k && (step_fits c.get-in-If.result.now k && other_said (step_source c.get-in-If.result.now) (other_of c.in-If.other) k)) (λ k. spec.choose depth (run depth) k c.in-If.place (source x) (step_source c.get-in-If.result.now) (other_source (other_of c.in-If.other))) s c.choose.result c.choose.new.state) c.get.ensures c.choose.ensures in
    let h = subst (λ x. DoesWhere (λ k. fits c.in-If.condition k && (step_fits x k && other_said (step_source x) (other_of c.in-If.other) k)) (λ k. spec.choose depth (run depth) k c.in-If.place (source c.in-If.condition) (step_source x) (other_source (other_of c.in-If.other))) s c.choose.result c.choose.new.state) c.get-in-If.ensures h in
    does_as _ _ (ap (λ x. spec.run_statement depth (run depth) scope (step_source x) s) c.in-If.is ∙ open_If depth (run depth) scope s _ _ _ _) (h scope k)

pub returns-in-For : goal.returns-in-For
returns-in-For g c = λ scope f.
    let depth = c.args.self.now.depth in
    let s = c.args.state.now in
    let k = subst (λ b. IsTrue b) (ap (λ x. step_fits x scope) c.in-For.is ∙ fits_For scope _ _ _ _ _) f in
    let h = subst (λ x. DoesWhere (λ k. begin_or_none_fits c.in-For.start k && rounds_fit c.in-For.condition c.in-For.step (step_fits x) (started (begin_or_none c.in-For.start) k)) (λ k. spec.loop_while depth (run depth) k c.in-For.place (begin_or_none c.in-For.start) (source_or_none c.in-For.condition) (plain_or_none c.in-For.step) (step_source x)) s c.loop_while.result c.loop_while.new.state) c.get-in-For.ensures c.loop_while.ensures in
    does_as _ _ (ap (λ x. spec.run_statement depth (run depth) scope (step_source x) s) c.in-For.is ∙ open_For depth (run depth) scope s _ _ _ _ _) (h scope k)

pub returns-in-ForOf : goal.returns-in-ForOf
returns-in-ForOf g c = λ scope f.
    let depth = c.args.self.now.depth in
    let s = c.args.state.now in
    let k = subst (λ b. IsTrue b) (ap (λ x. step_fits x scope) c.in-ForOf.is ∙ fits_ForOf scope _ _ _ _ _) f in
    let h = subst (λ x. DoesWhere (λ k. new_fits c.in-ForOf.declares c.in-ForOf.held k && (fits x k && step_fits c.get-in-ForOf-2.result.now (declared c.in-ForOf.declares c.in-ForOf.held.slot.name k))) (λ k. spec.loop_of depth (run depth) k c.in-ForOf.place c.in-ForOf.declares (held_source c.in-ForOf.held) (source x) (step_source c.get-in-ForOf-2.result.now)) s c.loop_of.result c.loop_of.new.state) c.get-in-ForOf.ensures c.loop_of.ensures in
    let h = subst (λ x. DoesWhere (λ k. new_fits c.in-ForOf.declares c.in-ForOf.held k && (fits c.in-ForOf.expr k && step_fits x (declared c.in-ForOf.declares c.in-ForOf.held.slot.name k))) (λ k. spec.loop_of depth (run depth) k c.in-ForOf.place c.in-ForOf.declares (held_source c.in-ForOf.held) (source c.in-ForOf.expr) (step_source x)) s c.loop_of.result c.loop_of.new.state) c.get-in-ForOf-2.ensures h in
    does_as _ _ (ap (λ x. spec.run_statement depth (run depth) scope (step_source x) s) c.in-ForOf.is ∙ open_ForOf depth (run depth) scope s _ _ _ _ _) (h scope k)

pub returns-in-Return : goal.returns-in-Return
returns-in-Return g c = λ scope f.
    let depth = c.args.self.now.depth in
    let s = c.args.state.now in
    let k = subst (λ b. IsTrue b) (ap (λ x. step_fits x scope) c.in-Return.is ∙ fits_Return scope _ _) f in
    let h = subst (λ n. DoesWhere (fits_or_none c.in-Return.expr) (λ k. spec.returned n k c.in-Return.place (source_or_none c.in-Return.expr)) s c.returned.result c.returned.new.state) c.parts-in-Return.ensures c.returned.ensures in
    does_as _ _ (ap (λ x. spec.run_statement depth (run depth) scope (step_source x) s) c.in-Return.is ∙ open_Return depth (run depth) scope s _ _) (h scope k)

pub returns-in-Throw : goal.returns-in-Throw
returns-in-Throw g c = λ scope f.
    let depth = c.args.self.now.depth in
    let s = c.args.state.now in
    let k = subst (λ b. IsTrue b) (ap (λ x. step_fits x scope) c.in-Throw.is ∙ fits_Throw scope _ _) f in
    let h = subst (λ n. DoesWhere (fits c.in-Throw.expr) (λ k. spec.throw n k c.in-Throw.place (source c.in-Throw.expr)) s c.throw.result c.throw.new.state) c.parts-in-Throw.ensures c.throw.ensures in
    does_as _ _ (ap (λ x. spec.run_statement depth (run depth) scope (step_source x) s) c.in-Throw.is ∙ open_Throw depth (run depth) scope s _ _) (h scope k)

pub returns-in-Break : goal.returns-in-Break
returns-in-Break g c = λ scope f.
    let depth = c.args.self.now.depth in
    let s = c.args.state.now in
    does_as _ _ (ap (λ x. spec.run_statement depth (run depth) scope (step_source x) s) c.in-Break.is ∙ open_Break depth (run depth) scope s _) c.jump-in-Break.ensures

pub returns-in-Continue : goal.returns-in-Continue
returns-in-Continue g c = λ scope f.
    let depth = c.args.self.now.depth in
    let s = c.args.state.now in
    does_as _ _ (ap (λ x. spec.run_statement depth (run depth) scope (step_source x) s) c.in-Continue.is ∙ open_Continue depth (run depth) scope s _) c.jump-in-Continue.ensures
