use Rattle.std.proofs.Common.{◌≡◌, ◌∙◌, ◌&&◌, IsTrue, to_z, pos, ap, subst, rules, arith}
use Rattle.std.specs.Int.{w128}
use Rattle.std.proofs.lemmas.Grind.{common_steps}
use Rattle.sync_values.specs.Values.{bounded}
use Rattle.sync_meaning.specs.Acts.{Does}
use Rattle.sync_meaning.specs.Expressions as spec
use Rattle.sync_meaning.specs.Expressions.{evaluated}
use Rattle.sync_code.specs.Code.{source, sources, member_sources, operand_sources, tail_sources, fits, all_fit, members_fit, operands_fit, tails_fit}
use Rattle.sync_eval.specs.inner.Nested.{DoesWhere}
use Rattle.sync_eval.proofs.Nodes.{does_as, node_Undefined, node_Null, node_Bool, node_Integer, node_Text, node_Name, node_List, node_Object, node_Prefix, node_Postfix, node_Chain, node_Choice, fits_Name, fits_List, fits_Object, fits_Prefix, fits_Postfix, fits_Chain, fits_Choice}
use Rattle.sync_eval.proofs.expression.Expressions.node.Goals as goal

pub returns-in-Undefined : goal.returns-in-Undefined
returns-in-Undefined g c = λ scope f.
    let inner = evaluated c.args.self.now.depth in
    let s = c.args.state.now in
    does_as _ _ (ap (λ x. spec.node inner scope (source x) s) c.in-Undefined.is ∙ node_Undefined inner scope s _) c.literal.ensures

pub returns-in-Null : goal.returns-in-Null
returns-in-Null g c = λ scope f.
    let inner = evaluated c.args.self.now.depth in
    let s = c.args.state.now in
    does_as _ _ (ap (λ x. spec.node inner scope (source x) s) c.in-Null.is ∙ node_Null inner scope s _) c.literal-in-Null.ensures

pub returns-in-Bool : goal.returns-in-Bool
returns-in-Bool g c = λ scope f.
    let inner = evaluated c.args.self.now.depth in
    let s = c.args.state.now in
    does_as _ _ (ap (λ x. spec.node inner scope (source x) s) c.in-Bool.is ∙ node_Bool inner scope s _ _) c.literal-in-Bool.ensures

pub returns-in-Integer : goal.returns-in-Integer
returns-in-Integer g c = λ scope f.
    let inner = evaluated c.args.self.now.depth in
    let s = c.args.state.now in
    let z : to_z w128 c.in-Integer.n ≡ pos c.in-Integer.n = first_of (search rules, grind (arith, common_steps)) in
    let b = c.bounded.ensures ∙ ap (λ n. bounded c.in-Integer.place n) z in
    does_as _ _ (ap (λ x. spec.node inner scope (source x) s) c.in-Integer.is ∙ node_Integer inner scope s _ _) (subst (λ r. Does (spec.literal c.in-Integer.place r s) c.literal-in-Integer.result c.literal-in-Integer.new.state) b c.literal-in-Integer.ensures)

pub returns-in-Text : goal.returns-in-Text
returns-in-Text g c = λ scope f.
    let inner = evaluated c.args.self.now.depth in
    let s = c.args.state.now in
    does_as _ _ (ap (λ x. spec.node inner scope (source x) s) c.in-Text.is ∙ node_Text inner scope s _ _) c.text.ensures

pub returns-in-Name : goal.returns-in-Name
returns-in-Name g c = λ scope f.
    let inner = evaluated c.args.self.now.depth in
    let s = c.args.state.now in
    let k = subst (λ b. IsTrue b) (ap (λ x. fits x scope) c.in-Name.is ∙ fits_Name scope _ _) f in
    does_as _ _ (ap (λ x. spec.node inner scope (source x) s) c.in-Name.is ∙ node_Name inner scope s _ _) (c.name.ensures scope k)

pub returns-in-List : goal.returns-in-List
returns-in-List g c = λ scope f.
    let inner = evaluated c.args.self.now.depth in
    let s = c.args.state.now in
    let k = subst (λ b. IsTrue b) (ap (λ x. fits x scope) c.in-List.is ∙ fits_List scope _ _) f in
    let h = subst (λ z. DoesWhere (all_fit z) (λ k. spec.list inner k c.in-List.place (sources z)) s c.list.result c.list.new.state) c.as_slice.ensures c.list.ensures in
    does_as _ _ (ap (λ x. spec.node inner scope (source x) s) c.in-List.is ∙ node_List inner scope s _ _) (h scope k)

pub returns-in-Object : goal.returns-in-Object
returns-in-Object g c = λ scope f.
    let inner = evaluated c.args.self.now.depth in
    let s = c.args.state.now in
    let k = subst (λ b. IsTrue b) (ap (λ x. fits x scope) c.in-Object.is ∙ fits_Object scope _ _) f in
    let h = subst (λ z. DoesWhere (members_fit z) (λ k. spec.object inner k c.in-Object.place (member_sources z)) s c.object.result c.object.new.state) c.as_slice-in-Object.ensures c.object.ensures in
    does_as _ _ (ap (λ x. spec.node inner scope (source x) s) c.in-Object.is ∙ node_Object inner scope s _ _) (h scope k)

pub returns-in-Prefix : goal.returns-in-Prefix
returns-in-Prefix g c = λ scope f.
    let inner = evaluated c.args.self.now.depth in
    let s = c.args.state.now in
    let k = subst (λ b. IsTrue b) (ap (λ x. fits x scope) c.in-Prefix.is ∙ fits_Prefix scope _ _ _) f in
    let h = subst (λ z. DoesWhere (fits z) (λ k. spec.prefix inner k c.in-Prefix.place c.in-Prefix.op (source z)) s c.prefix.result c.prefix.new.state) c.get.ensures c.prefix.ensures in
    does_as _ _ (ap (λ x. spec.node inner scope (source x) s) c.in-Prefix.is ∙ node_Prefix inner scope s _ _ _) (h scope k)

pub returns-in-Postfix : goal.returns-in-Postfix
returns-in-Postfix g c = λ scope f.
    let inner = evaluated c.args.self.now.depth in
    let s = c.args.state.now in
    let k = subst (λ b. IsTrue b) (ap (λ x. fits x scope) c.in-Postfix.is ∙ fits_Postfix scope _ _) f in
    let h = subst (λ x. DoesWhere (λ k. fits x k && tails_fit c.as_slice-in-Postfix.result.now k) (λ k. spec.postfix_value inner k (source x) (tail_sources c.as_slice-in-Postfix.result.now)) s c.postfix_value.result c.postfix_value.new.state) c.get-in-Postfix.ensures c.postfix_value.ensures in
    let h = subst (λ x. DoesWhere (λ k. fits c.in-Postfix.first k && tails_fit x k) (λ k. spec.postfix_value inner k (source c.in-Postfix.first) (tail_sources x)) s c.postfix_value.result c.postfix_value.new.state) c.as_slice-in-Postfix.ensures h in
    does_as _ _ (ap (λ x. spec.node inner scope (source x) s) c.in-Postfix.is ∙ node_Postfix inner scope s _ _) (h scope k)

pub returns-in-Chain : goal.returns-in-Chain
returns-in-Chain g c = λ scope f.
    let inner = evaluated c.args.self.now.depth in
    let s = c.args.state.now in
    let k = subst (λ b. IsTrue b) (ap (λ x. fits x scope) c.in-Chain.is ∙ fits_Chain scope _ _) f in
    let h = subst (λ x. DoesWhere (λ k. fits x k && operands_fit c.as_slice-in-Chain.result.now k) (λ k. spec.chain inner k (source x) (operand_sources c.as_slice-in-Chain.result.now)) s c.chain.result c.chain.new.state) c.get-in-Chain.ensures c.chain.ensures in
    let h = subst (λ x. DoesWhere (λ k. fits c.in-Chain.first k && operands_fit x k) (λ k. spec.chain inner k (source c.in-Chain.first) (operand_sources x)) s c.chain.result c.chain.new.state) c.as_slice-in-Chain.ensures h in
    does_as _ _ (ap (λ x. spec.node inner scope (source x) s) c.in-Chain.is ∙ node_Chain inner scope s _ _) (h scope k)

pub returns-in-Choice : goal.returns-in-Choice
returns-in-Choice g c = λ scope f.
    let inner = evaluated c.args.self.now.depth in
    let s = c.args.state.now in
    let k = subst (λ b. IsTrue b) (ap (λ x. fits x scope) c.in-Choice.is ∙ fits_Choice scope _ _ _) f in
    let h = subst (λ x. DoesWhere (λ k. fits x k && (fits c.get-in-Choice-2.result.now k && fits c.get-in-Choice-3.result.now k)) (λ k. spec.choice inner k (source x) (source c.get-in-Choice-2.result.now) (source c.get-in-Choice-3.result.now)) s c.choice.result c.choice.new.state) c.get-in-Choice.ensures c.choice.ensures in
    let h = subst (λ x. DoesWhere (λ k. fits c.in-Choice.condition k && (fits x k && fits c.get-in-Choice-3.result.now k)) (λ k. spec.choice inner k (source c.in-Choice.condition) (source x) (source c.get-in-Choice-3.result.now)) s c.choice.result c.choice.new.state) c.get-in-Choice-2.ensures h in
    let h = subst (λ x. DoesWhere (λ k. fits c.in-Choice.condition k && (fits c.in-Choice.first k && fits x k)) (λ k. spec.choice inner k (source c.in-Choice.condition) (source c.in-Choice.first) (source x)) s c.choice.result c.choice.new.state) c.get-in-Choice-3.ensures h in
    does_as _ _ (ap (λ x. spec.node inner scope (source x) s) c.in-Choice.is ∙ node_Choice inner scope s _ _ _) (h scope k)
