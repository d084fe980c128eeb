-- What code evaluates to, by the rule of the expression that it is the code of.
use Rattle.std.proofs.Common.{◌≡◌, ◌&&◌, ℕ, Bool, true, List, Ok, ap, sym, subst, rules, pos}
use Rattle.sync_tokens.specs.declared.place.Place.{Place}
use Rattle.sync_syntax.specs.declared.tree.Expr.{Expr, out-Expr}
use Rattle.sync_syntax.specs.declared.tree.Expr as exprs
use Rattle.sync_syntax.specs.declared.tree.Expr.TheOpen.{Expr-F, Suffix-F}
use Rattle.sync_syntax.specs.declared.tree.Operator.{Operator}
use Rattle.sync_syntax.specs.declared.tree.Prefix.{Prefix}
use Rattle.sync_syntax.specs.declared.tree.Suffix.{out-Suffix}
use Rattle.sync_values.specs.declared.callee.Target.{Target}
use Rattle.sync_values.specs.declared.callee.Target.TheVariants as t
use Rattle.sync_values.specs.declared.value.Value.TheVariants as v
use Rattle.sync_values.specs.Found.{Found}
use Rattle.sync_values.specs.Values.{bounded}
use Rattle.sync_meaning.specs.declared.scope.Scope.{Scope}
use Rattle.sync_meaning.specs.declared.state.State.{State}
use Rattle.sync_meaning.specs.declared.variables.Literal.{Literal}
use Rattle.sync_meaning.specs.declared.variables.Slot.{Slot}
use Rattle.sync_meaning.specs.Acts.{Act, and_then, pure, Does}
use Rattle.sync_meaning.specs.Expressions as spec
use Rattle.sync_code.specs.declared.code.Code.{Code}
use Rattle.sync_code.specs.declared.code.Code as codes
use Rattle.sync_code.specs.declared.code.Code.TheVariants as c
use Rattle.sync_code.specs.declared.code.Tail.{Tail}
use Rattle.sync_code.specs.declared.code.Tail.TheVariants as tails
use Rattle.sync_code.specs.Code.{source, sources, tail_source, tail_sources, member_sources, operand_sources, slot_fits, fits, tail_fits, all_fit, tails_fit, members_fit, operands_fit}
use Rattle.sync_eval.proofs.Layers.{name_layer, member_layer}

-- what is done is what an equal outcome says
pub does_as : {A : Type 0} {x y : Found (A × State)} (r : Found A) (new : State) → x ≡ y → Does y r new → Does x r new
does_as r new e d = subst (λ z. Does z r new) (sym e) d

-- what evaluates an expression inside
abbrev pub Inner : Type 0
Inner = Bool → Scope → Expr → Act Target

pub node_Undefined : (inner : Inner) (scope : Scope) (s : State) (p : Place) → spec.node inner scope (source (c.Undefined p)) s ≡ spec.literal p (Ok v.Undefined) s
unfolding spec.node
node_Undefined inner scope s p =
    let l : out-Expr (source (c.Undefined p)) ≡ Expr-F.Undefined p = search (rules, codes.the_lemmas, exprs.the_lemmas) in
    ap (λ x. spec.node_at inner scope x s) l

pub node_Null : (inner : Inner) (scope : Scope) (s : State) (p : Place) → spec.node inner scope (source (c.Null p)) s ≡ spec.literal p (Ok v.Null) s
unfolding spec.node
node_Null inner scope s p =
    let l : out-Expr (source (c.Null p)) ≡ Expr-F.Null p = search (rules, codes.the_lemmas, exprs.the_lemmas) in
    ap (λ x. spec.node_at inner scope x s) l

pub node_Bool : (inner : Inner) (scope : Scope) (s : State) (p : Place) (b : Bool) → spec.node inner scope (source (c.Bool p b)) s ≡ spec.literal p (Ok (v.Bool b)) s
unfolding spec.node
node_Bool inner scope s p b =
    let l : out-Expr (source (c.Bool p b)) ≡ Expr-F.Bool p b = search (rules, codes.the_lemmas, exprs.the_lemmas) in
    ap (λ x. spec.node_at inner scope x s) l

pub node_Integer : (inner : Inner) (scope : Scope) (s : State) (p : Place) (n : ℕ) → spec.node inner scope (source (c.Integer p n)) s ≡ spec.literal p (bounded p (pos n)) s
unfolding spec.node
node_Integer inner scope s p n =
    let l : out-Expr (source (c.Integer p n)) ≡ Expr-F.Integer p n = search (rules, codes.the_lemmas, exprs.the_lemmas) in
    ap (λ x. spec.node_at inner scope x s) l

pub node_Text : (inner : Inner) (scope : Scope) (s : State) (p : Place) (x : Literal) → spec.node inner scope (source (c.Text p x)) s ≡ spec.literal p (Ok (v.Text x.text)) s
unfolding spec.node
node_Text inner scope s p x =
    let l : out-Expr (source (c.Text p x)) ≡ Expr-F.Text p x.text = search (rules, codes.the_lemmas, exprs.the_lemmas) in
    ap (λ z. spec.node_at inner scope z s) l

pub node_Name : (inner : Inner) (scope : Scope) (s : State) (p : Place) (x : Slot) → spec.node inner scope (source (c.Name p x)) s ≡ spec.name scope p x.name s
unfolding spec.node
node_Name inner scope s p x = ap (λ z. spec.node_at inner scope z s) (name_layer p x)

pub node_List : (inner : Inner) (scope : Scope) (s : State) (p : Place) (es : List Code) → spec.node inner scope (source (c.List p es)) s ≡ spec.list inner scope p (sources es) s
unfolding spec.node
node_List inner scope s p es =
    let l : out-Expr (source (c.List p es)) ≡ Expr-F.List p (sources es) = search (rules, codes.the_lemmas, exprs.the_lemmas) in
    ap (λ x. spec.node_at inner scope x s) l

pub node_Object : (inner : Inner) (scope : Scope) (s : State) (p : Place) (ms : List (List ℕ × Code)) → spec.node inner scope (source (c.Object p ms)) s ≡ spec.object inner scope p (member_sources ms) s
unfolding spec.node
node_Object inner scope s p ms =
    let l : out-Expr (source (c.Object p ms)) ≡ Expr-F.Object p (member_sources ms) = search (rules, codes.the_lemmas, exprs.the_lemmas) in
    ap (λ x. spec.node_at inner scope x s) l

pub node_Prefix : (inner : Inner) (scope : Scope) (s : State) (p : Place) (o : Prefix) (e : Code) → spec.node inner scope (source (c.Prefix p o e)) s ≡ spec.prefix inner scope p o (source e) s
unfolding spec.node
node_Prefix inner scope s p o e =
    let l : out-Expr (source (c.Prefix p o e)) ≡ Expr-F.Prefix p o (source e) = search (rules, codes.the_lemmas, exprs.the_lemmas) in
    ap (λ x. spec.node_at inner scope x s) l

pub postfix_layer : (e : Code) (ss : List Tail) → out-Expr (source (c.Postfix e ss)) ≡ Expr-F.Postfix (source e) (tail_sources ss)
postfix_layer e ss = search (rules, codes.the_lemmas, exprs.the_lemmas)

pub node_Postfix : (inner : Inner) (scope : Scope) (s : State) (e : Code) (ss : List Tail) → spec.node inner scope (source (c.Postfix e ss)) s ≡ spec.postfix_value inner scope (source e) (tail_sources ss) s
unfolding spec.node
node_Postfix inner scope s e ss = ap (λ x. spec.node_at inner scope x s) (postfix_layer e ss)

pub node_Chain : (inner : Inner) (scope : Scope) (s : State) (e : Code) (os : List (Operator × Code)) → spec.node inner scope (source (c.Chain e os)) s ≡ spec.chain inner scope (source e) (operand_sources os) s
unfolding spec.node
node_Chain inner scope s e os =
    let l : out-Expr (source (c.Chain e os)) ≡ Expr-F.Chain (source e) (operand_sources os) = search (rules, codes.the_lemmas, exprs.the_lemmas) in
    ap (λ x. spec.node_at inner scope x s) l

pub node_Choice : (inner : Inner) (scope : Scope) (s : State) (e x y : Code) → spec.node inner scope (source (c.Choice e x y)) s ≡ spec.choice inner scope (source e) (source x) (source y) s
unfolding spec.node
node_Choice inner scope s e x y =
    let l : out-Expr (source (c.Choice e x y)) ≡ Expr-F.Choice (source e) (source x) (source y) = search (rules, codes.the_lemmas, exprs.the_lemmas) in
    ap (λ z. spec.node_at inner scope z s) l

-- ---- whether it fits

pub fits_Name : (scope : Scope) (p : Place) (x : Slot) → fits (c.Name p x) scope ≡ slot_fits x scope
fits_Name scope p x = search (rules, codes.the_lemmas)

pub fits_List : (scope : Scope) (p : Place) (es : List Code) → fits (c.List p es) scope ≡ all_fit es scope
fits_List scope p es = search (rules, codes.the_lemmas)

pub fits_Object : (scope : Scope) (p : Place) (ms : List (List ℕ × Code)) → fits (c.Object p ms) scope ≡ members_fit ms scope
fits_Object scope p ms = search (rules, codes.the_lemmas)

pub fits_Prefix : (scope : Scope) (p : Place) (o : Prefix) (e : Code) → fits (c.Prefix p o e) scope ≡ fits e scope
fits_Prefix scope p o e = search (rules, codes.the_lemmas)

pub fits_Postfix : (scope : Scope) (e : Code) (ss : List Tail) → fits (c.Postfix e ss) scope ≡ (fits e scope && tails_fit ss scope)
fits_Postfix scope e ss = search (rules, codes.the_lemmas)

pub fits_Chain : (scope : Scope) (e : Code) (os : List (Operator × Code)) → fits (c.Chain e os) scope ≡ (fits e scope && operands_fit os scope)
fits_Chain scope e os = search (rules, codes.the_lemmas)

pub fits_Choice : (scope : Scope) (e x y : Code) → fits (c.Choice e x y) scope ≡ (fits e scope && (fits x scope && fits y scope))
fits_Choice scope e x y = search (rules, codes.the_lemmas)

pub fits_Index : (scope : Scope) (e : Code) → tail_fits (tails.Index e) scope ≡ fits e scope
fits_Index scope e = search (rules, codes.the_lemmas)

pub fits_Call : (scope : Scope) (es : List Code) → tail_fits (tails.Call es) scope ≡ all_fit es scope
fits_Call scope es = search (rules, codes.the_lemmas)

-- ---- what is called, and what stands behind an expression

pub callee_Name : (inner : Inner) (scope : Scope) (s : State) (p : Place) (x : Slot) → spec.callee inner scope (source (c.Name p x)) s ≡ Ok (spec.called_by x.name, s)
unfolding spec.callee
callee_Name inner scope s p x = ap (λ z. spec.callee_at inner scope z s) (name_layer p x)

pub callee_Postfix : (inner : Inner) (scope : Scope) (s : State) (e : Code) (ss : List Tail) → spec.callee inner scope (source (c.Postfix e ss)) s ≡ spec.postfix inner true scope (source e) (tail_sources ss) s
unfolding spec.callee
callee_Postfix inner scope s e ss = ap (λ x. spec.callee_at inner scope x s) (postfix_layer e ss)

pub suffix_Member : (inner : Inner) (called : Bool) (scope : Scope) (p : Place) (x : Target) (s : State) (n : List ℕ)
    → spec.suffix inner called scope p x (tail_source (tails.Member n)) s ≡ spec.member_or_method called p x n s
unfolding spec.suffix
suffix_Member inner called scope p x s n = ap (λ z. spec.suffix_at inner called scope p x z s) (member_layer n)

pub suffix_Index : (inner : Inner) (called : Bool) (scope : Scope) (p : Place) (x : Target) (s : State) (e : Code)
    → spec.suffix inner called scope p x (tail_source (tails.Index e)) s ≡ spec.index inner scope p x (source e) s
unfolding spec.suffix
suffix_Index inner called scope p x s e =
    let l : out-Suffix (tail_source (tails.Index e)) ≡ Suffix-F.Index (source e) = search (rules, codes.the_lemmas, exprs.the_lemmas) in
    ap (λ z. spec.suffix_at inner called scope p x z s) l

pub suffix_Call : (inner : Inner) (called : Bool) (scope : Scope) (p : Place) (x : Target) (s : State) (es : List Code)
    → spec.suffix inner called scope p x (tail_source (tails.Call es)) s ≡ and_then (spec.call inner scope p x (sources es) s) (λ y. pure (t.Value y))
unfolding spec.suffix
suffix_Call inner called scope p x s es =
    let l : out-Suffix (tail_source (tails.Call es)) ≡ Suffix-F.Call (sources es) = search (rules, codes.the_lemmas, exprs.the_lemmas) in
    ap (λ z. spec.suffix_at inner called scope p x z s) l
