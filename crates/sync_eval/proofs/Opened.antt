-- What statements do, by the rule of the statement that the code is of.
use Rattle.std.proofs.Common.{◌≡◌, ◌&&◌, ℕ, List, Option, ap, rules}
use Rattle.sync_tokens.specs.declared.place.Place.{Place}
use Rattle.sync_syntax.specs.declared.tree.Declares.{Declares}
use Rattle.sync_syntax.specs.declared.tree.Statement.{Statement, out-Statement}
use Rattle.sync_syntax.specs.declared.tree.Statement as statements
use Rattle.sync_syntax.specs.declared.tree.Statement.TheOpen.{Statement-F}
use Rattle.sync_meaning.specs.declared.completion.Completion.{Completion}
use Rattle.sync_meaning.specs.declared.completion.Completion.TheVariants.{Normal, Break, Continue}
use Rattle.sync_meaning.specs.declared.scope.Scope.{Scope}
use Rattle.sync_meaning.specs.declared.state.State.{State}
use Rattle.sync_meaning.specs.Acts.{Act, and_then, pure}
use Rattle.sync_meaning.specs.Statements as spec
use Rattle.sync_meaning.specs.Variables.{declared, started}
use Rattle.sync_code.specs.declared.code.Begin.{Begin}
use Rattle.sync_code.specs.declared.code.Code.{Code}
use Rattle.sync_code.specs.declared.code.Held.{Held}
use Rattle.sync_code.specs.declared.code.Opening.{Opening}
use Rattle.sync_code.specs.declared.code.Plain.{Plain}
use Rattle.sync_code.specs.declared.code.Step.{Step}
use Rattle.sync_code.specs.declared.code.Step as steps
use Rattle.sync_code.specs.declared.code.Step.TheVariants as t
use Rattle.sync_code.specs.Code.{source, source_or_none, fits, fits_or_none}
use Rattle.sync_code.specs.Steps.{opening_source, plain_source, begin_or_none, plain_or_none, held_source, step_source, step_fits, step_sources, steps_fit, other_of, other_source, other_said, opening_fits, plain_fits, begin_or_none_fits, rounds_fit, new_fits}

-- what runs a statement inside
abbrev pub Inner : Type 0
Inner = Scope → Statement → Act Completion

pub open_Block : (depth : ℕ) (inner : Inner) (scope : Scope) (s : State) (p : Place) (ss : List Step)
    → spec.run_statement depth inner scope (step_source (t.Block p ss)) s ≡ spec.block depth inner scope p (step_sources ss) s
unfolding spec.run_statement
open_Block depth inner scope s p ss =
    let layer : out-Statement (step_source (t.Block p ss)) ≡ Statement-F.Block p (step_sources ss) = search (rules, steps.the_lemmas, statements.the_lemmas) in
    ap (λ z. spec.statement_at depth inner scope z s) layer

pub open_Empty : (depth : ℕ) (inner : Inner) (scope : Scope) (s : State) (p : Place)
    → spec.run_statement depth inner scope (step_source (t.Empty p)) s ≡ spec.jump p Normal s
unfolding spec.run_statement
open_Empty depth inner scope s p =
    let layer : out-Statement (step_source (t.Empty p)) ≡ Statement-F.Empty p = search (rules, steps.the_lemmas, statements.the_lemmas) in
    ap (λ z. spec.statement_at depth inner scope z s) layer

pub open_Declare : (depth : ℕ) (inner : Inner) (scope : Scope) (s : State) (d : Opening)
    → spec.run_statement depth inner scope (step_source (t.Declare d)) s ≡ and_then (spec.declare depth scope (opening_source d) s) (λ _. pure Normal)
unfolding spec.run_statement
open_Declare depth inner scope s d =
    let layer : out-Statement (step_source (t.Declare d)) ≡ Statement-F.Declare (opening_source d) = search (rules, steps.the_lemmas, statements.the_lemmas) in
    ap (λ z. spec.statement_at depth inner scope z s) layer

pub open_If : (depth : ℕ) (inner : Inner) (scope : Scope) (s : State) (p : Place) (e : Code) (x : Step) (y : Option Step)
    → spec.run_statement depth inner scope (step_source (t.If p e x y)) s ≡ spec.choose depth inner scope p (source e) (step_source x) (other_source (other_of y)) s
unfolding spec.run_statement
open_If depth inner scope s p e x y =
    let layer : out-Statement (step_source (t.If p e x y)) ≡ Statement-F.If p (source e) (step_source x) (other_source (other_of y)) = search (rules, steps.the_lemmas, statements.the_lemmas) in
    ap (λ z. spec.statement_at depth inner scope z s) layer

pub open_For : (depth : ℕ) (inner : Inner) (scope : Scope) (s : State) (p : Place) (b : Option Begin) (e : Option Code) (l : Option Plain) (x : Step)
    → spec.run_statement depth inner scope (step_source (t.For p b e l x)) s ≡ spec.loop_while depth inner scope p (begin_or_none b) (source_or_none e) (plain_or_none l) (step_source x) s
unfolding spec.run_statement
open_For depth inner scope s p b e l x =
    let layer : out-Statement (step_source (t.For p b e l x)) ≡ Statement-F.For p (begin_or_none b) (source_or_none e) (plain_or_none l) (step_source x) = search (rules, steps.the_lemmas, statements.the_lemmas) in
    ap (λ z. spec.statement_at depth inner scope z s) layer

pub open_ForOf : (depth : ℕ) (inner : Inner) (scope : Scope) (s : State) (p : Place) (how : Declares) (h : Held) (e : Code) (x : Step)
    → spec.run_statement depth inner scope (step_source (t.ForOf p how h e x)) s ≡ spec.loop_of depth inner scope p how (held_source h) (source e) (step_source x) s
unfolding spec.run_statement
open_ForOf depth inner scope s p how h e x =
    let layer : out-Statement (step_source (t.ForOf p how h e x)) ≡ Statement-F.ForOf p how (held_source h) (source e) (step_source x) = search (rules, steps.the_lemmas, statements.the_lemmas) in
    ap (λ z. spec.statement_at depth inner scope z s) layer

pub open_Return : (depth : ℕ) (inner : Inner) (scope : Scope) (s : State) (p : Place) (e : Option Code)
    → spec.run_statement depth inner scope (step_source (t.Return p e)) s ≡ spec.returned depth scope p (source_or_none e) s
unfolding spec.run_statement
open_Return depth inner scope s p e =
    let layer : out-Statement (step_source (t.Return p e)) ≡ Statement-F.Return p (source_or_none e) = search (rules, steps.the_lemmas, statements.the_lemmas) in
    ap (λ z. spec.statement_at depth inner scope z s) layer

pub open_Throw : (depth : ℕ) (inner : Inner) (scope : Scope) (s : State) (p : Place) (e : Code)
    → spec.run_statement depth inner scope (step_source (t.Throw p e)) s ≡ spec.throw depth scope p (source e) s
unfolding spec.run_statement
open_Throw depth inner scope s p e =
    let layer : out-Statement (step_source (t.Throw p e)) ≡ Statement-F.Throw p (source e) = search (rules, steps.the_lemmas, statements.the_lemmas) in
    ap (λ z. spec.statement_at depth inner scope z s) layer

pub open_Break : (depth : ℕ) (inner : Inner) (scope : Scope) (s : State) (p : Place)
    → spec.run_statement depth inner scope (step_source (t.Break p)) s ≡ spec.jump p Break s
unfolding spec.run_statement
open_Break depth inner scope s p =
    let layer : out-Statement (step_source (t.Break p)) ≡ Statement-F.Break p = search (rules, steps.the_lemmas, statements.the_lemmas) in
    ap (λ z. spec.statement_at depth inner scope z s) layer

pub open_Continue : (depth : ℕ) (inner : Inner) (scope : Scope) (s : State) (p : Place)
    → spec.run_statement depth inner scope (step_source (t.Continue p)) s ≡ spec.jump p Continue s
unfolding spec.run_statement
open_Continue depth inner scope s p =
    let layer : out-Statement (step_source (t.Continue p)) ≡ Statement-F.Continue p = search (rules, steps.the_lemmas, statements.the_lemmas) in
    ap (λ z. spec.statement_at depth inner scope z s) layer

pub open_Simple : (depth : ℕ) (inner : Inner) (scope : Scope) (s : State) (x : Plain)
    → spec.run_statement depth inner scope (step_source (t.Simple x)) s ≡ and_then (spec.simple depth scope (plain_source x) s) (λ _. pure Normal)
unfolding spec.run_statement
open_Simple depth inner scope s x =
    let layer : out-Statement (step_source (t.Simple x)) ≡ Statement-F.Simple (plain_source x) = search (rules, steps.the_lemmas, statements.the_lemmas) in
    ap (λ z. spec.statement_at depth inner scope z s) layer

-- ---- whether it fits

pub fits_Block : (scope : Scope) (p : Place) (ss : List Step) → step_fits (t.Block p ss) scope ≡ steps_fit ss scope
fits_Block scope p ss = search (rules, steps.the_lemmas)

pub fits_Declare : (scope : Scope) (d : Opening) → step_fits (t.Declare d) scope ≡ opening_fits d scope
fits_Declare scope d = search (rules, steps.the_lemmas)

pub fits_If : (scope : Scope) (p : Place) (e : Code) (x : Step) (y : Option Step) → step_fits (t.If p e x y) scope ≡ (fits e scope && (step_fits x scope && other_said (step_source x) (other_of y) scope))
fits_If scope p e x y = search (rules, steps.the_lemmas)

pub fits_For : (scope : Scope) (p : Place) (b : Option Begin) (e : Option Code) (l : Option Plain) (x : Step) → step_fits (t.For p b e l x) scope ≡ (begin_or_none_fits b scope && rounds_fit e l (step_fits x) (started (begin_or_none b) scope))
fits_For scope p b e l x = search (rules, steps.the_lemmas)

pub fits_ForOf : (scope : Scope) (p : Place) (how : Declares) (h : Held) (e : Code) (x : Step) → step_fits (t.ForOf p how h e x) scope ≡ (new_fits how h scope && (fits e scope && step_fits x (declared how h.slot.name scope)))
fits_ForOf scope p how h e x = search (rules, steps.the_lemmas)

pub fits_Return : (scope : Scope) (p : Place) (e : Option Code) → step_fits (t.Return p e) scope ≡ fits_or_none e scope
fits_Return scope p e = search (rules, steps.the_lemmas)

pub fits_Throw : (scope : Scope) (p : Place) (e : Code) → step_fits (t.Throw p e) scope ≡ fits e scope
fits_Throw scope p e = search (rules, steps.the_lemmas)

pub fits_Simple : (scope : Scope) (x : Plain) → step_fits (t.Simple x) scope ≡ plain_fits x scope
fits_Simple scope x = search (rules, steps.the_lemmas)
