-- The places of expressions and statements, by their code.
use Rattle.std.proofs.Common.{◌≡◌, ℕ, Bool, List, Option, rules}
use Rattle.sync_tokens.specs.declared.place.Place.{Place}
use Rattle.sync_syntax.specs.declared.tree.Declares.{Declares}
use Rattle.sync_syntax.specs.declared.tree.Expr as exprs
use Rattle.sync_syntax.specs.declared.tree.Operator.{Operator}
use Rattle.sync_syntax.specs.declared.tree.Prefix.{Prefix}
use Rattle.sync_syntax.specs.declared.tree.Statement.{out-Statement}
use Rattle.sync_syntax.specs.declared.tree.Statement as statements
use Rattle.sync_meaning.specs.declared.variables.Literal.{Literal}
use Rattle.sync_meaning.specs.declared.variables.Slot.{Slot}
use Rattle.sync_meaning.specs.Expressions as e
use Rattle.sync_meaning.specs.Statements as s
use Rattle.sync_code.specs.declared.code.Begin.{Begin}
use Rattle.sync_code.specs.declared.code.Code.{Code}
use Rattle.sync_code.specs.declared.code.Code as codes
use Rattle.sync_code.specs.declared.code.Code.TheVariants as c
use Rattle.sync_code.specs.declared.code.Held.{Held}
use Rattle.sync_code.specs.declared.code.Opening.{Opening}
use Rattle.sync_code.specs.declared.code.Plain.{Plain}
use Rattle.sync_code.specs.declared.code.Step.{Step}
use Rattle.sync_code.specs.declared.code.Step as steps
use Rattle.sync_code.specs.declared.code.Step.TheVariants as t
use Rattle.sync_code.specs.declared.code.Tail.{Tail}
use Rattle.sync_code.specs.Code.{source}
use Rattle.sync_code.specs.Steps.{step_source, plain_source}

pub place_Undefined : (p : Place) → e.place_of (source (c.Undefined p)) ≡ p
place_Undefined p = search (rules, codes.the_lemmas, exprs.the_lemmas)

pub place_Null : (p : Place) → e.place_of (source (c.Null p)) ≡ p
place_Null p = search (rules, codes.the_lemmas, exprs.the_lemmas)

pub place_Bool : (p : Place) (b : Bool) → e.place_of (source (c.Bool p b)) ≡ p
place_Bool p b = search (rules, codes.the_lemmas, exprs.the_lemmas)

pub place_Integer : (p : Place) (n : ℕ) → e.place_of (source (c.Integer p n)) ≡ p
place_Integer p n = search (rules, codes.the_lemmas, exprs.the_lemmas)

pub place_Text : (p : Place) (x : Literal) → e.place_of (source (c.Text p x)) ≡ p
place_Text p x = search (rules, codes.the_lemmas, exprs.the_lemmas)

pub place_Name : (p : Place) (x : Slot) → e.place_of (source (c.Name p x)) ≡ p
place_Name p x = search (rules, codes.the_lemmas, exprs.the_lemmas)

pub place_List : (p : Place) (es : List Code) → e.place_of (source (c.List p es)) ≡ p
place_List p es = search (rules, codes.the_lemmas, exprs.the_lemmas)

pub place_Object : (p : Place) (ms : List (List ℕ × Code)) → e.place_of (source (c.Object p ms)) ≡ p
place_Object p ms = search (rules, codes.the_lemmas, exprs.the_lemmas)

pub place_Prefix : (p : Place) (o : Prefix) (x : Code) → e.place_of (source (c.Prefix p o x)) ≡ p
place_Prefix p o x = search (rules, codes.the_lemmas, exprs.the_lemmas)

pub place_Postfix : (x : Code) (ss : List Tail) → e.place_of (source (c.Postfix x ss)) ≡ e.place_of (source x)
place_Postfix x ss = search (rules, codes.the_lemmas, exprs.the_lemmas)

pub place_Chain : (x : Code) (os : List (Operator × Code)) → e.place_of (source (c.Chain x os)) ≡ e.place_of (source x)
place_Chain x os = search (rules, codes.the_lemmas, exprs.the_lemmas)

pub place_Choice : (x : Code) (y : Code) (z : Code) → e.place_of (source (c.Choice x y z)) ≡ e.place_of (source x)
place_Choice x y z = search (rules, codes.the_lemmas, exprs.the_lemmas)

pub step_place_Block : (p : Place) (ss : List Step) → s.place_at (out-Statement (step_source (t.Block p ss))) ≡ p
step_place_Block p ss = search (rules, steps.the_lemmas, statements.the_lemmas)

pub step_place_Empty : (p : Place) → s.place_at (out-Statement (step_source (t.Empty p))) ≡ p
step_place_Empty p = search (rules, steps.the_lemmas, statements.the_lemmas)

pub step_place_Declare : (d : Opening) → s.place_at (out-Statement (step_source (t.Declare d))) ≡ d.place
step_place_Declare d = search (rules, steps.the_lemmas, statements.the_lemmas)

pub step_place_If : (p : Place) (x : Code) (y : Step) (z : Option Step) → s.place_at (out-Statement (step_source (t.If p x y z))) ≡ p
step_place_If p x y z = search (rules, steps.the_lemmas, statements.the_lemmas)

pub step_place_For : (p : Place) (b : Option Begin) (x : Option Code) (l : Option Plain) (y : Step) → s.place_at (out-Statement (step_source (t.For p b x l y))) ≡ p
step_place_For p b x l y = search (rules, steps.the_lemmas, statements.the_lemmas)

pub step_place_ForOf : (p : Place) (how : Declares) (h : Held) (x : Code) (y : Step) → s.place_at (out-Statement (step_source (t.ForOf p how h x y))) ≡ p
step_place_ForOf p how h x y = search (rules, steps.the_lemmas, statements.the_lemmas)

pub step_place_Return : (p : Place) (x : Option Code) → s.place_at (out-Statement (step_source (t.Return p x))) ≡ p
step_place_Return p x = search (rules, steps.the_lemmas, statements.the_lemmas)

pub step_place_Throw : (p : Place) (x : Code) → s.place_at (out-Statement (step_source (t.Throw p x))) ≡ p
step_place_Throw p x = search (rules, steps.the_lemmas, statements.the_lemmas)

pub step_place_Break : (p : Place) → s.place_at (out-Statement (step_source (t.Break p))) ≡ p
step_place_Break p = search (rules, steps.the_lemmas, statements.the_lemmas)

pub step_place_Continue : (p : Place) → s.place_at (out-Statement (step_source (t.Continue p))) ≡ p
step_place_Continue p = search (rules, steps.the_lemmas, statements.the_lemmas)

pub step_place_Simple : (x : Plain) → s.place_at (out-Statement (step_source (t.Simple x))) ≡ s.place_of_simple (plain_source x)
step_place_Simple x = search (rules, steps.the_lemmas, statements.the_lemmas)
