use Rattle.std.proofs.Common.{◌∙◌, ap, sym}
use Rattle.sync_syntax.specs.declared.tree.Statement.{out-Statement}
use Rattle.sync_meaning.specs.Statements as spec
use Rattle.sync_code.specs.Steps.{step_source}
use Rattle.sync_eval.proofs.Places.{step_place_Block, step_place_Empty, step_place_Declare, step_place_If, step_place_For, step_place_ForOf, step_place_Return, step_place_Throw, step_place_Break, step_place_Continue, step_place_Simple}
use Rattle.sync_eval.proofs.statement.statement_place.Goals as goal

pub returns-in-Block : goal.returns-in-Block
unfolding spec.statement_place
returns-in-Block c = sym (ap (λ x. spec.place_at (out-Statement (step_source x))) c.in-Block.is ∙ step_place_Block _ _)

pub returns-in-Empty : goal.returns-in-Empty
unfolding spec.statement_place
returns-in-Empty c = sym (ap (λ x. spec.place_at (out-Statement (step_source x))) c.in-Empty.is ∙ step_place_Empty _)

pub returns-in-Declare : goal.returns-in-Declare
unfolding spec.statement_place
returns-in-Declare c = sym (ap (λ x. spec.place_at (out-Statement (step_source x))) c.in-Declare.is ∙ step_place_Declare _)

pub returns-in-If : goal.returns-in-If
unfolding spec.statement_place
returns-in-If c = sym (ap (λ x. spec.place_at (out-Statement (step_source x))) c.in-If.is ∙ step_place_If _ _ _ _)

pub returns-in-For : goal.returns-in-For
unfolding spec.statement_place
returns-in-For c = sym (ap (λ x. spec.place_at (out-Statement (step_source x))) c.in-For.is ∙ step_place_For _ _ _ _ _)

pub returns-in-ForOf : goal.returns-in-ForOf
unfolding spec.statement_place
returns-in-ForOf c = sym (ap (λ x. spec.place_at (out-Statement (step_source x))) c.in-ForOf.is ∙ step_place_ForOf _ _ _ _ _)

pub returns-in-Return : goal.returns-in-Return
unfolding spec.statement_place
returns-in-Return c = sym (ap (λ x. spec.place_at (out-Statement (step_source x))) c.in-Return.is ∙ step_place_Return _ _)

pub returns-in-Throw : goal.returns-in-Throw
unfolding spec.statement_place
returns-in-Throw c = sym (ap (λ x. spec.place_at (out-Statement (step_source x))) c.in-Throw.is ∙ step_place_Throw _ _)

pub returns-in-Break : goal.returns-in-Break
unfolding spec.statement_place
returns-in-Break c = sym (ap (λ x. spec.place_at (out-Statement (step_source x))) c.in-Break.is ∙ step_place_Break _)

pub returns-in-Continue : goal.returns-in-Continue
unfolding spec.statement_place
returns-in-Continue c = sym (ap (λ x. spec.place_at (out-Statement (step_source x))) c.in-Continue.is ∙ step_place_Continue _)

pub returns-in-Simple : goal.returns-in-Simple
unfolding spec.statement_place
returns-in-Simple c = c.place_of_simple.ensures ∙ sym (ap (λ x. spec.place_at (out-Statement (step_source x))) c.in-Simple.is ∙ step_place_Simple _)
