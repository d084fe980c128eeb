use Rattle.std.proofs.Common.{◌∙◌, ap, sym}
use Rattle.sync_meaning.specs.Expressions as spec
use Rattle.sync_code.specs.Code.{source}
use Rattle.sync_eval.proofs.Places.{place_Undefined, place_Null, place_Bool, place_Integer, place_Text, place_Name, place_List, place_Object, place_Prefix, place_Postfix, place_Chain, place_Choice}
use Rattle.sync_eval.proofs.expression.+place_of.Goals as goal

pub returns-in-Undefined : goal.returns-in-Undefined
returns-in-Undefined t c = sym (ap (λ x. spec.place_of (source x)) c.in-Undefined.is ∙ place_Undefined _)

pub returns-in-Null : goal.returns-in-Null
returns-in-Null t c = sym (ap (λ x. spec.place_of (source x)) c.in-Null.is ∙ place_Null _)

pub returns-in-Bool : goal.returns-in-Bool
returns-in-Bool t c = sym (ap (λ x. spec.place_of (source x)) c.in-Bool.is ∙ place_Bool _ _)

pub returns-in-Integer : goal.returns-in-Integer
returns-in-Integer t c = sym (ap (λ x. spec.place_of (source x)) c.in-Integer.is ∙ place_Integer _ _)

pub returns-in-Text : goal.returns-in-Text
returns-in-Text t c = sym (ap (λ x. spec.place_of (source x)) c.in-Text.is ∙ place_Text _ _)

pub returns-in-Name : goal.returns-in-Name
returns-in-Name t c = sym (ap (λ x. spec.place_of (source x)) c.in-Name.is ∙ place_Name _ _)

pub returns-in-List : goal.returns-in-List
returns-in-List t c = sym (ap (λ x. spec.place_of (source x)) c.in-List.is ∙ place_List _ _)

pub returns-in-Object : goal.returns-in-Object
returns-in-Object t c = sym (ap (λ x. spec.place_of (source x)) c.in-Object.is ∙ place_Object _ _)

pub returns-in-Prefix : goal.returns-in-Prefix
returns-in-Prefix t c = sym (ap (λ x. spec.place_of (source x)) c.in-Prefix.is ∙ place_Prefix _ _ _)

pub returns-in-Postfix : goal.returns-in-Postfix
returns-in-Postfix t c =
    c.place_of.ensures ∙ ap (λ x. spec.place_of (source x)) c.get.ensures
    ∙ sym (ap (λ x. spec.place_of (source x)) c.in-Postfix.is ∙ place_Postfix _ _)

pub returns-in-Chain : goal.returns-in-Chain
returns-in-Chain t c =
    c.place_of-in-Chain.ensures ∙ ap (λ x. spec.place_of (source x)) c.get-in-Chain.ensures
    ∙ sym (ap (λ x. spec.place_of (source x)) c.in-Chain.is ∙ place_Chain _ _)

pub returns-in-Choice : goal.returns-in-Choice
returns-in-Choice t c =
    c.place_of-in-Choice.ensures ∙ ap (λ x. spec.place_of (source x)) c.get-in-Choice.ensures
    ∙ sym (ap (λ x. spec.place_of (source x)) c.in-Choice.is ∙ place_Choice _ _ _)
