use Rattle.std.proofs.Common.{◌≡◌, Ok, sym, subst}
use Rattle.std.proofs.lemmas.Result.{IfOk-weaker, IfErr-weaker}
use Rattle.std.specs.Option.{option_copied}
use Rattle.sync_meaning.specs.declared.effects.Effects.{Effects}
use Rattle.sync_meaning.specs.Laws.{AreEffects}
use Rattle.doc_board.specs.declared.outcome.Outcome.{Outcome}
use Rattle.doc_board.specs.declared.outcome.Outcome.TheVariants.{Memory507}
use Rattle.board_steps.specs.declared.accepted.Accepted.{Accepted}
use Rattle.board_steps.specs.Accepted.{ArePartsOf, IsAcceptedOn}
use Rattle.board_steps.specs.Verdicts.{IsDeniedOn, IsSaidOn}
use Rattle.board_steps.proofs.Decided.{memory_denied}
use Rattle.board_steps.proofs.JudgedBy.{accepted_effects}
use Rattle.board_steps.proofs.accepted.accepted_of.Goals as goal

pub returns-in-Ok-clause-from : goal.returns-in-Ok-clause-from
returns-in-Ok-clause-from c = IfOk-weaker c.accepted_with.result _ (IsAcceptedOn c.args.judged) (λ a h. h.0) c.accepted_with.ensures.accepted

pub returns-in-Ok-clause-parts : goal.returns-in-Ok-clause-parts
returns-in-Ok-clause-parts c =
    IfOk-weaker c.accepted_with.result _ (λ (a : Accepted). ArePartsOf (option_copied c.args.by) c.args.revision.now.body c.args.judged.tree a.parts) (λ a h. h.2) c.accepted_with.ensures.accepted

pub returns-in-Ok-clause-effects : goal.returns-in-Ok-clause-effects
returns-in-Ok-clause-effects c =
    IfOk-weaker c.accepted_with.result _ (λ (a : Accepted). AreEffects a.effects)
    (λ a h. subst (λ (e : Effects). AreEffects e) (sym h.1) (accepted_effects c.effects.ensures c.args.program.now c.args.revision.now c.args.judged.basis c.in-Ok.effects c.in-Ok.ensures.accepted))
    c.accepted_with.ensures.accepted

pub returns-in-Ok-clause-said : goal.returns-in-Ok-clause-said
returns-in-Ok-clause-said c =
    IfOk-weaker c.accepted_with.result _ (λ (a : Accepted). IsSaidOn c.args.program.now c.args.revision.now c.args.judged.basis (Ok a.effects))
    (λ a h. subst (λ (e : Effects). IsSaidOn c.args.program.now c.args.revision.now c.args.judged.basis (Ok e)) (sym h.1) c.in-Ok.ensures.accepted)
    c.accepted_with.ensures.accepted

pub returns-in-Ok-clause-denied : goal.returns-in-Ok-clause-denied
returns-in-Ok-clause-denied c =
    IfErr-weaker c.accepted_with.result (λ (o : Outcome). o ≡ Memory507) (IsDeniedOn c.args.program.now c.args.revision.now c.args.judged.basis c.args.judged.at)
    (memory_denied c.args.program.now c.args.revision.now c.args.judged.basis c.args.judged.at) c.accepted_with.ensures.memory
