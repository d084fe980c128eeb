use Rattle.std.proofs.lemmas.Result.{IfOk-weaker, IfErr-weaker}
use Rattle.std.specs.Option.{option_copied}
use Rattle.rev_tree.specs.Extension.{extends_tree}
use Rattle.doc_board.specs.declared.outcome.Outcome.{Outcome}
use Rattle.doc_board.specs.Boards.{board_of}
use Rattle.doc_board.specs.Outcomes.{IsJudged, IsOutcome}
use Rattle.board_steps.specs.declared.accepted.Judged.{Judged}
use Rattle.board_steps.specs.Retry.{IsTurnedDown}
use Rattle.board_steps.specs.Verdicts.{IsExtension, IsExtensionAt, IsStoppedBy}
use Rattle.board_steps.proofs.Decided.{extends_at, judged_at, stopped}
use Rattle.board_steps.proofs.propose.extension_of.Goals as goal

pub returns-in-Ok-clause-extends : goal.returns-in-Ok-clause-extends
returns-in-Ok-clause-extends c =
    IfOk-weaker c.extension_in.result (IsExtension c.in-Ok.snapshot) (IsExtensionAt c.args.board.now (option_copied c.args.by) c.args.revision.now)
    (extends_at c.args.board.now c.args.strict (option_copied c.args.by) c.args.revision.now c.in-Ok.snapshot c.in-Ok.ensures.snapshot c.few_ancestors.ensures) c.extension_in.ensures.extends

pub returns-in-Ok-clause-judged : goal.returns-in-Ok-clause-judged
returns-in-Ok-clause-judged c =
    IfOk-weaker c.extension_in.result (IsExtension c.in-Ok.snapshot) (λ (j : Judged). IsJudged c.args.strict (option_copied c.args.by) c.args.revision.now (board_of c.args.board.now) extends_tree j.at)
    (judged_at c.args.board.now c.args.strict (option_copied c.args.by) c.args.revision.now c.in-Ok.snapshot c.in-Ok.ensures.snapshot c.requires) c.extension_in.ensures.extends

pub returns-in-Ok-clause-stopped : goal.returns-in-Ok-clause-stopped
returns-in-Ok-clause-stopped c = λ program.
    IfErr-weaker c.extension_in.result (IsStoppedBy c.in-Ok.snapshot.at c.in-Ok.snapshot.user_exists c.in-Ok.snapshot.step) (λ (o : Outcome). IsOutcome program c.args.strict (option_copied c.args.by) c.args.revision.now (board_of c.args.board.now) o × IsTurnedDown o)
    (stopped c.args.board.now c.args.strict (option_copied c.args.by) c.args.revision.now c.in-Ok.snapshot c.in-Ok.ensures.snapshot c.requires program) c.extension_in.ensures.stopped
