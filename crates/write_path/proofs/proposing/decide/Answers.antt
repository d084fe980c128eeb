use Rattle.std.proofs.Common.{◌∙◌, Result, Ok, Err, sym, subst}
use Rattle.std.specs.Option.{option_copied}
use Rattle.doc_board.specs.declared.outcome.Outcome.{Outcome}
use Rattle.doc_board.specs.Answers.{recorded_with}
use Rattle.doc_board.specs.Boards.{board_of, board_tree}
use Rattle.doc_board.specs.State.{State}
use Rattle.board_steps.specs.declared.accepted.Judged.{Judged}
use Rattle.board_steps.specs.Tried.{IsJudgedAt}
use Rattle.write_path.proofs.ProposalTurns.{decided_at}
use Rattle.write_path.proofs.proposing.decide.Goals as goal

pub accepted_of-requires-clause-tree : goal.accepted_of-requires-clause-tree
accepted_of-requires-clause-tree g c none =
    let s : State = c.extension_in_turn-pass.ensures.judged.0 in
    let at : IsJudgedAt s c.args.strict (option_copied c.args.by) c.args.revision.now (Ok c.in-Ok.judged) =
    subst (λ (x : Result Judged Outcome). IsJudgedAt s c.args.strict (option_copied c.args.by) c.args.revision.now x) c.in-Ok.is c.extension_in_turn-pass.ensures.judged.2 in
    c.extensions.ensures.some (board_tree (board_of s) c.args.revision.now.doc) (recorded_with c.args.revision.now c.in-Ok.judged.kept) (sym at.extends.tree.tree ∙ none)

pub returns-in-Ok-clause-decided : goal.returns-in-Ok-clause-decided
returns-in-Ok-clause-decided g c =
    let s : State = c.extension_in_turn-pass.ensures.judged.0 in
    let at : IsJudgedAt s c.args.strict (option_copied c.args.by) c.args.revision.now (Ok c.in-Ok.judged) =
    subst (λ (x : Result Judged Outcome). IsJudgedAt s c.args.strict (option_copied c.args.by) c.args.revision.now x) c.in-Ok.is c.extension_in_turn-pass.ensures.judged.2 in
    (s, c.extension_in_turn-pass.ensures.judged.1, decided_at s c.args.program.now c.args.strict (option_copied c.args.by) c.args.revision.now c.in-Ok.judged at c.accepted_of.result c.accepted_of.ensures.from c.accepted_of.ensures.parts c.accepted_of.ensures.effects c.accepted_of.ensures.said c.accepted_of.ensures.denied)

pub returns-in-Err-clause-decided : goal.returns-in-Err-clause-decided
returns-in-Err-clause-decided g c =
    let s : State = c.extension_in_turn-pass.ensures.judged.0 in
    let at : IsJudgedAt s c.args.strict (option_copied c.args.by) c.args.revision.now (Err c.in-Err.outcome) =
    subst (λ (x : Result Judged Outcome). IsJudgedAt s c.args.strict (option_copied c.args.by) c.args.revision.now x) c.in-Err.is c.extension_in_turn-pass.ensures.judged.2 in
    (s, c.extension_in_turn-pass.ensures.judged.1, record { accepted = tt; down = at.stopped c.args.program.now })
