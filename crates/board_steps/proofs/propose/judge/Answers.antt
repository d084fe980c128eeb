use Rattle.std.proofs.Common.{sym, ◌∙◌}
use Rattle.std.specs.Option.{option_copied}
use Rattle.doc_board.specs.Answers.{recorded_with}
use Rattle.doc_board.specs.Boards.{board_of, board_tree}
use Rattle.board_steps.proofs.Decided.{accepted_by, denied_at, denied_by, ready_by}
use Rattle.board_steps.proofs.propose.judge.Goals as goal

pub accepted_of-requires-clause-old : goal.accepted_of-requires-clause-old
accepted_of-requires-clause-old c = c.in-Ok.ensures.extends.basis.documents

pub accepted_of-requires-clause-tree : goal.accepted_of-requires-clause-tree
accepted_of-requires-clause-tree c none =
    c.extensions.ensures.some (board_tree (board_of c.args.board.now) c.args.revision.doc) (recorded_with c.args.revision c.in-Ok.judged.kept) (sym c.in-Ok.ensures.extends.tree.tree ∙ none)

pub returns-in-Ok-accepted_of-clause-ready : goal.returns-in-Ok-accepted_of-clause-ready
returns-in-Ok-accepted_of-clause-ready c =
    let s = c.args.board.now in
    let by = option_copied c.args.by in
    ready_by c.winners.ensures c.boards.ensures.trees s c.args.program.now c.args.strict by c.args.revision c.in-Ok-accepted_of.accepted c.ready_with.result
    (accepted_by s c.args.program.now c.args.strict by c.args.revision c.in-Ok.judged c.in-Ok-accepted_of.accepted c.in-Ok.ensures.extends c.in-Ok.ensures.judged c.extension_of.ensures.entries c.extension_of.ensures.writes
    c.in-Ok-accepted_of.ensures.from c.in-Ok-accepted_of.ensures.parts c.in-Ok-accepted_of.ensures.effects c.in-Ok-accepted_of.ensures.said)
    c.ready_with.ensures.tree c.ready_with.ensures.base c.ready_with.ensures.write c.ready_with.ensures.entry c.ready_with.ensures.body

pub returns-in-Err-accepted_of-clause-refused : goal.returns-in-Err-accepted_of-clause-refused
returns-in-Err-accepted_of-clause-refused c =
    denied_at c.args.board.now c.args.program.now c.args.strict (option_copied c.args.by) c.args.revision c.in-Ok.judged.at c.in-Ok.ensures.judged c.in-Err-accepted_of.outcome
    (denied_by c.args.board.now c.args.program.now (option_copied c.args.by) c.args.revision c.in-Ok.judged.basis c.in-Ok.judged.at c.in-Err-accepted_of.outcome c.in-Ok.ensures.extends.basis c.in-Err-accepted_of.ensures.denied)

pub returns-in-Err-clause-refused : goal.returns-in-Err-clause-refused
returns-in-Err-clause-refused c = c.in-Err.ensures.stopped c.args.program.now
