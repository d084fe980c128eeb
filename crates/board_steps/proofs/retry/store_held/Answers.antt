use Rattle.std.proofs.Common.{arith}
use Rattle.doc_board.specs.State.{State, last_on}
use Rattle.board_steps.proofs.Again.{past_log}
use Rattle.board_steps.proofs.Alone.{fresh_on}
use Rattle.board_steps.proofs.retry.store_held.Goals as goal

pub commit_fresh-sequence-requires-clause-candidate : goal.commit_fresh-sequence-requires-clause-candidate
commit_fresh-sequence-requires-clause-candidate c =
    let s : State = c.args.board.now in (
      c.requires.ready.is_entry,
      c.requires.ready.document,
      omega (arith, c.requires.ready.at, past_log s.log s.pending c.args.number.value c.requires.number),
      omega (arith, c.if-ready-number.false),
      λ fresh. c.requires.ready.extends,
    )

pub commit_fresh-sequence-requires-clause-fresh : goal.commit_fresh-sequence-requires-clause-fresh
commit_fresh-sequence-requires-clause-fresh c = fresh_on c.args.ready.base (last_on c.args.board.now c.args.ready.entry.doc) c.requires.ready.base
