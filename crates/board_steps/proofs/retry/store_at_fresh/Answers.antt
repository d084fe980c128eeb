use Rattle.std.proofs.Common.{arith}
use Rattle.doc_board.specs.State.{State}
use Rattle.board_steps.proofs.Again.{past_log}
use Rattle.board_steps.proofs.retry.store_at_fresh.Goals as goal

pub swap_commit-requires-clause-candidate : goal.swap_commit-requires-clause-candidate
swap_commit-requires-clause-candidate c =
    let s : State = c.args.board.now in (
      c.requires.ready.is_entry,
      c.requires.ready.document,
      omega (arith, c.requires.ready.at, past_log s.log s.pending c.args.fresh.value c.requires.fresh),
      c.requires.above,
      λ fresh. c.requires.ready.extends,
    )
