use Rattle.std.proofs.Common.{ap, arith}
use Rattle.doc_board.specs.declared.room.Room.{Room}
use Rattle.doc_board.specs.State.{State}
use Rattle.tests_of_boards.proofs.Again.{handed_back, past_log}
use Rattle.tests_of_boards.proofs.tries.made_stale.Goals as goal

pub commit-requires-clause-candidate : goal.commit-requires-clause-candidate
commit-requires-clause-candidate c =
    let s : State = c.args.board.now in (
      c.requires.ready.is_entry,
      c.requires.ready.document,
      omega (arith, c.requires.ready.at, past_log s.log s.pending c.args.number.value c.requires.number),
      c.requires.number.0,
      λ never. absurd (omega (arith, never, c.requires.ready.base, c.if-base-eq0.false)),
    )

pub at_five-outcome-requires-clause-ready : goal.at_five-outcome-requires-clause-ready
at_five-outcome-requires-clause-ready c =
    let back = c.in-Stale.ensures.back in
    handed_back c.args.board.now c.commit.new.self c.args.room.made_for c.in-Stale.room.made_for c.in-Stale.candidate c.args.ready c.in-Stale.last
    c.in-Stale.ensures.same (ap (λ (r : Room). r.made_for) back.0) back.2 back.3 c.requires.fits c.requires.ready
