use Rattle.std.specs.Option.{option_copied}
use Rattle.board_steps.proofs.Again.{fits_ready, held_still, may_still, stored_again}
use Rattle.board_steps.proofs.retry.propose_again.Goals as goal

pub store_held-requires-clause-number : goal.store_held-requires-clause-number
store_held-requires-clause-number c = may_still c.args.board.now c.judge.new.board c.args.number.value c.judge.ensures.same c.requires.number

pub store_held-requires-clause-fits : goal.store_held-requires-clause-fits
store_held-requires-clause-fits c =
    fits_ready c.args.board.now c.args.program.now (option_copied c.args.by) c.args.revision c.args.room.made_for c.in-Ok.ready c.in-Ok.ensures.ready.made c.requires.doc c.requires.bytes

pub store_held-requires-clause-ready : goal.store_held-requires-clause-ready
store_held-requires-clause-ready c = held_still c.args.board.now c.judge.new.board c.in-Ok.ready c.in-Ok.ensures.same c.in-Ok.ensures.ready.made.held

pub void-requires-clause-number : goal.void-requires-clause-number
void-requires-clause-number c = may_still c.args.board.now c.judge.new.board c.args.number.value c.judge.ensures.same c.requires.number

pub returns-in-Ok : goal.returns-in-Ok
returns-in-Ok c =
    stored_again c.args.board.now c.judge.new.board c.store_held.new.board c.args.program.now c.args.strict (option_copied c.args.by) c.args.revision c.args.room c.args.number c.in-Ok.ready c.store_held.result c.in-Ok.ensures.same c.in-Ok.ensures.ready c.store_held.ensures
