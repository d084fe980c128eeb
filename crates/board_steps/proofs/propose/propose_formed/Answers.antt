use Rattle.std.proofs.Common.{◌∙◌}
use Rattle.std.specs.Option.{option_copied}
use Rattle.board_steps.proofs.Again.{held_still}
use Rattle.board_steps.proofs.Stored.{answered, fits_body, turned}
use Rattle.board_steps.proofs.propose.propose_formed.Goals as goal

pub store_ready-requires-clause-pending : goal.store_ready-requires-clause-pending
store_ready-requires-clause-pending c = c.judge.ensures.same.pending ∙ c.requires.pending

pub store_ready-requires-clause-rooms : goal.store_ready-requires-clause-rooms
store_ready-requires-clause-rooms c = c.judge.ensures.same.rooms ∙ c.requires.rooms

pub store_ready-requires-clause-size : goal.store_ready-requires-clause-size
store_ready-requires-clause-size c =
    fits_body c.args.board.now c.args.program.now c.args.strict (option_copied c.args.by) c.args.revision c.in-Ok.ready c.in-Ok.ensures.ready

pub store_ready-requires-clause-ready : goal.store_ready-requires-clause-ready
store_ready-requires-clause-ready c = held_still c.args.board.now c.judge.new.board c.in-Ok.ready c.judge.ensures.same c.in-Ok.ensures.ready.made.held

pub returns-in-Ok : goal.returns-in-Ok
returns-in-Ok c =
    answered c.args.board.now c.judge.new.board c.store_ready.new.board c.args.program.now c.args.strict (option_copied c.args.by) c.args.revision c.in-Ok.ready c.judge.ensures.same c.in-Ok.ensures.ready c.store_ready.result c.store_ready.ensures.board c.store_ready.ensures.limits

pub returns-in-Err : goal.returns-in-Err
returns-in-Err c =
    turned c.args.board.now c.judge.new.board c.args.program.now c.args.strict (option_copied c.args.by) c.args.revision c.judge.ensures.same c.in-Err.outcome c.in-Err.ensures.refused
