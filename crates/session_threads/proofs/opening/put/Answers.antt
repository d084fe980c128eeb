use Rattle.std.proofs.lemmas.Result.{on_ok_weaker}
use Rattle.session_threads.proofs.Growing.{taken_log, still_opened}
use Rattle.session_threads.proofs.opening.put.Goals as goal

pub returns-clause-log : goal.returns-clause-log
returns-clause-log c =
    on_ok_weaker c.taken.result (taken_log c.args.ground.now.board.log c.run_command-outcome.new.ground.board.log c.args.command c.run_command-outcome.result c.requires.opened c.run_command-outcome.ensures.commanded) c.taken.ensures

pub returns-clause-opened : goal.returns-clause-opened
returns-clause-opened c =
    still_opened c.args.ground.now.board.log c.run_command-outcome.new.ground.board.log c.args.command c.run_command-outcome.result c.requires.opened c.run_command-outcome.ensures.commanded
