use Rattle.std.proofs.Common.{◌≡◌, [], List, sym, subst}
use Rattle.sg_history.specs.declared.book.Waiting.{Waiting}
use Rattle.principals.specs.Script.{entry_of}
use Rattle.doc_board.specs.State.{State}
use Rattle.write_path.specs.Own.{own_in_order}
use Rattle.write_path.proofs.Commanded.{no_rooms, none_waits}
use Rattle.session_threads.proofs.Alone.{commanded_alone, limits_alone}
use Rattle.session_threads.proofs.opening.run_command.Goals as goal

pub returns-clause-commanded : goal.returns-clause-commanded
returns-clause-commanded c = record {
  limits = limits_alone c.args.ground.now.board c.requires.own.pending c.requires.own.rooms 0 c.command.result c.command.ensures.limits;
  board = commanded_alone c.args.ground.now.board c.command.new.self.board (entry_of c.args.command) c.command.result c.command.ensures.board;
}

pub returns-clause-own : goal.returns-clause-own
returns-clause-own c =
    let s : State = c.args.ground.now.board in
    let t : State = c.command.new.self.board in
    let O : List Waiting → Type 0 = λ own. t.log ≡ own_in_order own in
    record {
      pending = none_waits s t (entry_of c.args.command) c.command.result c.requires.own.pending c.command.ensures.board;
      rooms = no_rooms s t (entry_of c.args.command) c.command.result c.requires.own.rooms c.command.ensures.board;
      log = subst O (sym c.command.ensures.own) (c.own_entries.ensures.commanded [] s t c.args.ground.now.own (entry_of c.args.command) c.command.result c.command.ensures.board c.requires.own.log);
    }
