use Rattle.std.proofs.Common.{◌≡◌, [], Bool, List, None, sym, subst}
use Rattle.sg_history.specs.declared.book.Waiting.{Waiting}
use Rattle.doc_board.specs.Boards.{board_of}
use Rattle.doc_board.specs.Outcomes.{IsOutcome, bytes_of}
use Rattle.doc_board.specs.State.{State}
use Rattle.write_path.specs.Own.{own_in_order}
use Rattle.write_path.proofs.Proposed.{no_rooms, none_waits}
use Rattle.session_threads.proofs.Alone.{limits_alone}
use Rattle.replay_in_turn.proofs.Alone.{after_alone, outcome_alone, strict_alone}
use Rattle.replay_in_turn.proofs.script.propose.Goals as goal

pub returns-clause-written : goal.returns-clause-written
returns-clause-written c =
    let s : State = c.args.ground.now.board in
    let t : State = c.propose.new.self.board in
    let S : Bool → Type 0 = λ strict. IsOutcome c.args.program.now strict None c.args.revision (board_of s) c.propose.result in
    record {
      outcome = outcome_alone s c.requires.own.pending c.requires.own.rooms c.args.program.now c.args.strict None c.args.revision c.propose.result (subst S (strict_alone c.args.strict c.args.revision.noconflicts c.requires.plain) c.propose.ensures.outcome);
      limits = limits_alone s c.requires.own.pending c.requires.own.rooms (bytes_of c.args.revision) c.propose.result c.propose.ensures.limits;
      board = after_alone s t c.requires.own.pending c.requires.own.rooms c.args.program.now None c.args.revision c.propose.result c.propose.ensures.board;
    }

pub returns-clause-own : goal.returns-clause-own
returns-clause-own c =
    let s : State = c.args.ground.now.board in
    let t : State = c.propose.new.self.board in
    let O : List Waiting → Type 0 = λ own. t.log ≡ own_in_order own in
    record {
      pending = none_waits s t c.args.program.now None c.args.revision c.propose.result c.requires.own.pending c.propose.ensures.board;
      rooms = no_rooms s t c.args.program.now None c.args.revision c.propose.result c.requires.own.rooms c.propose.ensures.board;
      log = subst O (sym c.propose.ensures.own) (c.own_entries.ensures.proposed [] s t c.args.ground.now.own c.args.program.now None c.args.revision c.propose.result c.propose.ensures.board c.requires.own.log);
    }
