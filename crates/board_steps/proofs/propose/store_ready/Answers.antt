use Rattle.std.proofs.Common.{◌∙◌, sym, length}
use Rattle.sg_history.specs.declared.entries.Entry.TheVariants as kinds
use Rattle.doc_board.specs.Boards.{board_of}
use Rattle.doc_board.specs.Limits.{refusal}
use Rattle.board_steps.proofs.Rooms.{commanded_without, limits_without, stored_none}
use Rattle.board_steps.proofs.propose.store_ready.Goals as goal

pub returns-in-Ok-clause-board : goal.returns-in-Ok-clause-board
returns-in-Ok-clause-board c = record {
  next = c.in-Ok.ensures.sequence;
  front = c.requires.ready.at;
  log = c.in-Ok.ensures.stored;
  pending = c.store.ensures.pending ∙ sym c.requires.pending;
  rooms = c.store.ensures.rooms ∙ sym c.requires.rooms;
  checkpoints = c.store.ensures.checkpoints;
}

pub returns-in-Ok-clause-limits : goal.returns-in-Ok-clause-limits
returns-in-Ok-clause-limits c = stored_none (refusal (board_of c.args.board.now) (length c.args.ready.entry.body)) c.in-Ok.sequence c.in-Ok.ensures.refused

pub returns-in-Err-clause-board : goal.returns-in-Err-clause-board
returns-in-Err-clause-board c =
    commanded_without c.args.board.now c.store.new.board (kinds.Write c.args.ready.entry) c.args.ready.entry.at c.in-Err.why c.no_room_outcome.result c.no_room_outcome.ensures
    (record { log = c.in-Err.ensures.none; pending = c.store.ensures.pending ∙ sym c.requires.pending; rooms = c.store.ensures.rooms ∙ sym c.requires.rooms; checkpoints = c.store.ensures.checkpoints }) c.requires.ready.at

pub returns-in-Err-clause-limits : goal.returns-in-Err-clause-limits
returns-in-Err-clause-limits c =
    limits_without (length c.args.ready.entry.body) (board_of c.args.board.now) c.args.ready.entry.at c.in-Err.why c.no_room_outcome.result c.no_room_outcome.ensures c.in-Err.ensures.refused
