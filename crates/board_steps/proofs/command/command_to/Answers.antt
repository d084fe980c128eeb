use Rattle.std.proofs.Common.{◌++◌, ◌∷◌, [], ◌∙◌, ap, sym, List, None}
use Rattle.sg_history.specs.declared.room.RoomFor.{RoomFor}
use Rattle.principals.specs.Script.{entry_of}
use Rattle.doc_board.specs.Boards.{board_of}
use Rattle.doc_board.specs.Limits.{refusal}
use Rattle.doc_board.specs.Rooms.{room_for}
use Rattle.board_steps.proofs.Rooms.{commanded_without, limits_without, refused_in}
use Rattle.board_steps.proofs.command.command_to.Goals as goal

pub put_next-sequence-requires-clause-rooms : goal.put_next-sequence-requires-clause-rooms
put_next-sequence-requires-clause-rooms c =
    c.in-Ok.ensures.ok ∙ ap (λ (rs : List RoomFor). rs ++ room_for None 0 ∷ []) c.requires.rooms ∙ ap (λ (r : RoomFor). r ∷ []) (sym c.in-Ok.ensures.room)

pub returns-in-Err-clause-board : goal.returns-in-Err-clause-board
returns-in-Err-clause-board c =
    commanded_without c.args.board.now c.room.new.self (entry_of c.args.command) c.front-at.result c.in-Err.why c.no_room_outcome.result c.no_room_outcome.ensures (record { log = c.in-Err.ensures.log; pending = c.in-Err.ensures.pending; rooms = c.in-Err.ensures.err; checkpoints = c.room.ensures.checkpoints })
    c.front-at.ensures.front

pub returns-in-Err-clause-limits : goal.returns-in-Err-clause-limits
returns-in-Err-clause-limits c =
    limits_without 0 (board_of c.args.board.now) c.front-at.result c.in-Err.why c.no_room_outcome.result c.no_room_outcome.ensures (refused_in (refusal (board_of c.args.board.now) 0) c.in-Err.why c.in-Err.ensures.refused)
