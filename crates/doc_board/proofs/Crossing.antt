-- A board may go to another thread.
use denote.Param.Send.{IsSend, sendable, struct_send}
use denote.Struct.Declared
use Rattle.std.proofs.Crossing.{crosses}
use Rattle.std.proofs.MapsCrossing as maps
use Rattle.checkpoint_store.proofs.kept.Checkpoint.TheSendSync as checkpoint
use Rattle.checkpoint_store.specs.contracts.checkpoints.Checkpoints
use Rattle.sg_history.proofs.entries.Log.TheSendSync as log
use Rattle.pending_front.proofs.pending.Pending.TheSendSync as pending
use Rattle.grant_history.proofs.Crossing.{history_send}
use Rattle.doc_board.proofs.document.Document.TheSendSync as document
use Rattle.doc_board.proofs.room.Links.TheLaws.TheKnot as knot
use Rattle.doc_board.specs.contracts.storage.Storage
use Rattle.doc_board.specs.contracts.board.Board

storage_send : IsSend (Storage.the_field).row
storage_send =
    struct_send (Declared.shape Storage.the_type) (
      log.the_field_send,
      (pending.the_send, (search (document.the_send, maps.crosses, crosses, sendable) depth 30, (search (maps.crosses, crosses, sendable) depth 30, (search (knot.crosses, sendable) depth 30, (search sendable, tt))))),
    )

checkpoints_send : IsSend Checkpoints.the_row
checkpoints_send = search (checkpoint.the_send, maps.crosses, crosses, sendable) depth 30

pub board_send : IsSend Board.the_row
board_send = search (storage_send, history_send, checkpoints_send, sendable) depth 30
