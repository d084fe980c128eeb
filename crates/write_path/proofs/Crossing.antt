-- A shelf may go to another thread.
use denote.Param.Send.{IsSend, sendable}
use Rattle.changes_feed.proofs.Crossing.{feeds_send}
use Rattle.doc_board.proofs.Crossing.{board_send}
use Rattle.write_path.specs.contracts.shelf.Shelf

pub shelf_send : IsSend Shelf.the_row
shelf_send = search (board_send, feeds_send, sendable) depth 20
