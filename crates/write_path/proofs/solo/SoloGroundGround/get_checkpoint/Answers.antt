use Rattle.checkpoint_store.specs.Checkpoints.{checkpoint_text}
use Rattle.doc_board.specs.Boards.{board_of}
use Rattle.write_path.proofs.Checkpointing.{kept_here}
use Rattle.write_path.proofs.OneRead.{one_read}
use Rattle.write_path.proofs.solo.SoloGroundGround.get_checkpoint.Goals as goal

pub returns-clause-reads : goal.returns-clause-reads
returns-clause-reads c = rw (← c.self.view_is) (one_read _ _ (board_of c.self.inside.shelf.board) c.add.ensures c.self.invariant.0)

pub returns-clause-answer : goal.returns-clause-answer
returns-clause-answer c =
    rw (← c.self.view_is)
    (kept_here _ _ c.self.inside.shelf.board (checkpoint_text c.args.user.now c.args.client.now) c.get_checkpoint.result c.add.ensures c.get_checkpoint.ensures)
