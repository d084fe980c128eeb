use Rattle.std.proofs.Common.{List, ℕ, take, reverse}
use Rattle.rev_tree.specs.Writes.{AreAccepted}
use Rattle.doc_board.specs.Kept.{AreKept}
use Rattle.doc_board.specs.Recorded.{AreFollowing}
use Rattle.rev_tree.specs.Documents.{writes_of}
use Rattle.doc_board.proofs.open.take_all.Given as goal

abbrev pub invariant-loop-i : goal.invariant-loop-i
invariant-loop-i l = record {
  kept : AreKept (reverse (take l.i l.entries)) l.documents;
  accepted : (doc : List ℕ) → AreAccepted (writes_of (reverse (take l.i l.entries)) doc);
  following : AreFollowing (reverse (take l.i l.entries));
}
