use Rattle.std.proofs.Common.{◌≡◌, ◌≤◌, ◌+◌, ℕ, List, length}
use Rattle.sg_history.specs.Book.{book_with}
use Rattle.sg_history.specs.History.{entries_of}
use Rattle.rev_tree.specs.Documents.{last_in}
use Rattle.doc_board.specs.State.{top_of}
use Rattle.doc_board.proofs.Walks.{IsAt}
use Rattle.doc_board.proofs.base.waiting_write.Given as goal

abbrev pub invariant-loop : goal.invariant-loop
invariant-loop l = record {
  front : l.front ≡ length (entries_of l.storage.log);
  falls : l.number + l.counter ≤ l.last + l.front;
  stands : (doc : List ℕ) → l.last ≡ last_in (book_with (entries_of l.storage.log) l.storage.pending.waiting) (top_of (entries_of l.storage.log) l.storage.pending.waiting) doc → IsAt (entries_of l.storage.log) l.storage.pending.waiting doc l.rev l.number;
}
