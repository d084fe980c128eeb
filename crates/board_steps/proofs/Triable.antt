-- a revision that was accepted by an earlier board, at one of which the book is later
use Rattle.std.proofs.Common.{◌≡◌, ◌≤◌, ◌<◌, ◌∙◌, ℕ, Bool, List, length, Option, Some, sym, ap, subst, arith}
use Rattle.sg_history.specs.declared.room.RoomFor.{RoomFor}
use Rattle.sg_history.specs.Board.{BoardState, board_book}
use Rattle.sg_history.specs.Book.{Book, Later}
use Rattle.rev_tree.specs.declared.tree.Node.{Node}
use Rattle.rev_tree.specs.Documents.{tree_in}
use Rattle.repl_messages.specs.declared.revision.Revision.{Revision}
use Rattle.sync_syntax.specs.declared.tree.Program.{Program}
use Rattle.doc_board.specs.declared.candidate.Candidate.TheVariants as candidate
use Rattle.doc_board.specs.Boards.{board_of, board_last, board_tree}
use Rattle.doc_board.specs.Candidates.{ExtendsTree, Fits, MayBeStored}
use Rattle.doc_board.specs.Outcomes.{bytes_of}
use Rattle.doc_board.specs.State.{State, book_on, last_on, tree_on}
use Rattle.board_steps.specs.declared.retry.Ready.{Ready}
use Rattle.board_steps.specs.Retry.{IsHeldReady, IsReady}
use Rattle.board_steps.proofs.Again.{fits_ready}

-- what the laws of boards say
pub record LaterBoards : Type 0 where
  pub last : (s : State) (doc : List ℕ) → board_last (board_of s) doc ≡ last_on s doc
  pub trees : (s : State) (doc : List ℕ) → board_tree (board_of s) doc ≡ tree_on s doc
  pub later : (board : BoardState) (book : Book) (doc : List ℕ) → Later (board_book board) book → tree_in book (board_last board doc) doc ≡ board_tree board doc

-- a document that was not written since has the same tree
pub same_tree : LaterBoards → (s t : State) (doc : List ℕ) → Later (book_on s) (book_on t) → last_on t doc ≡ last_on s doc → tree_on t doc ≡ tree_on s doc
same_tree laws s t doc on same =
    sym (laws.trees t doc)
    ∙ ap (λ (n : ℕ). tree_in (book_on t) n doc) (laws.last t doc ∙ same ∙ sym (laws.last s doc))
    ∙ laws.later (board_of s) (book_on t) doc on
    ∙ laws.trees s doc

-- its write may be stored there
pub may_be_stored : LaterBoards → (s t : State) (c : Ready) (number : ℕ) → IsHeldReady s c → Later (book_on s) (book_on t) → length s.log < number → c.base < number
    → last_on t c.entry.doc ≡ c.base → MayBeStored t number (candidate.Write c.entry c.tree c.base)
may_be_stored laws s t c number held on front above same = (
  held.is_entry,
  held.document,
  omega (arith, held.at, front),
  above,
  λ fresh. subst (λ (tree : List Node). ExtendsTree tree c.entry c.tree) (sym (same_tree laws s t c.entry.doc on (same ∙ held.base))) held.extends,
)

pub fits_room : (s : State) (program : Program) (strict : Bool) (by : Option (List ℕ)) (r : Revision) (room : RoomFor) (c : Ready) → IsReady s program strict by r c → room.doc ≡ Some r.doc → bytes_of r ≤ room.bytes
    → Fits room (candidate.Write c.entry c.tree c.base)
fits_room s program strict by r room c ready doc bytes =
    let fits = fits_ready s program by r room c ready.made doc bytes in record { doc = fits.doc; bytes = fits.bytes }

-- the number that is above the last write of the revision's document is above that of the write's
pub last_ready : (judged : State) (program : Program) (strict : Bool) (by : Option (List ℕ)) (r : Revision) (c : Ready) (number : ℕ) → IsReady judged program strict by r c → last_on judged r.doc < number → last_on judged c.entry.doc < number
last_ready judged program strict by r c number ready above = subst (λ (doc : List ℕ). last_on judged doc < number) (sym ready.made.is_write.doc) above
