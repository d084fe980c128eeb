-- what a board says of documents as plain data
use Rattle.std.proofs.Common.{◌≡◌, ◌∙◌, ℕ, List, [], ◌∷◌, refl, ap, map, Option, Some, None}
use Rattle.sg_names.specs.declared.rev_id.RevId.{RevId}
use Rattle.sg_history.specs.Book.{Book, first_of_rev}
use Rattle.sg_history.specs.Current.{Sequenced, write_alone}
use Rattle.rev_tree.specs.Extension.{Recorded, first_of}
use Rattle.rev_tree.specs.Documents.{recorded, tree_when, last_in, rev_written_in}
use Rattle.rev_tree.specs.Writes.{tree_of}
use Rattle.doc_board.specs.Boards.{board_of, board_last, board_tree}
use Rattle.doc_board.specs.Judging.{board_base}
use Rattle.doc_board.specs.Offers.{nodes_or_none}
use Rattle.doc_board.specs.State.{State, book_on, top_on, writes_on, last_on, tree_on, base_on}
use Rattle.doc_board.proofs.Walks.{up_to_last}

pub same_last : (s : State) (doc : List ℕ) → board_last (board_of s) doc ≡ last_on s doc
same_last s doc = refl

pub same_tree : (s : State) (doc : List ℕ) → board_tree (board_of s) doc ≡ tree_on s doc
same_tree s doc =
    ap (λ (ws : List Sequenced). tree_of (map (λ written. recorded written.write) ws)) (up_to_last (book_on s) (top_on s) doc)

-- the write of a revision, where there is one
same_written : (book : Book) (top : ℕ) (doc : List ℕ) (o : Option RevId) → rev_written_in book (last_in book top doc) doc o ≡ rev_written_in book top doc o
same_written book top doc None = refl
same_written book top doc (Some rev) = ap (λ (ws : List Sequenced). write_alone (first_of_rev ws rev)) (up_to_last book top doc)

pub same_base : (s : State) (doc : List ℕ) (ancestors : List RevId) → board_base (board_of s) doc ancestors ≡ base_on s doc ancestors
same_base s doc ancestors = same_written (book_on s) (top_on s) doc (first_of ancestors)

when_written : (ws : List Recorded) → tree_of ws ≡ nodes_or_none (tree_when ws)
when_written [] = refl
when_written (w ∷ ws) = refl

pub written_tree : (s : State) (doc : List ℕ) → board_tree (board_of s) doc ≡ nodes_or_none (tree_when (writes_on s doc))
written_tree s doc = same_tree s doc ∙ when_written (writes_on s doc)
