-- boards with the same log
use Rattle.std.proofs.Common.{◌≡◌, ◌≤◌, ◌∙◌, ℕ, List, [], ◌∷◌, length, sym, ap, subst, arith}
use Rattle.sg_history.specs.declared.book.Waiting.{Waiting}
use Rattle.sg_history.specs.declared.entries.Entry.{Entry}
use Rattle.sg_history.specs.declared.entries.Write.{Write}
use Rattle.sg_history.specs.Book.{book_with}
use Rattle.rev_tree.specs.declared.tree.Node.{Node}
use Rattle.rev_tree.specs.Documents.{tree_in, last_in}
use Rattle.doc_board.specs.Boards.{board_of}
use Rattle.doc_board.specs.Judging.{body_or_empty}
use Rattle.doc_board.specs.Candidates.{ExtendsTree}
use Rattle.doc_board.specs.State.{State, tree_on, last_on, top_of}
use Rattle.board_steps.specs.After.{IsAsBefore}

-- boards with the same log, the same that waits, the same rooms and the same checkpoints are one board
pub same_board : (s t : State) → IsAsBefore s t → board_of t ≡ board_of s
same_board s t e =
    λ i. board_of (record { log = e.log i; pending = e.pending i; rooms = e.rooms i; checkpoints = e.checkpoints i; known = 0; reads = 0 })

pub extends_still : (s t : State) (w : Write) (tree : List Node) → t.log ≡ s.log → t.pending ≡ s.pending → ExtendsTree (tree_on s w.doc) w tree → ExtendsTree (tree_on t w.doc) w tree
extends_still s t w tree same pending h =
    subst (λ (es : List Entry). ExtendsTree (tree_in (book_with es t.pending) (top_of es t.pending) w.doc) w tree) (sym same)
    (subst (λ (ws : List Waiting). ExtendsTree (tree_in (book_with s.log ws) (top_of s.log ws) w.doc) w tree) (sym pending) h)

pub last_still : (s t : State) (doc : List ℕ) → t.log ≡ s.log → t.pending ≡ s.pending → last_on s doc ≡ last_on t doc
last_still s t doc same pending =
    ap (λ (es : List Entry). last_in (book_with es s.pending) (top_of es s.pending) doc) (sym same)
    ∙ ap (λ (ws : List Waiting). last_in (book_with t.log ws) (top_of t.log ws) doc) (sym pending)

-- the body that stands for none is no longer than any other may be
pub small_body : (body : List ℕ) → length body ≤ 20971520 → length (body_or_empty body) ≤ 20971520
small_body [] h = omega arith
small_body (b ∷ bytes) h = h
