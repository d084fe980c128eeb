-- The answers for bodies by a board's own trees are those of the board as plain data.
use Rattle.std.proofs.Common.{◌≡◌, ℕ, sym, ◌∙◌, ap, List, length, map, reverse, Result, Ok, Err}
use Rattle.std.specs.Prelude.{IfOk}
use Rattle.std.proofs.Math.Path.{fun_ext}
use Rattle.sg_history.specs.declared.row.Row.{Row}
use Rattle.sg_history.specs.declared.row.Options.{Options}
use Rattle.rev_tree.specs.declared.tree.Node.{Node}
use Rattle.doc_board.specs.Boards.{board_of, board_tree}
use Rattle.doc_board.specs.State.{State, tree_on}
use Rattle.repl_messages.specs.declared.looks.Bodies.{Bodies}
use Rattle.repl_messages.specs.Looks.{body_of}
use Rattle.board_steps.specs.Bodies.{BodiesAt}

pub at_board : ((s : State) (doc : List ℕ) → board_tree (board_of s) doc ≡ tree_on s doc)
    → (s : State) (user : List ℕ) (options : Options) (rows : List Row) (most : ℕ) → {E : Type 0} (r : Result Bodies E)
    → IfOk r (λ answer. answer.front ≡ length s.log)
    → IfOk r (λ answer. answer.answers ≡ map (body_of (reverse s.log) (tree_on s) user options.filter most) rows)
    → IfOk r (BodiesAt (board_of s) user options rows most)
at_board trees s user options rows most (Ok answer) front answers =
    let same : tree_on s ≡ board_tree (board_of s) = fun_ext (λ doc. sym (trees s doc)) in
    record { front = front; answers = answers ∙ ap (λ (t : List ℕ → List Node). map (body_of (reverse s.log) t user options.filter most) rows) same }
at_board trees s user options rows most (Err e) front answers = tt
