-- What was answered of a history is said of each that extends it.
use Rattle.std.proofs.Common.{◌≡◌, ◌≤◌, ℕ, List, [], ◌++◌, append_assoc, length, map, take, reverse, sym, ◌∙◌, ap, subst, le_refl}
use Rattle.std.proofs.lemmas.List.{append-nil, take-append-le}
use Rattle.std.proofs.Math.Seq.{take-length}
use Rattle.std.proofs.Math.Path.{fun_ext}
use Rattle.sg_names.specs.declared.key.Key.{Key}
use Rattle.sg_history.specs.declared.entries.Entry.{Entry}
use Rattle.sg_history.specs.declared.row.Row.{Row}
use Rattle.sg_history.specs.declared.row.Options.{Options}
use Rattle.sg_history.specs.History.{past, Extends}
use Rattle.sg_history.specs.Feed.{feed}
use Rattle.sg_history.specs.declared.book.Waiting.{Waiting}
use Rattle.sg_history.specs.Board.{BoardState, board_book}
use Rattle.sg_history.specs.Book.{Book, book_of, book_with, Later}
use Rattle.rev_tree.specs.declared.tree.Node.{Node}
use Rattle.rev_tree.specs.Documents.{tree_in, last_at, trees_up_to}
use Rattle.doc_board.specs.Boards.{board_last, board_tree}
use Rattle.repl_messages.specs.declared.looks.Bodies.{Bodies}
use Rattle.repl_messages.specs.declared.looks.Fed.{Fed}
use Rattle.repl_messages.specs.declared.looks.Fed.TheVariants as fed
use Rattle.repl_messages.specs.Looks.{IsFed, AreBodies, body_of}
use Rattle.board_steps.specs.Feed.{FeedAt}
use Rattle.board_steps.specs.Bodies.{BodiesAt}

-- a history extends itself, and what one extends that it extends
pub later_itself : (h : List Entry) → Extends h h
later_itself h = ([], sym (append-nil h))

pub later_than_later : (first second third : List Entry) → Extends first second → Extends second third → Extends first third
later_than_later first second third a b = (a.0 ++ b.0, b.1 ∙ ap (λ (s : List Entry). s ++ b.0) a.1 ∙ append_assoc first a.0 b.0)

-- the entries up to the earlier one's length are the earlier one's
same_past : (earlier later : List Entry) (front : ℕ) → Extends earlier later → front ≡ length earlier → past later front ≡ past earlier front
same_past earlier later front (rest, e) is =
    ap (λ es. reverse (take front es)) e ∙ ap reverse (take-append-le front earlier rest (subst (λ k. k ≤ length earlier) (sym is) (le_refl (length earlier))))

pub fed_later : (earlier later : List Entry) (user : List ℕ) (since : Key) (options : Options) (answer : Fed) → Extends earlier later → FeedAt earlier user since options answer → IsFed later user since options answer
fed_later earlier later user since options (fed.Rows front rows) more (is, said) =
    (said.0, said.1 ∙ ap (λ es. feed es user since options) (sym (same_past earlier later front more is)))
fed_later earlier later user since options (fed.Future front) more (is, past) = past

-- what the laws of later books say
abbrev pub LogExtends : Type 0
LogExtends = (log : List Entry) (waiting : List Waiting) (h : List Entry) → Later (book_with log waiting) (book_of h) → Extends log h

abbrev pub SameTrees : Type 0
SameTrees = (board : BoardState) (later : Book) (doc : List ℕ) → Later (board_book board) later → tree_in later (board_last board doc) doc ≡ board_tree board doc

abbrev pub LeastOfLog : Type 0
LeastOfLog = (board : BoardState) (doc : List ℕ) → last_at (reverse board.log) doc ≤ board_last board doc

pub bodies_later : LogExtends → SameTrees → LeastOfLog → (board : BoardState) (later : List Entry) (user : List ℕ) (options : Options) (rows : List Row) (most : ℕ) (bodies : Bodies) → Later (board_book board) (book_of later) → BodiesAt board user options rows most bodies
    → AreBodies later user options rows most bodies
bodies_later log_extends same_trees least board later user options rows most bodies after at =
    let front : ℕ = bodies.front in
    let more : Extends board.log later = log_extends board.log board.pending later after in
    let all : past board.log front ≡ reverse board.log = ap (λ n. past board.log n) at.front ∙ ap (λ (es : List Entry). reverse es) (take-length board.log) in
    let whole : past later front ≡ reverse board.log = same_past board.log later front more at.front ∙ all in
    let trees : board_tree board ≡ trees_up_to (book_of later) (board_last board) = fun_ext (λ doc. sym (same_trees board (book_of later) doc after)) in
    let L : List ℕ → List Entry → Type 0 = λ doc es. last_at es doc ≤ board_last board doc in
    record {
      numbers = board_last board;
      seen = λ doc. subst (L doc) (sym whole) (least board doc);
      answers =
          at.answers
          ∙ ap (λ es. map (body_of es (board_tree board) user options.filter most) rows) (sym whole)
          ∙ ap (λ (t : List ℕ → List Node). map (body_of (past later front) t user options.filter most) rows) trees;
    }
