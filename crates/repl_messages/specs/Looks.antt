-- What looks at a history answer: the rows of a feed, or the bodies of rows.
use Rattle.std.specs.Prelude.{◌≡◌, ◌<◌, ◌≤◌, ℕ, Bool, ◌&&◌, ◌||◌, nat_eq, nat_lt, is_none, List, length, map, Option, Some, None, if◌then◌else◌}
use Rattle.sg_names.specs.declared.key.Key.{Key}
use Rattle.sg_history.specs.declared.entries.Entry.{Entry}
use Rattle.sg_history.specs.declared.entries.Write.{Write}
use Rattle.sg_history.specs.declared.row.Row.{Row}
use Rattle.sg_history.specs.declared.row.Options.{Options}
use Rattle.sg_history.specs.History.{past}
use Rattle.sg_history.specs.Current.{Sequenced, last_write, winning_of}
use Rattle.sg_history.specs.View.{Shown, view, same_view}
use Rattle.sg_history.specs.Feed.{feed, changed, is_deleted}
use Rattle.sg_history.specs.Book.{book_of}
use Rattle.rev_tree.specs.declared.tree.Node.{Node}
use Rattle.rev_tree.specs.Tree.{ancestors_of}
use Rattle.rev_tree.specs.Documents.{last_at, trees_up_to}
use Rattle.repl_messages.specs.declared.looks.Body.{Body}
use Rattle.repl_messages.specs.declared.looks.Body.TheVariants as body
use Rattle.repl_messages.specs.declared.looks.Bodies.{Bodies}
use Rattle.repl_messages.specs.declared.looks.Fed.{Fed}
use Rattle.repl_messages.specs.declared.looks.Fed.TheVariants as fed

-- ---- a feed

-- the length of the history that was looked at
abbrev pub front_of : Fed → ℕ
front_of (fed.Rows front rows) = front
front_of (fed.Future front) = front

-- the rows are the feed's at the front, and the answer is Future instead where the first number of the since key is past it
abbrev pub IsFed : List Entry → List ℕ → Key → Options → Fed → Type 0
IsFed h user since options (fed.Rows front rows) = (since.by ≤ front) × (rows ≡ feed (past h front) user since options)
IsFed h user since options (fed.Future front) = front < since.by

-- ---- bodies

abbrev pub winner_after : List Entry → List ℕ → Option Sequenced → Option Write
winner_after es doc None = None
winner_after es doc (Some last) = Some (winning_of es doc last).write

-- the write of a document's current revision: of the winner that its last write names (or, in a log that names one which was
-- never written, that write itself)
abbrev pub winning_write : List Entry → List ℕ → Option Write
winning_write es doc = winner_after es doc (last_write es doc)

-- what a row says is shown: its sequence, its revision, and whether that is deleted
abbrev pub said_by : Row → Shown
said_by row = record { seq = row.key.seq; rev = row.rev; deleted = is_deleted row.bits }

-- whether what is shown of the row's document still is what the row says
abbrev pub is_still_shown : List Entry → List ℕ → Option (List (List ℕ)) → Row → Bool
is_still_shown es user filter row = same_view (view es user filter row.doc) (Some (said_by row))

-- whether a row says that its document left by a write of its own
abbrev pub left_by_write : ℕ → Bool
left_by_write bits = nat_eq bits 4 || nat_eq bits 5

-- whether the row's document left by a write of its own, is not shown, and did not change since the place of its key, which is no 0
abbrev pub is_still_gone : List Entry → List ℕ → Option (List (List ℕ)) → Row → Bool
is_still_gone es user filter row =
    left_by_write row.bits && is_none (view es user filter row.doc) && nat_eq (length (changed es user filter row.doc)) row.key.by && nat_lt 0 row.key.by

-- the body of a write with its revision's ancestors in a tree, the nearest first and at most so many
abbrev pub body_with : List Node → ℕ → Option Write → Body
body_with tree most None = body.NoRev
body_with tree most (Some w) = body.Rev (ancestors_of tree w.rev most) w.body

-- what is answered for a row, given each document's tree: the winner's body where it still is shown, that it was removed where
-- it still is gone, else neither
abbrev pub body_of : List Entry → (List ℕ → List Node) → List ℕ → Option (List (List ℕ)) → ℕ → Row → Body
body_of es trees user filter most row =
    if is_still_shown es user filter row
    then body_with (trees row.doc) most (winning_write es row.doc)
    else (if is_still_gone es user filter row then body.Removed else body.NoRev)

-- the numbers up to which documents were seen: each no less than that of the document's last write among these entries
abbrev pub SeenUpTo : List Entry → (List ℕ → ℕ) → Type 0
SeenUpTo es numbers = (doc : List ℕ) → last_at es doc ≤ numbers doc

-- each row has its answer by the history at the front, in their order, and by the trees of the documents as they were seen
pub record AreBodies (h : List Entry) (user : List ℕ) (options : Options) (rows : List Row) (most : ℕ) (bodies : Bodies) : Type 0 where
  pub numbers : List ℕ → ℕ
  pub seen : SeenUpTo (past h bodies.front) numbers
  pub answers : bodies.answers ≡ map (body_of (past h bodies.front) (trees_up_to (book_of h) numbers) user options.filter most) rows
