-- What a program says of a revision that is proposed, by a board: the document, the one before it, and who proposes it.
use Rattle.std.specs.Prelude.{◌≡◌, ℕ, Bool, List, [], ◌∷◌, reverse, Option, Some, None}
use Rattle.sg_names.specs.declared.rev_id.RevId.{RevId}
use Rattle.sg_history.specs.declared.entries.Entry.{Entry}
use Rattle.sg_history.specs.declared.entries.Write.{Write}
use Rattle.sg_history.specs.Board.{BoardState, board_book}
use Rattle.json_doc.specs.Tree.{Tree}
use Rattle.json_doc.specs.Reading.{IsDocument}
use Rattle.json_doc.specs.System.{with_system}
use Rattle.rev_tree.specs.Documents.{base_in}
use Rattle.repl_messages.specs.declared.revision.Revision.{Revision}
use Rattle.sync_syntax.specs.declared.tree.Program.{Program}
use Rattle.sync_values.specs.Found.{Found}
use Rattle.sync_meaning.specs.declared.effects.Effects.{Effects}
use Rattle.sync_meaning.specs.declared.state.Context.{Context}
use Rattle.sync_meaning.specs.Meaning.{meaning}
use Rattle.doc_board.specs.Boards.{board_last}
use Rattle.doc_board.specs.Contexts.{IsContext}

-- a body, or `{}` where there are no bytes
abbrev pub body_or_empty : List ℕ → List ℕ
body_or_empty [] = 123 ∷ 125 ∷ []
body_or_empty (b ∷ bs) = b ∷ bs

-- the tree of the document that a body is, with its identifier and the deleted mark
abbrev pub IsTreeOf : List ℕ → List ℕ → Bool → Tree → Type 0
IsTreeOf body id deleted tree = (doc : Tree) × IsDocument body doc × (tree ≡ with_system id deleted doc)

-- the tree of a write's document, where there is a write
abbrev pub IsOldTree : Option Write → List ℕ → Option Tree → Type 0
IsOldTree None id old = old ≡ None
IsOldTree (Some w) id old = (tree : Tree) × IsTreeOf w.body id w.deleted tree × (old ≡ Some tree)

-- the write in a board's book on which a revision with these ancestors is based: that of the first of them, if there is one
abbrev pub board_base : BoardState → List ℕ → List RevId → Option Write
board_base board doc ancestors = base_in (board_book board) (board_last board doc) doc ancestors

-- what the program says of a document with this body, for the one who proposes it with the roles and channels after these entries, where the document on which it is based is that of this write
pub record IsSaidOf (program : Program) (es : List Entry) (base : Option Write) (by : Option (List ℕ)) (doc : List ℕ) (deleted : Bool) (body : List ℕ) (said : Found Effects) : Type 0 where
  pub document : Tree
  pub old : Option Tree
  pub context : Context
  pub is_document : IsTreeOf body doc deleted document
  pub is_old : IsOldTree base doc old
  pub is_context : IsContext es by context
  pub is_meant : meaning program document old context ≡ said

-- what the program says of the revision by the board, at its front
abbrev pub IsSaid : Program → Option (List ℕ) → Revision → BoardState → Found Effects → Type 0
IsSaid program by r board said =
    IsSaidOf program (reverse board.log) (board_base board r.doc r.ancestors) by r.doc r.deleted (body_or_empty r.body) said
