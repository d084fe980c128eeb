-- What the functions that make the write of an accepted revision hand on to one another. Only proofs need this.
use Rattle.std.specs.Prelude.{◌≡◌, ◌≤◌, ℕ, Bool, List, [], ◌∷◌, length, option_map, Option, Some, None, Ok, IfSome, IsTrue, IsUtf8}
use Rattle.sg_names.specs.Grammar.{is_name}
use Rattle.sg_history.specs.Journal.{is_body}
use Rattle.repl_messages.specs.declared.revision.Revision.{Revision}
use Rattle.rev_tree.specs.declared.tree.Node.{Node}
use Rattle.rev_tree.specs.Extension.{extends_tree}
use Rattle.rev_tree.specs.Tree.{winner_of}
use Rattle.rev_tree.specs.Writes.{AreAccepted}
use Rattle.sync_meaning.specs.Laws.{AreEffects}
use Rattle.sync_syntax.specs.declared.tree.Program.{Program}
use Rattle.doc_board.specs.Answers.{IsNewTree}
use Rattle.doc_board.specs.Boards.{board_of, board_tree}
use Rattle.doc_board.specs.Judging.{IsSaid}
use Rattle.doc_board.specs.Lawful.{AreEntries}
use Rattle.doc_board.specs.Outcomes.{IsJudged}
use Rattle.doc_board.specs.State.{State, book_on, last_on, writes_on}
use Rattle.board_steps.specs.declared.accepted.Accepted.{Accepted}
use Rattle.board_steps.specs.declared.accepted.Judged.{Judged}
use Rattle.board_steps.specs.declared.accepted.Parts.{Parts}

-- what stands in for a body: nothing where it has bytes, else `{}`
abbrev pub IsStandIn : List ℕ → Option (List ℕ) → Type 0
IsStandIn body None = IsTrue (is_body body)
IsStandIn body (Some braces) = (body ≡ []) × (braces ≡ 123 ∷ 125 ∷ [])

-- the winner of the tree, what stands in for the body, and who wrote it
pub record ArePartsOf (by : Option (List ℕ)) (body : List ℕ) (tree : List Node) (p : Parts) : Type 0 where
  pub winner : option_map (λ l. l.rev) (winner_of tree) ≡ Some p.winner
  pub stand_in : IsStandIn body p.braces
  pub by_is : p.by ≡ by
  pub name : IfSome p.by (λ text. IsTrue (is_name text) × IsUtf8 text)

-- what the board said of the revision is kept
pub record IsAcceptedOn (judged : Judged) (a : Accepted) : Type 0 where
  pub at : a.at ≡ judged.at
  pub base : a.base ≡ judged.base
  pub tree : a.tree ≡ judged.tree
  pub kept : a.kept ≡ judged.kept

-- a revision that extends its document's tree at a board, with at most 1,000 ancestors, and that the program accepts by it
pub record IsAcceptedBy (s : State) (program : Program) (strict : Bool) (by : Option (List ℕ)) (r : Revision) (a : Accepted) : Type 0 where
  pub at : a.at ≡ length s.log
  pub base : a.base ≡ last_on s r.doc
  pub tree : IsNewTree (board_tree (board_of s) r.doc) r a.tree a.kept
  pub few : a.kept ≤ 1000
  pub judged : IsJudged strict by r (board_of s) extends_tree a.at
  pub said : IsSaid program by r (board_of s) (Ok a.effects)
  pub effects : AreEffects a.effects
  pub parts : ArePartsOf by r.body a.tree a.parts
  -- the winner's revision is in its grammar by these
  pub entries : AreEntries (book_on s)
  pub writes : AreAccepted (writes_on s r.doc)
