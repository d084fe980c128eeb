-- What the functions that judge a revision hand on to one another. Only proofs need this.
use Rattle.std.specs.Prelude.{◌≡◌, ◌≤◌, ℕ, Bool, true, false, List, length, reverse, option_map, Option, Some, None, Ok, Err, IfSome}
use Rattle.sg_history.specs.Board.{BoardState}
use Rattle.json_doc.specs.Tree.{Tree}
use Rattle.repl_messages.specs.declared.revision.Revision.{Revision}
use Rattle.rev_tree.specs.Documents.{deletes}
use Rattle.rev_tree.specs.declared.extend.Extended.{Extended}
use Rattle.rev_tree.specs.declared.extend.Extended.TheVariants as extended
use Rattle.sync_syntax.specs.declared.tree.Program.{Program}
use Rattle.sync_values.specs.declared.fault.Stop.TheVariants as stop
use Rattle.sync_values.specs.Found.{Found}
use Rattle.sync_meaning.specs.declared.effects.Effects.{Effects}
use Rattle.sync_meaning.specs.Meaning.{meaning}
use Rattle.sync_eval.specs.declared.verdict.Verdict.{Verdict}
use Rattle.sync_eval.specs.declared.verdict.Verdict.TheVariants.{Accept, Deny, Memory}
use Rattle.doc_board.specs.declared.outcome.Outcome.{Outcome}
use Rattle.doc_board.specs.declared.outcome.Outcome.TheVariants as outcome
use Rattle.doc_board.specs.declared.snapshot.Snapshot.{Snapshot}
use Rattle.doc_board.specs.Answers.{IsNewTree, IsStep, proposer_exists}
use Rattle.doc_board.specs.Boards.{board_of, board_tree}
use Rattle.doc_board.specs.Contexts.{IsContext}
use Rattle.doc_board.specs.Judging.{IsTreeOf, IsSaid, board_base, body_or_empty}
use Rattle.doc_board.specs.Recorded.{HasDocument}
use Rattle.doc_board.specs.State.{State, last_on}
use Rattle.board_steps.specs.declared.judging.Basis.{Basis}
use Rattle.board_steps.specs.declared.accepted.Judged.{Judged}

-- the fact holds of what a verdict says, where memory was not short
abbrev pub IsVerdict : (Found Effects → Type 0) → Verdict → Type 0
IsVerdict says (Accept effects) = says (Ok effects)
IsVerdict says (Deny rule) = says (Err (stop.Deny rule))
IsVerdict says Memory = Unit {0}

-- the tree of an old body, where there is one
abbrev pub IsOldBody : Option (List ℕ) → Bool → List ℕ → Option Tree → Type 0
IsOldBody None deleted id old = old ≡ None
IsOldBody (Some body) deleted id old = (tree : Tree) × IsTreeOf body id deleted tree × (old ≡ Some tree)

-- what the program says of a document with this identifier, judged on this
pub record IsSaidOfDocument (program : Program) (id : List ℕ) (document : Tree) (basis : Basis) (said : Found Effects) : Type 0 where
  pub old : Option Tree
  pub is_old : IsOldBody basis.old basis.old_deleted id old
  pub is_meant : meaning program document old basis.context ≡ said

-- what the program says of the revision's document, judged on this
pub record IsSaidOn (program : Program) (r : Revision) (basis : Basis) (said : Found Effects) : Type 0 where
  pub document : Tree
  pub old : Option Tree
  pub is_document : IsTreeOf (body_or_empty r.body) r.doc r.deleted document
  pub is_old : IsOldBody basis.old basis.old_deleted r.doc old
  pub is_meant : meaning program document old basis.context ≡ said

-- the write on which a revision is based by a board, and who proposes it with the roles and channels at the board's front
pub record IsBasis (s : State) (by : Option (List ℕ)) (r : Revision) (basis : Basis) : Type 0 where
  pub old : basis.old ≡ option_map (λ w. w.body) (board_base (board_of s) r.doc r.ancestors)
  pub old_deleted : basis.old_deleted ≡ deletes (board_base (board_of s) r.doc r.ancestors)
  pub documents : IfSome basis.old (λ body. HasDocument body)
  pub context : IsContext (reverse s.log) by basis.context

-- the outcome of a revision that the program does not accept, judged on this at this front: it is denied by its rule, or memory was short
abbrev pub IsDeniedOn : Program → Revision → Basis → ℕ → Outcome → Type 0
IsDeniedOn program r basis front (outcome.Denied403 at rule) = IsSaidOn program r basis (Err (stop.Deny rule)) × (at ≡ front)
IsDeniedOn program r basis front outcome.Memory507 = Unit {0}
IsDeniedOn program r basis front other = ⊥

-- the same, judged by a board
abbrev pub IsDenied : Program → Option (List ℕ) → Revision → BoardState → ℕ → Outcome → Type 0
IsDenied program by r board front (outcome.Denied403 at rule) = IsSaid program by r board (Err (stop.Deny rule)) × (at ≡ front)
IsDenied program by r board front outcome.Memory507 = Unit {0}
IsDenied program by r board front other = ⊥

-- ---- what a board says of a revision

-- a snapshot of a board for a revision
pub record IsSnapshot (s : State) (strict : Bool) (by : Option (List ℕ)) (r : Revision) (snapshot : Snapshot) : Type 0 where
  pub at : snapshot.at ≡ length s.log
  pub last : snapshot.last ≡ last_on s r.doc
  pub step : IsStep (board_tree (board_of s) r.doc) r strict snapshot.step
  pub user : snapshot.user_exists ≡ proposer_exists (reverse s.log) by
  pub basis : IsBasis s by r (record { old = snapshot.old; old_deleted = snapshot.old_deleted; context = snapshot.context })

-- by a snapshot the proposer exists, and the revision extends its document's tree, with this tree after it, to be judged on this
pub record IsExtension (snapshot : Snapshot) (judged : Judged) : Type 0 where
  pub user : snapshot.user_exists ≡ true
  pub step : snapshot.step ≡ extended.NewTree judged.tree judged.kept
  pub at : judged.at ≡ snapshot.at
  pub base : judged.base ≡ snapshot.last
  pub basis : judged.basis ≡ record { old = snapshot.old; old_deleted = snapshot.old_deleted; context = snapshot.context }

-- the outcome of a revision at a front, by whether its proposer exists, and by its outcome in its document's tree, where it does not extend that
abbrev pub IsStoppedBy : ℕ → Bool → Extended → Outcome → Type 0
IsStoppedBy front exists step (outcome.UserGone401 at) = (exists ≡ false) × (at ≡ front)
IsStoppedBy front exists step (outcome.Known at) = (exists ≡ true) × (step ≡ extended.Known) × (at ≡ front)
IsStoppedBy front exists step (outcome.BadHistory400 at) = (exists ≡ true) × (step ≡ extended.BadHistory400) × (at ≡ front)
IsStoppedBy front exists step (outcome.Conflict409 at leaf) = (exists ≡ true) × (step ≡ extended.Conflict409 leaf) × (at ≡ front)
IsStoppedBy front exists step outcome.Memory507 = Unit {0}
IsStoppedBy front exists step other = ⊥

-- the board's front, the last write of the revision's document, the tree with the revision, on at most 1,000 ancestors, and what the program is to judge it on
pub record IsExtensionAt (s : State) (by : Option (List ℕ)) (r : Revision) (judged : Judged) : Type 0 where
  pub at : judged.at ≡ length s.log
  pub base : judged.base ≡ last_on s r.doc
  pub tree : IsNewTree (board_tree (board_of s) r.doc) r judged.tree judged.kept
  pub few : judged.kept ≤ 1000
  pub basis : IsBasis s by r judged.basis
