-- The outcome of a revision that is proposed, by a board: the first of the answers that is due.
use Rattle.std.specs.Prelude.{◌≡◌, ◌≤◌, ◌<◌, ℕ, Bool, true, false, List, length, reverse, take, option_map, Option, Some, None, Ok, Err, IsTrue}
use Rattle.sg_names.specs.Grammar.{is_doc_id}
use Rattle.sg_names.specs.RevId.{is_rev}
use Rattle.sg_names.specs.Revs.{is_revs}
use Rattle.sg_names.specs.declared.rev_id.RevId.{RevId}
use Rattle.sg_history.specs.declared.entries.Write.{Write}
use Rattle.sg_history.specs.Board.{BoardState}
use Rattle.rev_tree.specs.Documents.{recorded}
use Rattle.rev_tree.specs.Tree.{winner_of}
use Rattle.rev_tree.specs.Extension.{Verdict, verdict_of, is_known, has_bad_history, makes_conflict, extends_tree, kept_ancestors, with_write}
use Rattle.repl_messages.specs.declared.request.Field.{Field}
use Rattle.repl_messages.specs.declared.request.Field.TheVariants as field
use Rattle.repl_messages.specs.declared.revision.Revision.{Revision}
use Rattle.sync_syntax.specs.declared.tree.Program.{Program}
use Rattle.sync_values.specs.declared.fault.Stop.TheVariants.{Deny}
use Rattle.sync_meaning.specs.declared.effects.Effects.{Effects}
use Rattle.doc_board.specs.declared.outcome.Outcome.{Outcome}
use Rattle.doc_board.specs.declared.outcome.Outcome.TheVariants as outcome
use Rattle.doc_board.specs.declared.candidate.NoRoom.TheVariants as no_room
use Rattle.doc_board.specs.Answers.{proposer_exists}
use Rattle.doc_board.specs.Boards.{board_tree}
use Rattle.doc_board.specs.Judging.{IsSaid, body_or_empty}
use Rattle.doc_board.specs.Limits.{refusal}
use Rattle.doc_board.specs.Recorded.{HasDocument}

-- ---- the revision itself

-- the names are in their grammar
pub record IsNamed (r : Revision) : Type 0 where
  pub doc : IsTrue (is_doc_id r.doc)
  pub rev : IsTrue (is_rev r.rev)
  pub history : IsTrue (is_revs r.ancestors)

-- besides, the body is a document of at most so many bytes as one may have
pub record IsWellFormed (r : Revision) : Type 0 where
  pub named : IsNamed r
  pub size : length r.body ≤ 20971520
  pub body : HasDocument r.body

-- the names are in their grammar, and the body has so many bytes, which are too many
pub record IsTooLarge (r : Revision) (bytes : ℕ) : Type 0 where
  pub named : IsNamed r
  pub size : bytes ≡ length r.body
  pub above : 20971520 < length r.body

-- the first part of the revision that is bad, where its body is not too large
abbrev pub IsBadPart : Revision → Field → Type 0
IsBadPart r field.Id = is_doc_id r.doc ≡ false
IsBadPart r field.Rev = IsTrue (is_doc_id r.doc) × (is_rev r.rev ≡ false)
IsBadPart r field.History = IsTrue (is_doc_id r.doc) × IsTrue (is_rev r.rev) × (is_revs r.ancestors ≡ false)
IsBadPart r field.Body = IsNamed r × (length r.body ≤ 20971520) × (¬ HasDocument r.body)
IsBadPart r field.Client = ⊥
IsBadPart r field.Since = ⊥
IsBadPart r field.Batch = ⊥
IsBadPart r field.Filter = ⊥
IsBadPart r field.Channels = ⊥
IsBadPart r field.Rows = ⊥

-- ---- a revision by a board

-- the proposer of a well-formed revision does not exist at the board's front
pub record IsUserGone (by : Option (List ℕ)) (r : Revision) (board : BoardState) (at : ℕ) : Type 0 where
  pub formed : IsWellFormed r
  pub gone : proposer_exists (reverse board.log) by ≡ false
  pub front : at ≡ length board.log

-- a well-formed revision whose proposer exists at the board's front, with what the tree of its document in the board's book says of it
pub record IsJudged (strict : Bool) (by : Option (List ℕ)) (r : Revision) (board : BoardState) (said : Verdict) (at : ℕ) : Type 0 where
  pub formed : IsWellFormed r
  pub proposer : proposer_exists (reverse board.log) by ≡ true
  pub verdict : verdict_of (board_tree board r.doc) r.rev r.ancestors strict ≡ said
  pub front : at ≡ length board.log

-- the revision of the winner of a document in a board's book
abbrev pub IsWinner : BoardState → List ℕ → RevId → Type 0
IsWinner board doc leaf = option_map (λ w. w.rev) (winner_of (board_tree board doc)) ≡ Some leaf

-- the program accepts the revision by the board, with some effects
abbrev pub IsAccepted : Program → Option (List ℕ) → Revision → BoardState → Type 0
IsAccepted program by r board = (effects : Effects) × IsSaid program by r board (Ok effects)

-- the outcome of a revision that is proposed, under a program and strictness or not, by a user or by the administrator, as far as it is judged; out of memory may come at any
abbrev pub IsOutcome : Program → Bool → Option (List ℕ) → Revision → BoardState → Outcome → Type 0
IsOutcome program strict by r board (outcome.Bad400 bad) = IsBadPart r bad
IsOutcome program strict by r board (outcome.TooLarge413 bytes) = IsTooLarge r bytes
IsOutcome program strict by r board (outcome.UserGone401 at) = IsUserGone by r board at
IsOutcome program strict by r board (outcome.Known at) = IsJudged strict by r board is_known at
IsOutcome program strict by r board (outcome.BadHistory400 at) = IsJudged strict by r board has_bad_history at
IsOutcome program strict by r board (outcome.Conflict409 at leaf) = IsJudged strict by r board makes_conflict at × IsWinner board r.doc leaf
IsOutcome program strict by r board (outcome.Denied403 at rule) = IsJudged strict by r board extends_tree at × IsSaid program by r board (Err (Deny rule))
IsOutcome program strict by r board (outcome.Stored sequence at) = IsJudged strict by r board extends_tree at × IsAccepted program by r board × (at < sequence)
IsOutcome program strict by r board (outcome.Full503 at places) = IsJudged strict by r board extends_tree at × IsAccepted program by r board
IsOutcome program strict by r board (outcome.LogFull509 at entries bytes) = IsJudged strict by r board extends_tree at × IsAccepted program by r board
IsOutcome program strict by r board outcome.Memory507 = Unit {0}

-- the bytes that a revision asks a board for: those of the body that is stored
abbrev pub bytes_of : Revision → ℕ
bytes_of r = length (body_or_empty r.body)

-- how an outcome goes with the limits of a board, for so many bytes: what is stored is refused no room, and a room is refused with the board's own sums
abbrev pub IsByLimits : ℕ → BoardState → Outcome → Type 0
IsByLimits bytes board (outcome.Bad400 bad) = Unit {0}
IsByLimits bytes board (outcome.TooLarge413 size) = Unit {0}
IsByLimits bytes board (outcome.UserGone401 at) = Unit {0}
IsByLimits bytes board (outcome.Known at) = Unit {0}
IsByLimits bytes board (outcome.BadHistory400 at) = Unit {0}
IsByLimits bytes board (outcome.Conflict409 at leaf) = Unit {0}
IsByLimits bytes board (outcome.Denied403 at rule) = Unit {0}
IsByLimits bytes board (outcome.Stored sequence at) = refusal board bytes ≡ None
IsByLimits bytes board (outcome.Full503 at places) = refusal board bytes ≡ Some (no_room.Full503 places)
IsByLimits bytes board (outcome.LogFull509 at entries sum) = refusal board bytes ≡ Some (no_room.LogFull509 entries sum)
IsByLimits bytes board outcome.Memory507 = Unit {0}

-- ---- the write that is stored

-- the effects that a write has
abbrev pub effects_in : Write → Effects
effects_in w = record { channels = w.channels; grants = w.grants; roles = w.roles }

-- the write of a revision that was judged by a board: with the ancestors that its document's tree keeps of it, at the board's front, with the winner that the tree then has, and with the effects with which the program accepts the revision
pub record IsWriteOf (program : Program) (author : Option (List ℕ)) (r : Revision) (board : BoardState) (w : Write) : Type 0 where
  pub doc : w.doc ≡ r.doc
  pub rev : w.rev ≡ r.rev
  pub ancestors : w.ancestors ≡ take (kept_ancestors (board_tree board r.doc) r.ancestors) r.ancestors
  pub deleted : w.deleted ≡ r.deleted
  pub body : w.body ≡ body_or_empty r.body
  pub by : w.by ≡ author
  pub at : w.at ≡ length board.log
  pub winner : option_map (λ l. l.rev) (winner_of (with_write (board_tree board r.doc) (recorded w))) ≡ Some w.winner
  pub accepted : IsSaid program author r board (Ok (effects_in w))
