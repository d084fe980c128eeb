-- The error by which a proposed revision is refused.
use Rattle.std.specs.Prelude.{Option, Some, None}
use Rattle.repl_messages.specs.declared.error.ErrorKind.{ErrorKind}
use Rattle.repl_messages.specs.declared.error.ErrorKind.TheVariants as errors
use Rattle.sync_values.specs.Texts.{rule_text}
use Rattle.doc_board.specs.declared.outcome.Outcome.{Outcome}
use Rattle.doc_board.specs.declared.outcome.Outcome.TheVariants as outcome

-- the error by which a proposed revision is refused, by its outcome; none where its document has it now
abbrev pub outcome_error : Outcome → Option ErrorKind
outcome_error (outcome.Bad400 field) = Some (errors.Bad400 field)
outcome_error (outcome.TooLarge413 bytes) = Some errors.TooLarge413
outcome_error (outcome.UserGone401 at) = Some errors.UserGone401
outcome_error (outcome.Known at) = None
outcome_error (outcome.BadHistory400 at) = Some errors.BadHistory400
outcome_error (outcome.Conflict409 at leaf) = Some (errors.Conflict409 leaf)
outcome_error (outcome.Denied403 at rule) = Some (errors.Denied403 (rule_text rule))
outcome_error (outcome.Stored sequence at) = None
outcome_error (outcome.Full503 at places) = Some errors.PendingFull503
outcome_error (outcome.LogFull509 at entries bytes) = Some errors.LogFull509
outcome_error outcome.Memory507 = Some errors.Memory507
