use Rattle.sg_history.proofs.BadLines.{one_bad, no_journal}
use Rattle.sg_history.proofs.DecidedLines.{journal_or_bad}
use Rattle.sg_history.proofs.laws.bad_lines.Goals as goal

pub returns : goal.returns
returns c = record { one = one_bad; apart = no_journal; either = journal_or_bad }
