use Rattle.record_file.proofs.Records.{bad_one, record_apart, record_or_bad, record_same}
use Rattle.record_file.proofs.laws.records.Goals as goal

pub returns-clause-one : goal.returns-clause-one
returns-clause-one c = record_same

pub returns-clause-one_bad : goal.returns-clause-one_bad
returns-clause-one_bad c = bad_one

pub returns-clause-apart : goal.returns-clause-apart
returns-clause-apart c = record_apart

pub returns-clause-either : goal.returns-clause-either
returns-clause-either c = record_or_bad
