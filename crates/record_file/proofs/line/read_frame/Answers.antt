use Rattle.record_file.proofs.Owners.{frame_refusal}
use Rattle.record_file.proofs.line.read_frame.Goals as goal

pub returns-clause-fault : goal.returns-clause-fault
returns-clause-fault c = frame_refusal c.args.line.now c.read.result c.read.ensures.text c.read.ensures.fault
