use Rattle.std.proofs.Common.{arith}
use Rattle.std.proofs.lemmas.Grind.{common_steps}
use Rattle.sg_history.proofs.WriteFields.{body_read}
use Rattle.record_file.proofs.Lines.{idle_fine}
use Rattle.record_file.proofs.line.read_item.Goals as goal

pub returns-in_ok-read_frame-in_default-clause-ok : goal.returns-in_ok-read_frame-in_default-clause-ok
returns-in_ok-read_frame-in_default-clause-ok c =
    let read = c.in_ok-read_frame-in_default.ensures.ok in
    (read.0, body_read c.args.line.now c.in_ok-read_frame-in_default.field-0 read.0 read.1)

pub returns-in-idle-clause-fault : goal.returns-in-idle-clause-fault
returns-in-idle-clause-fault c = idle_fine c.args.line.now (grind (arith, common_steps))
