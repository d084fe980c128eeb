use Rattle.std.proofs.Common.{refl}
use Rattle.principals.proofs.FaultLemmas.{too_late}
use Rattle.principals.proofs.doc_line.read_followed.Goals as goal

pub returns-then-rev-clause-reason : goal.returns-then-rev-clause-reason
returns-then-rev-clause-reason c =
    let read = c.in_ok-rev.ensures.ok in
    (refl, too_late c.args.field.now c.in_ok-rev.rev read.0 read.1 c.if-rev.true c.requires)
