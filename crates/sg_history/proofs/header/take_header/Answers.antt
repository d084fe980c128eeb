use Rattle.std.proofs.Common.{◌∙◌, arith, subst, sym}
use Rattle.sg_history.specs.BadLine.{IsBadJournal}
use Rattle.sg_history.specs.Journal.{header_of}
use Rattle.sg_history.proofs.Titles.{header_taken}
use Rattle.sg_history.proofs.header.take_header.Goals as goal

pub returns-clause-ok : goal.returns-clause-ok
returns-clause-ok c =
    let header = c.in-Ok.header in
    let is = sym c.as_slice.ensures ∙ c.in-Ok.ensures.ok in
    header_taken c.args.bytes header.lines.now c.drop_front.new.self (header_of header.limit) _ is (omega arith) c.drop_front.ensures

pub returns-in-Err-clause-bad : goal.returns-in-Err-clause-bad
returns-in-Err-clause-bad c =
    let why = c.in-Err.why in
    subst (λ bytes. IsBadJournal bytes (record { place = 1; why = why })) c.as_slice.ensures c.in-Err.ensures.bad
