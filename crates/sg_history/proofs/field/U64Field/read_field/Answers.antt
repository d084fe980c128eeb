use Rattle.std.proofs.Common.{◌∙◌, arith, sym}
use Rattle.sg_history.proofs.SyncTexts.{number_utf8}
use Rattle.sg_history.proofs.field.U64Field.read_field.Goals as goal

pub returns-in_err-text-clause-bad : goal.returns-in_err-text-clause-bad
returns-in_err-text-clause-bad c = λ fault h. c.in_err-text.ensures.bad.1 (number_utf8 c.args.field.now h)

pub returns-in-Some-clause-ok : goal.returns-in-Some-clause-ok
returns-in-Some-clause-ok c = (omega arith, sym c.in_ok-text.ensures.ok.0 ∙ c.in-Some.ensures.some)

pub returns-in-Some-clause-text : goal.returns-in-Some-clause-text
returns-in-Some-clause-text c = (c.in-Some.number, omega arith, sym c.in_ok-text.ensures.ok.0 ∙ c.in-Some.ensures.some)

pub returns-in-None-clause-bad : goal.returns-in-None-clause-bad
returns-in-None-clause-bad c = λ fault h. c.in-None.ensures.none h.0 h.1 (c.in_ok-text.ensures.ok.0 ∙ h.2)
