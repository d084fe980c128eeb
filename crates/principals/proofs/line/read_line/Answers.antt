use Rattle.std.proofs.Common.{subst, IfErr, sym, arith}
use Rattle.std.proofs.lemmas.List.{length-take-le}
use Rattle.sg_history.specs.Faults.{HasReason}
use Rattle.principals.specs.Faults.{IsScriptFault}
use Rattle.principals.proofs.Texts.{lines_read}
use Rattle.principals.proofs.line.read_line.Goals as goal

pub slice_bounds-fields-end-in-Some : goal.slice_bounds-fields-end-in-Some
slice_bounds-fields-end-in-Some c = omega (arith, c.in-Some.ensures.within, c.in-Some.ensures.room)

pub slice_bounds-read_fields-end : goal.slice_bounds-read_fields-end
slice_bounds-read_fields-end c = sym (length-take-le c.in-Some.count c.fields_of.new.into (omega (arith, c.in-Some.ensures.within, c.in-Some.ensures.room)))

pub returns-in-Some-clause-ok : goal.returns-in-Some-clause-ok
returns-in-Some-clause-ok c = lines_read c.read_fields.result _ c.args.line.now c.in-Some.ensures.all c.read_fields.ensures.ok

pub returns-in-Some-clause-reason : goal.returns-in-Some-clause-reason
returns-in-Some-clause-reason c =
    subst (λ fields. IfErr c.read_fields.result (HasReason (IsScriptFault fields))) c.in-Some.ensures.all c.read_fields.ensures.reason
