use Rattle.std.proofs.Common.{subst, ◌∷◌, IfOk, IfErr, sym, arith}
use Rattle.std.proofs.lemmas.List.{length-take-le}
use Rattle.sg_history.specs.Faults.{IsFault, HasReason}
use Rattle.sg_history.specs.Line.{AreRead}
use Rattle.sg_history.specs.Pieces.{pieces}
use Rattle.sg_history.proofs.line.read_behind.Goals as goal

pub slice_bounds-fields-end-in-Some : goal.slice_bounds-fields-end-in-Some
slice_bounds-fields-end-in-Some c = omega (arith, c.in-Some.ensures.within, c.in-Some.ensures.room)

pub slice_bounds-read_texts-end : goal.slice_bounds-read_texts-end
slice_bounds-read_texts-end c = sym (length-take-le c.in-Some.count c.fields_of.new.into (omega (arith, c.in-Some.ensures.within, c.in-Some.ensures.room)))

pub returns-in-Some-clause-ok : goal.returns-in-Some-clause-ok
returns-in-Some-clause-ok c =
    subst (λ texts. IfOk c.read_texts.result (λ e. AreRead (c.args.kind.now ∷ texts) e)) c.in-Some.ensures.all c.read_texts.ensures.ok

pub returns-in-Some-clause-reason : goal.returns-in-Some-clause-reason
returns-in-Some-clause-reason c =
    subst (λ texts. IfErr c.read_texts.result (HasReason (IsFault (c.args.kind.now ∷ texts)))) c.in-Some.ensures.all c.read_texts.ensures.reason

pub returns-in-None-clause-reason : goal.returns-in-None-clause-reason
returns-in-None-clause-reason c = c.fault_of_kind.ensures (pieces 9 c.args.line.now) (omega (arith, c.in-None.ensures.more))
