use Rattle.std.proofs.Common.{◌+◌, [], ◌∷◌, refl}
use Rattle.std.proofs.lemmas.Result.{err_from_is_err_and}
use Rattle.sg_history.proofs.FaultLemmas.{bad_alone, bad_behind, bad_in_front}
use Rattle.sg_history.proofs.field.read_three.Goals as goal

pub returns-clause-texts : goal.returns-clause-texts
returns-clause-texts g c = (c.in_ok-a.ensures.text, c.in_ok-b.ensures.texts)

pub returns-in_err-a-clause-fault : goal.returns-in_err-a-clause-fault
returns-in_err-a-clause-fault g c =
    let exit = err_from_is_err_and c.from_residual.result c.from_residual.ensures.1 in
    let alone = bad_alone c.args.number g.A.Field.grammar c.args.first.now c.in_err-a.field-0.0 c.in_err-a.ensures.fault in
    rw (exit.1, exit.2)
    (bad_in_front c.args.number (g.A.Field.grammar ∷ []) (g.B.Field.grammar ∷ g.C.Field.grammar ∷ []) (c.args.first.now ∷ [])
    (c.args.second.now ∷ c.args.third.now ∷ []) c.in_err-a.field-0.0 alone)

pub returns-in_err-b-clause-fault : goal.returns-in_err-b-clause-fault
returns-in_err-b-clause-fault g c =
    let exit = err_from_is_err_and c.from_residual-in_err-b.result c.from_residual-in_err-b.ensures.1 in
    rw (exit.1, exit.2)
    (bad_behind c.args.number (c.args.number + 1) (g.A.Field.grammar ∷ []) (g.B.Field.grammar ∷ g.C.Field.grammar ∷ []) (c.args.first.now ∷ [])
    (c.args.second.now ∷ c.args.third.now ∷ []) c.in_err-b.field-0.0 (c.in_ok-a.ensures.text, tt) refl c.in_err-b.ensures.fault)
