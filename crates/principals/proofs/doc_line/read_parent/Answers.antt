use Rattle.std.proofs.Common.{◌≡◌, arith, codes, refl}
use Rattle.std.proofs.lemmas.Grind.{common_steps}
use Rattle.principals.proofs.FaultLemmas.{dash_text}
use Rattle.principals.proofs.doc_line.read_parent.Goals as goal

pub returns-in-45-clause-ok : goal.returns-in-45-clause-ok
returns-in-45-clause-ok c =
    let dash : c.args.field.now ≡ codes "-" = grind (arith, common_steps) in
    (dash, refl, dash_text c.args.field.now dash)
