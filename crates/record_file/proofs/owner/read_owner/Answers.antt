use Rattle.std.proofs.Common.{◌≡◌, ◌≢◌, arith, codes, sym, subst}
use Rattle.std.proofs.lemmas.Grind.{common_steps}
use Rattle.sg_history.specs.Pieces.{pieces}
use Rattle.sg_history.specs.declared.fault.Why.TheVariants as reason
use Rattle.record_file.specs.Faults.{IsOwnerFault}
use Rattle.record_file.proofs.Owners.{behind_user, other_kind}
use Rattle.record_file.proofs.owner.read_owner.Goals as goal

pub returns-in-user-clause-reason : goal.returns-in-user-clause-reason
returns-in-user-clause-reason c =
    let is : c.in-Some.kind.now ≡ codes "user" = grind (arith, common_steps) in
    behind_user c.args.line.now c.in-Some.kind.now (pieces 9 c.in-Some.fields.now) c.read_fields.result c.in-Some.ensures.pieces is c.read_fields.ensures.reason

pub returns-in_default-kind-clause-reason : goal.returns-in_default-kind-clause-reason
returns-in_default-kind-clause-reason c =
    let other : c.in-Some.kind.now ≢ codes "user" = grind (arith, common_steps) in
    subst (λ fields. IsOwnerFault fields reason.Kind) (sym c.in-Some.ensures.pieces) (other_kind c.in-Some.kind.now (pieces 9 c.in-Some.fields.now) other)
