use Rattle.std.proofs.Common.{ap, sym, ◌∙◌}
use Rattle.sg_names.specs.Grammar.{lacks}
use Rattle.sg_names.specs.declared.grants.Grantee.TheVariants.{User}
use Rattle.sg_names.proofs.GranteeOrder.{user_before_role, role_before_user}
use Rattle.sg_names.proofs.ItemTexts.{name_lacks_colon}
use Rattle.sg_names.proofs.grants.Grantee.order.Goals as goal

pub returns-in-User-Role : goal.returns-in-User-Role
returns-in-User-Role c =
    let text = c.as_bytes.ensures.value in
    user_before_role c.as_bytes.result.now c.in-User-Role.field-0-1 c.as_slice.result.now c.args.self.now c.args.other.now c.cmp.result
    (c.in-User-Role.is-0 ∙ ap User (sym text)) c.in-User-Role.is-1
    (ap (lacks 58) text ∙ name_lacks_colon c.in-User-Role.a c.as_bytes.ensures.grammar) c.as_slice.ensures c.cmp.ensures

pub returns-in-Role-User : goal.returns-in-Role-User
returns-in-Role-User c =
    let text = c.as_bytes-in-Role-User.ensures.value in
    role_before_user c.in-Role-User.field-0-0 c.as_bytes-in-Role-User.result.now c.as_slice-in-Role-User.result.now c.args.self.now c.args.other.now c.cmp-in-Role-User.result
    c.in-Role-User.is-0 (c.in-Role-User.is-1 ∙ ap User (sym text))
    (ap (lacks 58) text ∙ name_lacks_colon c.in-Role-User.b c.as_bytes-in-Role-User.ensures.grammar) c.as_slice-in-Role-User.ensures c.cmp-in-Role-User.ensures
