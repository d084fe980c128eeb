use Rattle.std.proofs.Common.{IsUtf8, subst, List, ℕ}
use Rattle.sg_names.specs.Grants.{grantee_text}
use Rattle.board_steps.proofs.NameTexts.{with_equals}
use Rattle.board_steps.proofs.texts.pass_grant.Goals as goal

pub returns : goal.returns
returns c =
    let channel : IsUtf8 c.args.grant.now.channel = subst (λ (t : List ℕ). IsUtf8 t) c.as_str.ensures.value c.as_str.utf8 in
    with_equals (grantee_text c.args.grant.now.to) c.args.grant.now.channel c.pass_grantee.ensures channel
