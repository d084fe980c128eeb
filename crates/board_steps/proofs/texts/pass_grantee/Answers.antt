use Rattle.std.proofs.Common.{IsUtf8, subst, sym}
use Rattle.sg_names.specs.declared.grants.Grantee.{Grantee}
use Rattle.sg_names.specs.Grants.{grantee_text}
use Rattle.board_steps.proofs.NameTexts.{role_utf8}
use Rattle.board_steps.proofs.texts.pass_grantee.Goals as goal

pub returns-in-Role : goal.returns-in-Role
returns-in-Role c = subst (λ (to : Grantee). IsUtf8 (grantee_text to)) (sym c.in-Role.is) (role_utf8 c.in-Role.name c.pass_name-in-Role.ensures)
