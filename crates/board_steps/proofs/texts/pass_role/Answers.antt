use Rattle.board_steps.proofs.NameTexts.{with_equals}
use Rattle.board_steps.proofs.texts.pass_role.Goals as goal

pub returns : goal.returns
returns c = with_equals c.args.grant.now.user c.args.grant.now.role c.pass_name.ensures c.pass_name-2.ensures
