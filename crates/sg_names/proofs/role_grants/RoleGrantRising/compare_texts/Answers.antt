use Rattle.sg_names.proofs.ItemTexts.{name_lacks_equals, role_grant_parts}
use Rattle.sg_names.proofs.role_grants.RoleGrantRising.compare_texts.Goals as goal

pub returns : goal.returns
returns c = λ x y x_is y_is one other.
    c.order_at_equals.ensures x.user x.role y.user y.role one (name_lacks_equals x.user (role_grant_parts x x_is).user)
    other (name_lacks_equals y.user (role_grant_parts y y_is).user)
