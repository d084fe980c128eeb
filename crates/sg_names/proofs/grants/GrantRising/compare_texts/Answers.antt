use Rattle.sg_names.specs.Grants.{grantee_text}
use Rattle.sg_names.proofs.ItemTexts.{grant_parts, grantee_lacks_equals}
use Rattle.sg_names.proofs.grants.GrantRising.compare_texts.Goals as goal

pub returns : goal.returns
returns c = λ x y x_is y_is one other.
    c.order_at_equals.ensures (grantee_text x.to) x.channel (grantee_text y.to) y.channel one (grantee_lacks_equals x.to (grant_parts x x_is).to)
    other (grantee_lacks_equals y.to (grant_parts y y_is).to)
