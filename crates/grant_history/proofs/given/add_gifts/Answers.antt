use Rattle.std.proofs.Common.{◌∙◌, ap, arith, [], ◌∷◌, ◌++◌}
use Rattle.sg_names.specs.declared.grants.Grantee.TheVariants.{User}
use Rattle.sg_names.specs.declared.role_grants.RoleGrant.{RoleGrant}
use Rattle.grant_history.specs.declared.facts.Fact.{Fact}
use Rattle.grant_tracks.specs.declared.things.What.TheVariants as what
use Rattle.grant_history.specs.Facts.{fact}
use Rattle.grant_tracks.proofs.Gathered.{map_over, map_end}
use Rattle.grant_history.proofs.given.add_gifts.Goals as goal

pub loop-gift-preserved : goal.loop-gift-preserved
loop-gift-preserved c =
    map_over (λ (g : RoleGrant). fact (User g.user) (what.Role g.role)) c.args.gifts.now c.loop-gift.gift-index c.gift-item.result _ _ (omega arith) c.gift-item.is
    (c.in_ok-push.ensures.items ∙ ap (λ (one : Fact). c.loop-gift.list.items ++ one ∷ []) c.in_ok-gift_fact.ensures)
    ∙ c.loop-gift.invariant

pub returns : goal.returns
returns c = map_end (λ (g : RoleGrant). fact (User g.user) (what.Role g.role)) c.args.gifts.now c.loop-gift.gift-index _ (omega (arith, c.loop-gift-test.false)) ∙ c.loop-gift.invariant
