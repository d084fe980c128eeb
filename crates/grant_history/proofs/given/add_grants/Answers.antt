use Rattle.std.proofs.Common.{◌∙◌, ap, arith, [], ◌∷◌, ◌++◌}
use Rattle.sg_names.specs.declared.grants.Grant.{Grant}
use Rattle.grant_history.specs.declared.facts.Fact.{Fact}
use Rattle.grant_tracks.specs.declared.things.What.TheVariants as what
use Rattle.grant_history.specs.Facts.{fact}
use Rattle.grant_tracks.proofs.Gathered.{map_over, map_end}
use Rattle.grant_history.proofs.given.add_grants.Goals as goal

pub loop-grant-preserved : goal.loop-grant-preserved
loop-grant-preserved c =
    map_over (λ (g : Grant). fact g.to (what.Channel g.channel)) c.args.grants.now c.loop-grant.grant-index c.grant-item.result _ _ (omega arith) c.grant-item.is
    (c.in_ok-push.ensures.items ∙ ap (λ (one : Fact). c.loop-grant.list.items ++ one ∷ []) c.in_ok-grant_fact.ensures)
    ∙ c.loop-grant.invariant

pub returns : goal.returns
returns c = map_end (λ (g : Grant). fact g.to (what.Channel g.channel)) c.args.grants.now c.loop-grant.grant-index _ (omega (arith, c.loop-grant-test.false)) ∙ c.loop-grant.invariant
