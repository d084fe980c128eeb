use Rattle.std.proofs.Common.{◌∙◌, ap, arith, ℕ, List, [], ◌∷◌, ◌++◌}
use Rattle.sg_history.specs.Puts.{grantee_in}
use Rattle.grant_history.specs.declared.facts.Fact.{Fact}
use Rattle.grant_tracks.specs.declared.things.What.TheVariants as what
use Rattle.grant_history.specs.Facts.{fact}
use Rattle.grant_tracks.proofs.Gathered.{map_over, map_end}
use Rattle.grant_history.proofs.given.add_channels.Goals as goal

pub loop-channel-preserved : goal.loop-channel-preserved
loop-channel-preserved c =
    map_over (λ (x : List ℕ). fact (grantee_in c.args.of) (what.Channel x)) c.args.channels.now c.loop-channel.channel-index c.channel-item.result _ _ (omega arith) c.channel-item.is
    (c.in_ok-push.ensures.items ∙ ap (λ (one : Fact). c.loop-channel.list.items ++ one ∷ []) c.in_ok-channel_fact.ensures)
    ∙ c.loop-channel.invariant

pub returns : goal.returns
returns c = map_end (λ (x : List ℕ). fact (grantee_in c.args.of) (what.Channel x)) c.args.channels.now c.loop-channel.channel-index _ (omega (arith, c.loop-channel-test.false)) ∙ c.loop-channel.invariant
