use Rattle.std.proofs.Common.{◌∙◌, arith}
use Rattle.grant_history.specs.inner.Gifts.{held_gives}
use Rattle.grant_tracks.proofs.Gathered.{any_over, any_left}
use Rattle.grant_history.proofs.gifts.add_all.Goals as goal

pub loop-held-preserved : goal.loop-held-preserved
loop-held-preserved c = λ x k.
    any_over (held_gives c.args.giver.now c.args.exists x k) c.args.all.now c.loop-held.held-index c.held-item.result _ _ (omega arith) c.held-item.is (c.in_ok-add_held.ensures x k)
    ∙ c.loop-held.invariant x k

pub returns : goal.returns
returns c = λ x k. any_left (held_gives c.args.giver.now c.args.exists x k) c.args.all.now c.loop-held.held-index _ (omega (arith, c.loop-held-test.false)) ∙ c.loop-held.invariant x k
