use Rattle.std.proofs.Common.{◌∙◌, arith}
use Rattle.grant_history.specs.inner.Givers.{giver_has}
use Rattle.grant_tracks.proofs.Gathered.{any_over, any_left}
use Rattle.grant_history.proofs.gifts.add_givers.Goals as goal

pub loop-giver-preserved : goal.loop-giver-preserved
loop-giver-preserved c = λ x k.
    any_over (λ g. giver_has g k x) c.args.givers.now c.loop-giver.giver-index c.giver-item.result _ _ (omega arith) c.giver-item.is (c.in_ok-add_giver.ensures x k)
    ∙ c.loop-giver.invariant x k

pub returns : goal.returns
returns c = λ x k. any_left (λ g. giver_has g k x) c.args.givers.now c.loop-giver.giver-index _ (omega (arith, c.loop-giver-test.false)) ∙ c.loop-giver.invariant x k
