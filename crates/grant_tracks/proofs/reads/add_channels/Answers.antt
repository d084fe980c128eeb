use Rattle.std.proofs.Common.{◌∙◌, arith}
use Rattle.std.specs.Borrow.{Bor}
use Rattle.grant_tracks.specs.declared.held.Held.{Held}
use Rattle.grant_tracks.specs.Reads.{is_channel}
use Rattle.grant_tracks.proofs.Gathered.{any_over, any_left}
use Rattle.grant_tracks.proofs.reads.add_channels.Goals as goal

pub loop-one-preserved : goal.loop-one-preserved
loop-one-preserved c = λ x.
    any_over (λ (h : Bor Held). is_channel h.now.what x) c.args.held.now c.loop-one.one-index c.one-item.result _ _ (omega arith) c.one-item.is (c.in_ok-add_if_channel.ensures.among x)
    ∙ c.loop-one.invariant x

pub returns : goal.returns
returns c = record { among = λ x. any_left (λ (h : Bor Held). is_channel h.now.what x) c.args.held.now c.loop-one.one-index _ (omega (arith, c.loop-one-test.false)) ∙ c.loop-one.invariant x }
