use Rattle.std.proofs.Common.{◌∙◌, ◌&&◌, arith}
use Rattle.grant_tracks.specs.declared.held.Held.{Held}
use Rattle.grant_history.specs.inner.Givers.{giver_has}
use Rattle.grant_tracks.specs.Reads.{gives_channel}
use Rattle.grant_tracks.specs.Tracks.{held_at}
use Rattle.grant_tracks.proofs.Cutting.{moves_over, none_over}
use Rattle.grant_history.proofs.givers.givers_of.Goals as goal

pub loop-held-preserved : goal.loop-held-preserved
loop-held-preserved c = λ k x.
    moves_over (λ g. giver_has g k x) (λ (h : Held). held_at h.track k && gives_channel c.args.roles.now h.what k x) c.args.all.now c.loop-held.held-index c.held-item.result c.loop-held.list.items c.add_giver.new.list.items (omega arith) c.held-item.is (c.in_ok-add_giver.ensures k x)
    ∙ c.loop-held.invariant k x

pub returns : goal.returns
returns c = λ k x.
    none_over (λ g. giver_has g k x) (λ (h : Held). held_at h.track k && gives_channel c.args.roles.now h.what k x) c.args.all.now c.loop-held.held-index c.loop-held.list.items (omega (arith, c.loop-held-test.false))
    ∙ c.loop-held.invariant k x
