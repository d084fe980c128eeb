use Rattle.std.proofs.Common.{◌∙◌, arith}
use Rattle.grant_tracks.specs.declared.held.Held.{Held}
use Rattle.grant_history.specs.Periods.{ever_gives}
use Rattle.grant_tracks.proofs.Gathered.{any_over, any_left}
use Rattle.grant_history.proofs.channels.add_by_roles.Goals as goal

pub loop-held-preserved : goal.loop-held-preserved
loop-held-preserved c = λ x.
    any_over (λ (h : Held). ever_gives c.args.roles.now h.what x) c.args.all.now c.loop-held.held-index c.held-item.result _ _ (omega arith) c.held-item.is (c.in_ok-add_if_role.ensures.among x)
    ∙ c.loop-held.invariant x

pub returns : goal.returns
returns c = record { among = λ x. any_left (λ (h : Held). ever_gives c.args.roles.now h.what x) c.args.all.now c.loop-held.held-index _ (omega (arith, c.loop-held-test.false)) ∙ c.loop-held.invariant x }
