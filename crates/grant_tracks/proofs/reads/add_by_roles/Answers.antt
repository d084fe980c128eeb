use Rattle.std.proofs.Common.{◌∙◌, arith}
use Rattle.std.specs.Borrow.{Bor}
use Rattle.grant_tracks.specs.declared.held.Held.{Held}
use Rattle.grant_tracks.specs.Reads.{gives_channel}
use Rattle.grant_tracks.proofs.Gathered.{any_over, any_left}
use Rattle.grant_tracks.proofs.reads.add_by_roles.Goals as goal

pub loop-one-preserved : goal.loop-one-preserved
loop-one-preserved c = λ x.
    any_over (λ (h : Bor Held). gives_channel c.args.roles.now h.now.what c.args.k x) c.args.held.now c.loop-one.one-index c.one-item.result _ _ (omega arith) c.one-item.is (c.in_ok-add_if_role.ensures.among x)
    ∙ c.loop-one.invariant x

pub returns : goal.returns
returns c = record { among = λ x. any_left (λ (h : Bor Held). gives_channel c.args.roles.now h.now.what c.args.k x) c.args.held.now c.loop-one.one-index _ (omega (arith, c.loop-one-test.false)) ∙ c.loop-one.invariant x }
