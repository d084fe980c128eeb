use Rattle.std.proofs.Common.{refl, Bool, ◌&&◌, ap}
use Rattle.grant_history.specs.declared.givers.Giver.{Giver}
use Rattle.grant_history.specs.inner.Givers.{giver_has}
use Rattle.grant_tracks.specs.Reads.{gives_channel}
use Rattle.grant_tracks.specs.Tracks.{held_at}
use Rattle.grant_history.proofs.Gifting.{given_more, given_same}
use Rattle.grant_history.proofs.givers.add_giver.Goals as goal

pub returns-in-None : goal.returns-in-None
returns-in-None c = λ k x.
    given_same (λ (g : Giver). giver_has g k x) c.args.list.now.items c.args.list.now.items _ (gives_channel c.args.roles.now c.args.held.now.what k x) refl (c.in-None.ensures k x)

pub returns-in_ok-push-in-Some : goal.returns-in_ok-push-in-Some
returns-in_ok-push-in-Some c = λ k x.
    given_more (λ (g : Giver). giver_has g k x) c.args.list.now.items c.push.new.self.items _ (held_at c.args.held.now.track k) (gives_channel c.args.roles.now c.args.held.now.what k x) c.in_ok-push-in-Some.ensures.items (ap (λ (b : Bool). held_at c.args.held.now.track k && b) (c.in-Some.ensures k x))
