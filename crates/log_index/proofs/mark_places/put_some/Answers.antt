use Rattle.std.proofs.Common.{◌≡◌, ◌+◌, ◌-◌, arith}
use Rattle.log_index.specs.Representation.{place_at}
use Rattle.log_index.proofs.SomePut.{one_put}
use Rattle.log_index.proofs.mark_places.put_some.Goals as goal

pub loop-left-preserved : goal.loop-left-preserved
loop-left-preserved c =
    let next : c.loop-left.left ≡ c.loop-left.left - 1 + 1 = omega (arith, c.loop-left-test.true) in
    one_put (place_at c.args.places.now) (place_at c.loop-left.places) (place_at c.put_place.new.places) c.args.firsts.now c.args.sync c.loop-left.left (c.loop-left.left - 1) _ c.loop-left.invariant next c.in_ok-put_place.ensures.ok
