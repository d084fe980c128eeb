use Rattle.std.proofs.Common.{◌≡◌, ◌-◌, ◌<◌, ◌++◌, ◌∷◌, [], length, length-append, arith, sym, refl}
use Rattle.rev_tree.proofs.Firsts.{within_generation, revs_step, revs_end}
use Rattle.rev_tree.proofs.rising.RisingNodes.revs_below.Goals as goal

pub loop-bound-init : goal.loop-bound-init
loop-bound-init c =
    let left : c.args.most - length c.new-revs.result.items ≡ c.args.most = rw c.new-revs.ensures.items (omega arith) in
    record {
      room = rw c.new-revs.ensures.items (omega arith);
      so_far = rw (left, c.new-revs.ensures.items, c.below_generation-bound.ensures, within_generation c.args.generation c.args.self.now) refl;
    }

pub returns-in-None : goal.returns-in-None
returns-in-None c =
    revs_end c.loop-bound.bound c.args.self.now c.loop-bound.revs.items _ (c.args.most - length c.loop-bound.revs.items) (sym c.in-None.ensures.value) c.loop-bound.invariant.so_far

pub loop-bound-preserved : goal.loop-bound-preserved
loop-bound-preserved c =
    let revs = c.loop-bound.revs.items in
    let n = c.in-Some.node.now in
    let room : length revs < c.args.most = omega (arith, c.loop-bound-test.true, c.len.ensures) in
    let more : c.push_copy.new.revs.items ≡ revs ++ n.rev ∷ [] = c.in_ok-push_copy-in-Some.ensures in
    record {
      room = rw more (omega (arith, room, length-append revs (n.rev ∷ [])));
      so_far = rw (more, c.below-bound.ensures) (revs_step c.loop-bound.bound c.args.self.now n revs _ c.args.most c.in-Some.ensures.rises (sym c.in-Some.ensures.value) room c.loop-bound.invariant.so_far);
    }
