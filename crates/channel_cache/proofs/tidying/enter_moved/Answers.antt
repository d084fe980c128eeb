use Rattle.std.proofs.Common.{◌∙◌, refl, arith, map}
use Rattle.channel_cache.specs.inner.Counting.{counts_at}
use Rattle.channel_cache.specs.inner.Moves.{move_in}
use Rattle.channel_cache.proofs.Changing.{all_counted_end, all_counted_next, mapped_count, mapped_is}
use Rattle.channel_cache.proofs.tidying.enter_moved.Goals as goal

pub loop-one-init : goal.loop-one-init
loop-one-init c = record { cap = refl; ok = λ end rest. rest }

pub loop-one-preserved : goal.loop-one-preserved
loop-one-preserved c =
    let moved = c.args.moved.now in
    let i = c.loop-one.one-index in
    let one = c.one-item.result in
    record {
      cap = c.enter_each.ensures.cap ∙ c.loop-one.invariant.cap;
      ok = λ end rest. c.loop-one.invariant.ok end
          (all_counted_next (counts_at c.args.index.now c.args.place) c.loop-one.lists.entries c.enter_each.new.lists.entries (map move_in moved) i (move_in one) (omega (arith, mapped_count move_in moved)) (mapped_is move_in moved i one (omega arith) c.one-item.is)
          c.in_ok-enter_each.ensures.ok end rest);
    }

pub returns-clause-ok : goal.returns-clause-ok
returns-clause-ok c =
    let moved = c.args.moved.now in
    c.loop-one.invariant.ok c.loop-one.lists.entries
    (all_counted_end (counts_at c.args.index.now c.args.place) c.loop-one.lists.entries (map move_in moved) c.loop-one.one-index (omega (arith, c.loop-one-test.false, mapped_count move_in moved)))
