use Rattle.std.proofs.Common.{◌+◌, take, arith, length-drop}
use Rattle.sg_outside.proofs.StreamLemmas.{written_more, written_nothing, written_part}
use Rattle.sg_outside.proofs.streams.write_whole.Goals as goal
use Rattle.sg_outside.proofs.streams.write_whole.Goals.{in-Ok, in-Err+else-ne}

pub returns-in-Ok-eq0-clause-written : goal.returns-in-Ok-eq0-clause-written
returns-in-Ok-eq0-clause-written g c =
    let n = c.in-Ok-eq0.field-0 in
    written_part _ _ c.args.bytes.now (c.loop.count + n) c.give_fault.result
    (written_more _ _ _ c.args.bytes.now c.loop.count n c.loop.invariant.written c.in-Ok-eq0.ensures.bytes) c.give_fault.ensures.failed

pub returns-then-ne-clause-written : goal.returns-then-ne-clause-written
returns-then-ne-clause-written g c =
    written_part _ _ c.args.bytes.now c.loop.count c.give_fault-then-ne.result
    (written_nothing _ _ _ (take c.loop.count c.args.bytes.now) c.loop.invariant.written c.in-Err.ensures.bytes) c.give_fault-then-ne.ensures.failed

pub loop-preserved : goal.loop-preserved
loop-preserved g c =
    let inv = c.loop.invariant in
    elim c.match-write.branch [
      | in-Ok w ↦ record {
        counted = inv.counted;
        low = inv.low;
        within = omega (arith, w.count-is, w.in-Ok.ensures.bound, length-drop c.loop.count c.args.bytes.now, inv.within);
        written = rw w.count-is (written_more _ _ _ c.args.bytes.now c.loop.count w.in-Ok.n inv.written w.in-Ok.ensures.bytes);
      }
      | in-Err+else-ne w ↦ record {
        counted = inv.counted;
        low = inv.low;
        within = omega (arith, w.count-is, inv.within);
        written = rw w.count-is (written_nothing _ _ _ (take c.loop.count c.args.bytes.now) inv.written w.in-Err.ensures.bytes);
      }
    ]

pub returns-clause-written : goal.returns-clause-written
returns-clause-written g c = written_part _ _ c.args.bytes.now c.loop.count c.give_fault-2.result c.loop.invariant.written c.give_fault-2.ensures.failed
