use Rattle.std.proofs.Common.{length-append, append-nil, arith, refl}
use Rattle.rev_tree.specs.inner.Parts.{joined, are_sound}
use Rattle.rev_tree.proofs.Joins.{push_nodes, push_sound, and_true}
use Rattle.rev_tree.proofs.row.push_all.Goals as goal

pub loop-part-init : goal.loop-part-init
loop-part-init g c = record {
  nodes = rw (append-nil (joined g.P.Part.nodes c.args.parts.now.items)) refl;
  sound = rw (and_true (are_sound g.P.Part.is_sound c.args.parts.now.items)) refl;
  len = omega arith;
}

pub loop-part-preserved : goal.loop-part-preserved
loop-part-preserved g c = record {
  nodes = rw c.in_ok-push.ensures.items (push_nodes g.P.Part.nodes c.args.from.now c.loop-part.part-index c.part-item.result _ c.loop-part-test.true c.part-item.is c.in_ok-try_clone.ensures c.loop-part.parts.items (joined g.P.Part.nodes c.args.parts.now.items) c.loop-part.invariant.nodes);
  sound = rw c.in_ok-push.ensures.items (push_sound g.P.Part.nodes c.args.from.now c.loop-part.part-index c.part-item.result _ c.loop-part-test.true c.part-item.is c.in_ok-try_clone.ensures g.P.Part.is_sound c.loop-part.parts.items (are_sound g.P.Part.is_sound c.args.parts.now.items) c.loop-part.invariant.sound);
  len = rw c.in_ok-push.ensures.items (simp length-append (omega arith));
}
