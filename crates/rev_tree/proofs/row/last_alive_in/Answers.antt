use Rattle.std.proofs.Common.{◌≡◌, ◌+◌, ◌-◌, not, ◌&&◌, sym, arith, None}
use Rattle.rev_tree.specs.declared.tree.Node.{Node}
use Rattle.rev_tree.specs.Rising.{last_alive}
use Rattle.rev_tree.specs.inner.Parts.{joined}
use Rattle.rev_tree.proofs.RowSteps.{last_some, last_none}
use Rattle.rev_tree.proofs.row.last_alive_in.Goals as goal
use Rattle.std.proofs.Common.{drop}

pub returns-in-Some : goal.returns-in-Some
returns-in-Some g c =
    let j = c.loop-i.i - 1 in
    let next : j + 1 ≡ c.loop-i.i = omega arith in
    let none : last_alive c.args.alive (joined g.P.Part.nodes (drop (j + 1) c.args.parts.now)) ≡ None = rw next c.loop-i.invariant in
    sym (last_some g.P.Part.nodes c.args.parts.now j c.index-parts-i.result (omega arith) c.index-parts-i.is (λ (n : Node). not (c.args.alive && n.deleted)) c.in-Some.node.now none (rw c.deref.ensures at (sym c.in-Some.ensures)))

pub loop-i-preserved : goal.loop-i-preserved
loop-i-preserved g c =
    let j = c.loop-i.i - 1 in
    let next : j + 1 ≡ c.loop-i.i = omega arith in
    let none : last_alive c.args.alive (joined g.P.Part.nodes (drop (j + 1) c.args.parts.now)) ≡ None = rw next c.loop-i.invariant in
    last_none g.P.Part.nodes c.args.parts.now j c.index-parts-i.result (omega arith) c.index-parts-i.is (λ (n : Node). not (c.args.alive && n.deleted)) none (rw c.deref.ensures at (sym c.in_default.ensures))
