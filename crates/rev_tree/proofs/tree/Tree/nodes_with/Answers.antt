use Rattle.std.proofs.Common.{◌≡◌, ◌∙◌, List, [], sym, subst, IfOk}
use Rattle.std.specs.Arc.{arc_value}
use Rattle.rev_tree.specs.declared.tree.Node.{Node}
use Rattle.rev_tree.specs.Rising.{insert_node}
use Rattle.rev_tree.specs.Extension.{added, with_nodes}
use Rattle.rev_tree.proofs.Places.{known_within, falls_on, none_before}
use Rattle.rev_tree.proofs.Hanging.{unknown_with}
use Rattle.rev_tree.proofs.tree.Tree.nodes_with.Goals as goal

pub with_ancestors-requires-clause-history : goal.with_ancestors-requires-clause-history
with_ancestors-requires-clause-history c = falls_on (arc_value c.args.node.now).rev c.args.ancestors.now c.requires.history

pub with_ancestors-requires-clause-within : goal.with_ancestors-requires-clause-within
with_ancestors-requires-clause-within c = rw c.requires.place (known_within c.args.self.now c.args.ancestors.now)

pub put-nodes-requires : goal.put-nodes-requires
put-nodes-requires c =
    rw (c.in_ok-below.ensures, c.self.view_is) (unknown_with c.args.self.now (arc_value c.args.node.now).rev c.args.ancestors.now c.requires.history c.requires.unknown)

pub put-requires : goal.put-requires
put-requires c = rw c.self.view_is c.requires.unknown

pub returns-then-place-eq0 : goal.returns-then-place-eq0
returns-then-place-eq0 c =
    let tree = c.args.self.now in
    let n = arc_value c.args.node.now in
    let none : added tree c.args.ancestors.now ≡ [] = none_before tree c.args.ancestors.now (sym c.requires.place ∙ c.if-place-eq0.true) in
    let own : IfOk c.put.result (λ made. made ≡ insert_node n tree) = rw c.self.view_is at c.put.ensures in
    subst (λ (ns : List Node). IfOk c.put.result (λ made. made ≡ insert_node n (with_nodes ns tree))) (sym none) own
