use Rattle.std.proofs.Common.{◌≡◌, [], ◌∷◌, ◌++◌, string_bytes, sym, ap, ◌∙◌, subst, append_assoc, arith}
use Rattle.std.proofs.lemmas.List.{take_all}
use Rattle.std.specs.List.Sorted.{IsStrictlySortedBy}
use Rattle.std.specs.Map.{keys_of}
use Rattle.std.specs.String.{string_cmp}
use Rattle.json_doc.specs.View.{node_tree, row_trees}
use Rattle.json_doc.specs.declared.node.Members.{out-Members}
use Rattle.json_doc.proofs.NodeTrees.{Entry, nodes_trees-out, row_trees-take_more, put_last}
use Rattle.json_doc.proofs.node.+copy.Goals as goal

pub Nodes::copy-loop-node-preserved : goal.Nodes::copy-loop-node-preserved
Nodes::copy-loop-node-preserved t c =
    c.in_ok-push.ensures.ok
    ∙ rw (c.loop-node.invariant, c.in_ok-copy.ensures) (sym (row_trees-take_more _ c.loop-node.node-index c.node-item.result (omega arith) c.node-item.is))

pub Nodes::copy-returns : goal.Nodes::copy-returns
Nodes::copy-returns t c =
    c.loop-node.invariant
    ∙ ap row_trees (take_all c.loop-node.node-index _ c.loop-node-test.false ∙ c.deref-node-items.ensures.value)
    ∙ sym (nodes_trees-out c.args.self.now)

pub Members::copy-loop-name-preserved : goal.Members::copy-loop-name-preserved
Members::copy-loop-name-preserved t c =
    let l = c.loop-name in
    let done = l.invariant.0 in
    let e : Entry = (c.in-Some.name.now, c.in-Some.node.now) in
    let left = c.next.new.self in
    let all : (out-Members c.args.self.now).map.entries ≡ done ++ e ∷ left = l.invariant.1 ∙ ap (λ es. done ++ es) c.in-Some.ensures.steps in
    let last = put_last node_tree done e left (subst (λ es. IsStrictlySortedBy string_cmp (keys_of es)) all c.iter-name-items.ensures.ordered) in
    let named : string_bytes c.in_ok-name.name ≡ string_bytes e.0 = c.in_ok-name.ensures.cases in (
      done ++ e ∷ [],
      all ∙ sym (append_assoc done (e ∷ []) left),
      c.in_ok-insert.ensures.ok ∙ rw (named, c.in_ok-copy.ensures, l.invariant.2) last,
    )
