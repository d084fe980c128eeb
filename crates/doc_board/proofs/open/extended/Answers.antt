use Rattle.std.proofs.Common.{◌≡◌, ◌∙◌, IsTrue, false, List, take, subst, ap, arith}
use Rattle.std.proofs.lemmas.List.{take_all}
use Rattle.sg_names.specs.declared.rev_id.RevId.{RevId}
use Rattle.rev_tree.specs.Extension.{extends_tree, verdict_of, with_write}
use Rattle.rev_tree.specs.Writes.{is_accepted}
use Rattle.doc_board.proofs.Following.{extends_with}
use Rattle.doc_board.proofs.open.extended.Goals as goal

pub returns-then-wins-clause-some : goal.returns-then-wins-clause-some
returns-then-wins-clause-some c =
    let tree = c.args.tree.now in
    let w = c.args.write.now in
    let given : List RevId = c.as_slice-ancestors.result.now in
    let whole : take c.in-NewTree.kept given ≡ w.ancestors = take_all c.in-NewTree.kept given (omega (arith, c.if-kept-ancestors.true)) ∙ c.as_slice-ancestors.ensures in
    extends_with tree w c.in-NewTree.tree
    (subst (λ (revs : List RevId). verdict_of tree w.rev revs false ≡ extends_tree) c.as_slice-ancestors.ensures c.in-NewTree.ensures.new_tree)
    (subst (λ (revs : List RevId). IsTrue (is_accepted tree (record { rev = w.rev; ancestors = revs; deleted = w.deleted }))) whole c.in-NewTree.ensures.accepted)
    (c.in-NewTree.ensures.tree ∙ ap (λ (revs : List RevId). with_write tree (record { rev = w.rev; ancestors = revs; deleted = w.deleted })) whole)
    (c.wins.ensures.yes c.if-wins.true)
