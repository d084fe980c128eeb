use Rattle.std.proofs.Common.{◌≡◌, ◌+◌, ◌-◌, ◌<◌, ◌∷◌, [], true, false, arith, take, drop, length, length-drop, sym, ◌∙◌}
use Rattle.rev_tree.specs.Tree.{knows}
use Rattle.rev_tree.specs.inner.Search.{known_place}
use Rattle.rev_tree.specs.Extension.{falls, added, with_nodes}
use Rattle.rev_tree.proofs.Joins.{whole}
use Rattle.rev_tree.proofs.Places.{unknown_at, none_added, falls_drop}
use Rattle.rev_tree.proofs.Hanging.{unknown_with}
use Rattle.rev_tree.proofs.TreeSteps.{added_next, falls_from_place}
use Rattle.rev_tree.proofs.history.with_ancestors.Goals as goal

pub loop-i-init : goal.loop-i-init
loop-i-init c =
    let none : added c.args.nodes.now (drop c.args.place c.args.ancestors.now) ≡ [] = rw c.requires.place (none_added c.args.nodes.now c.args.ancestors.now) in
    rw none c.in_ok-made.ensures

pub with_ancestor-requires : goal.with_ancestor-requires
with_ancestor-requires c =
    let tree = c.args.nodes.now in
    let revs = c.args.ancestors.now in
    let j = c.loop-i.i - 1 in
    let a = c.index-ancestors-i.result in
    let next : j + 1 ≡ c.loop-i.i = omega arith in
    let within : j < length revs = omega arith in
    let before : j < known_place tree revs = omega (arith, c.requires.place) in
    let made : c.loop-i.made ≡ with_nodes (added tree (drop (j + 1) revs)) tree = rw next c.loop-i.invariant in
    let unknown : knows tree a ≡ false = unknown_at tree revs j a before c.index-ancestors-i.is in
    let below : falls (a ∷ drop (j + 1) revs) ≡ true = falls_from_place revs j a within c.index-ancestors-i.is (falls_drop revs j c.requires.history) in
    rw made (unknown_with tree a (drop (j + 1) revs) below unknown)

pub loop-i-preserved : goal.loop-i-preserved
loop-i-preserved c =
    let tree = c.args.nodes.now in
    let revs = c.args.ancestors.now in
    let j = c.loop-i.i - 1 in
    let a = c.index-ancestors-i.result in
    let next : j + 1 ≡ c.loop-i.i = omega arith in
    let within : j < length revs = omega arith in
    let before : j < known_place tree revs = omega (arith, c.requires.place) in
    let made : c.loop-i.made ≡ with_nodes (added tree (drop (j + 1) revs)) tree = rw next c.loop-i.invariant in
    let unknown : knows tree a ≡ false = unknown_at tree revs j a before c.index-ancestors-i.is in
    let rest : take (length revs - (j + 1)) (drop (j + 1) revs) ≡ drop (j + 1) revs = whole (length revs - (j + 1)) (drop (j + 1) revs) (omega (arith, length-drop (j + 1) revs)) in
    c.in_ok-made-2.ensures ∙ rw (rest, made) (sym (added_next tree revs j a within c.index-ancestors-i.is unknown))
