use Rattle.std.proofs.Common.{◌≡◌, ◌∙◌, ◌+◌, ◌<◌, ◌++◌, false, refl, subst, arith, length, take, drop, List, IfOk}
use Rattle.std.specs.Arc.{arc_value}
use Rattle.rev_tree.specs.declared.tree.Node.{Node}
use Rattle.rev_tree.specs.Rising.{insert_node}
use Rattle.rev_tree.specs.inner.Parts.{joined, AreParts}
use Rattle.rev_tree.proofs.Joins.{sound_at}
use Rattle.rev_tree.proofs.RowSteps.{unknown_in, put_part}
use Rattle.rev_tree.proofs.row.put_in.Goals as goal

pub put-requires-clause-sound : goal.put-requires-clause-sound
put-requires-clause-sound g c =
    sound_at g.P.Part.is_sound c.args.parts.now c.saturating_sub-place.result c.index-parts-place.result c.requires.sound (omega (arith, c.saturating_sub-place.ensures, c.place_of.ensures.within)) c.index-parts-place.is

pub put-requires-clause-unknown : goal.put-requires-clause-unknown
put-requires-clause-unknown g c =
    unknown_in g.P.Part.nodes c.args.parts.now c.saturating_sub-place.result c.index-parts-place.result (omega (arith, c.saturating_sub-place.ensures, c.place_of.ensures.within)) c.index-parts-place.is (arc_value c.args.node.now).rev c.requires.unknown

pub returns : goal.returns
returns g c =
    let n : Node = arc_value c.args.node.now in
    let j = c.saturating_sub-place.result in
    let within : j < length c.args.parts.now = omega (arith, c.saturating_sub-place.ensures, c.place_of.ensures.within) in
    let limit : c.below.result ≡ record { rev = n.rev; or_equal = false } = c.below.ensures ∙ rw c.deref.ensures refl in
    let put = put_part g.P.Part.nodes c.args.parts.now j c.index-parts-place.result within c.index-parts-place.is n c.place_of.result c.saturating_sub-place.ensures c.requires.rises (λ i e. rw limit at (c.place_of.ensures.below i e)) (rw limit at c.place_of.ensures.above) in
    let same : joined g.P.Part.nodes (take j c.args.parts.now) ++ (joined g.P.Part.nodes c.as_slice.result.now ++ joined g.P.Part.nodes (drop (j + 1) c.args.parts.now)) ≡ insert_node n (joined g.P.Part.nodes c.args.parts.now) = rw (c.as_slice.ensures.value, c.in_ok-others.ensures.hold) put in
    subst (λ (ns : List Node). IfOk c.replaced-all.result (λ all. AreParts g.P.Part.nodes g.P.Part.is_sound all.items ns)) same c.replaced-all.ensures
