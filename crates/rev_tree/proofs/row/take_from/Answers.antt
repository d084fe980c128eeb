use Rattle.std.proofs.Common.{◌≡◌, ◌+◌, ◌-◌, ◌++◌, sym, subst, arith, take, drop, List, IfOk}
use Rattle.rev_tree.specs.declared.tree.Node.{Node}
use Rattle.rev_tree.specs.Rising.{without}
use Rattle.rev_tree.specs.inner.Parts.{joined, AreParts}
use Rattle.rev_tree.proofs.Joins.{sound_at}
use Rattle.rev_tree.proofs.Rises.{none_taken}
use Rattle.rev_tree.proofs.RowSteps.{take_part}
use Rattle.rev_tree.proofs.row.take_from.Goals as goal

pub returns-then-place-eq0 : goal.returns-then-place-eq0
returns-then-place-eq0 g c =
    let same = none_taken c.args.rev.now (joined g.P.Part.nodes c.args.parts.now) c.requires.rises (rw (c.if-place-eq0.true, c.up_to.ensures) at c.place_of-place.ensures.above) in
    subst (λ (ns : List Node). IfOk c.copies.result (λ all. AreParts g.P.Part.nodes g.P.Part.is_sound all.items ns)) (sym same) c.copies.ensures

pub take_out-requires : goal.take_out-requires
take_out-requires g c = record {
  sound = sound_at g.P.Part.is_sound c.args.parts.now (c.place_of-place.result - 1) c.index-parts-place.result c.requires.sound (omega arith) c.index-parts-place.is;
}

pub returns : goal.returns
returns g c =
    let place = c.place_of-place.result in
    let next : place - 1 + 1 ≡ place = omega arith in
    let first = rw c.up_to.ensures at (c.place_of-place.ensures.below (place - 1) next) in
    let past = rw (← next, c.up_to.ensures) at c.place_of-place.ensures.above in
    let taken = take_part g.P.Part.nodes c.args.parts.now (place - 1) c.index-parts-place.result (omega arith) c.index-parts-place.is c.args.rev.now c.requires.rises first past in
    let same : joined g.P.Part.nodes (take (place - 1) c.args.parts.now) ++ (joined g.P.Part.nodes c.as_slice.result.now ++ joined g.P.Part.nodes (drop (place - 1 + 1) c.args.parts.now)) ≡ without c.args.rev.now (joined g.P.Part.nodes c.args.parts.now) = rw (c.as_slice.ensures.value, c.in_ok-others.ensures.hold) taken in
    subst (λ (ns : List Node). IfOk c.replaced-all.result (λ all. AreParts g.P.Part.nodes g.P.Part.is_sound all.items ns)) same c.replaced-all.ensures
