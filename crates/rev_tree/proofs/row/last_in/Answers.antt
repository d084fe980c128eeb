use Rattle.std.proofs.Common.{◌≡◌, ◌-◌, ◌+◌, ◌∙◌, sym, arith}
use Rattle.rev_tree.specs.Rising.{is_within}
use Rattle.rev_tree.specs.inner.Parts.{joined}
use Rattle.rev_tree.proofs.RevOrder.{within_closed}
use Rattle.rev_tree.proofs.Rises.{none_pass}
use Rattle.rev_tree.proofs.Joins.{sound_at}
use Rattle.rev_tree.proofs.RowSteps.{found_part}
use Rattle.rev_tree.proofs.row.last_in.Goals as goal

pub returns-then-place-eq0 : goal.returns-then-place-eq0
returns-then-place-eq0 g c =
    sym (none_pass (is_within c.args.bound.now) (within_closed c.args.bound.now) (joined g.P.Part.nodes c.args.parts.now) c.requires.rises (rw c.if-place-eq0.true at c.place_of-place.ensures.above))

pub last_within-requires : goal.last_within-requires
last_within-requires g c = record {
  sound = rw c.deref.ensures (sound_at g.P.Part.is_sound c.args.parts.now (c.place_of-place.result - 1) c.index-parts-place.result c.requires.sound (omega arith) c.index-parts-place.is);
}

pub returns : goal.returns
returns g c =
    let place = c.place_of-place.result in
    let next : place - 1 + 1 ≡ place = omega arith in
    let found = found_part g.P.Part.nodes c.args.parts.now (place - 1) c.index-parts-place.result (omega arith) c.index-parts-place.is (is_within c.args.bound.now) (within_closed c.args.bound.now) c.requires.rises (c.place_of-place.ensures.below (place - 1) next) (rw next c.place_of-place.ensures.above) in
    c.last_within.ensures ∙ rw c.deref.ensures found
