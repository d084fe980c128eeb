use Rattle.std.specs.Arc.{arc_value}
use Rattle.rev_tree.specs.inner.Parts.{joined}
use Rattle.rev_tree.proofs.Joins.{row_is}
use Rattle.rev_tree.proofs.Rises.{rises_insert}
use Rattle.rev_tree.proofs.row.RowPart.put.Goals as goal

pub rows_of-rows-requires-clause-rises : goal.rows_of-rows-requires-clause-rises
rows_of-rows-requires-clause-rises g c =
    let parts = (arc_value c.args.part.now).parts.items in
    let row = row_is g.P.Part.nodes g.P.Part.is_sound parts c.requires.sound in
    rw (c.as_slice-2.ensures.value, c.in_ok-parts.ensures.hold, c.as_slice.ensures.value, c.deref.ensures) (rises_insert (arc_value c.args.node.now) (joined g.P.Part.nodes parts) row.rising c.requires.unknown)
