use Rattle.std.proofs.Common.{◌+◌, ◌-◌, ◌/◌, arith}
use Rattle.rev_tree.proofs.Joins.{sound_at}
use Rattle.rev_tree.proofs.row.place_of.Goals as goal

pub first-requires : goal.first-requires
first-requires g c =
    let middle = c.loop-low.low + (c.loop-low.high - c.loop-low.low) / 2 in
    rw c.deref.ensures (sound_at g.P.Part.is_sound c.args.parts.now middle c.index-parts-middle.result c.requires (omega arith) c.index-parts-middle.is)
