use Rattle.std.proofs.Common.{◌≡◌, ◌-◌, ◌/◌, length, length-drop, take, drop, arith}
use Rattle.rev_tree.specs.declared.row.Row.{Row}
use Rattle.rev_tree.specs.inner.Parts.{joined, is_row}
use Rattle.rev_tree.proofs.Rises.{rises_left, rises_right}
use Rattle.rev_tree.proofs.Joins.{sound_parts, halves, whole, two_hold}
use Rattle.rev_tree.proofs.row.rows_of.Goals as goal

pub row_of-requires-2-clause-sound : goal.row_of-requires-2-clause-sound
row_of-requires-2-clause-sound g c = (sound_parts g.P.Part.is_sound c.args.parts.now (length c.args.parts.now / 2) c.requires.sound).0

pub row_of-requires-2-clause-rises : goal.row_of-requires-2-clause-rises
row_of-requires-2-clause-rises g c =
    let half = length c.args.parts.now / 2 in
    rises_left (joined g.P.Part.nodes (take half c.args.parts.now)) (joined g.P.Part.nodes (drop half c.args.parts.now)) (rw (halves g.P.Part.nodes c.args.parts.now half) c.requires.rises)

pub row_of-requires-3-clause-sound : goal.row_of-requires-3-clause-sound
row_of-requires-3-clause-sound g c =
    let half = length c.args.parts.now / 2 in
    let rest : take (length c.args.parts.now - half) (drop half c.args.parts.now) ≡ drop half c.args.parts.now = whole (length c.args.parts.now - half) (drop half c.args.parts.now) (omega (arith, length-drop half c.args.parts.now)) in
    rw rest (sound_parts g.P.Part.is_sound c.args.parts.now half c.requires.sound).1

pub row_of-requires-3-clause-rises : goal.row_of-requires-3-clause-rises
row_of-requires-3-clause-rises g c =
    let half = length c.args.parts.now / 2 in
    let rest : take (length c.args.parts.now - half) (drop half c.args.parts.now) ≡ drop half c.args.parts.now = whole (length c.args.parts.now - half) (drop half c.args.parts.now) (omega (arith, length-drop half c.args.parts.now)) in
    rw rest (rises_right (joined g.P.Part.nodes (take half c.args.parts.now)) (joined g.P.Part.nodes (drop half c.args.parts.now)) (rw (halves g.P.Part.nodes c.args.parts.now half) c.requires.rises))

pub returns : goal.returns
returns g c =
    let half = length c.args.parts.now / 2 in
    let rest : take (length c.args.parts.now - half) (drop half c.args.parts.now) ≡ drop half c.args.parts.now = whole (length c.args.parts.now - half) (drop half c.args.parts.now) (omega (arith, length-drop half c.args.parts.now)) in
    two_hold (λ (row : Row g.row.P.Denot). joined g.P.Part.nodes row.parts.items) (λ (row : Row g.row.P.Denot). is_row g.P.Part.nodes g.P.Part.is_sound row.parts.items) c.in_ok-rows-2.rows.items c.in_ok-lower.lower c.in_ok-upper.upper (joined g.P.Part.nodes (take half c.args.parts.now)) (joined g.P.Part.nodes (drop half c.args.parts.now)) (joined g.P.Part.nodes c.args.parts.now) c.in_ok-rows-2.ensures c.in_ok-lower.ensures.nodes (rw rest at c.in_ok-upper.ensures.nodes) c.in_ok-lower.ensures.sound c.in_ok-upper.ensures.sound (halves g.P.Part.nodes c.args.parts.now half)
