use Rattle.std.proofs.Common.{◌≡◌, ◌+◌, ◌-◌, take, drop, length, length-drop, arith}
use Rattle.rev_tree.proofs.Joins.{three_hold, sound_parts, whole}
use Rattle.rev_tree.proofs.row.replaced.Goals as goal

pub returns : goal.returns
returns g c =
    let after = drop (c.args.place + 1) c.args.parts.now in
    let rest : take (length c.args.parts.now - (c.args.place + 1)) after ≡ after = whole (length c.args.parts.now - (c.args.place + 1)) after (omega (arith, length-drop (c.args.place + 1) c.args.parts.now)) in
    three_hold g.P.Part.nodes g.P.Part.is_sound c.in_ok-all.all.items c.push_all.new.parts.items c.push_all-2.new.parts.items c.push_all-3.new.parts.items (take c.args.place c.args.parts.now) c.args.others.now after
    c.in_ok-all.ensures.items c.in_ok-push_all.ensures.nodes c.in_ok-push_all-2.ensures.nodes (rw rest at c.in_ok-push_all-3.ensures.nodes) c.in_ok-push_all.ensures.sound c.in_ok-push_all-2.ensures.sound (rw rest at c.in_ok-push_all-3.ensures.sound)
    (sound_parts g.P.Part.is_sound c.args.parts.now c.args.place c.requires.sound).0 c.requires.others (sound_parts g.P.Part.is_sound c.args.parts.now (c.args.place + 1) c.requires.sound).1
