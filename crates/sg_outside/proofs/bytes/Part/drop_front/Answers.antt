use Rattle.std.specs.Arc.{arc_value}
use Rattle.sg_outside.proofs.Parts.{front_gone}
use Rattle.sg_outside.proofs.bytes.Part.drop_front.Goals as goal

pub returns : goal.returns
returns c = front_gone (arc_value c.self.inside.whole).items c.args.self.now c.self.inside.start c.self.inside.end c.args.count c.self.view_is c.self.invariant.0 c.requires
