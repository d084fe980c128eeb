use Rattle.blip_frame.proofs.Register.{first_in}
use Rattle.blip_frame.proofs.crc.after_eights.Goals as goal

pub loop-eight-preserved : goal.loop-eight-preserved
loop-eight-preserved c =
    rw (c.after_eight-register.ensures, c.in-Some.ensures.cases.0, c.in-Some.ensures.cases.1)
    (first_in c.loop-eight.register c.loop-eight.rest.now 8 _ c.loop-eight.invariant)
