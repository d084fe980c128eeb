use Rattle.blip_frame.proofs.Frames.{direction_again}
use Rattle.blip_frame.proofs.laws.direction.Goals as goal

pub returns : goal.returns
returns c = direction_again
