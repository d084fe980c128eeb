use Rattle.sg_names.proofs.OneText.{channels_same}
use Rattle.sg_names.proofs.laws.channels.Goals as goal

pub returns : goal.returns
returns c = channels_same
