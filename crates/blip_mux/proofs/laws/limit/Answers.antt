use Rattle.std.proofs.Common.{refl}
use Rattle.blip_mux.specs.Sending.{new_sending}
use Rattle.blip_mux.proofs.Limits.{within}
use Rattle.blip_mux.proofs.laws.limit.Goals as goal

pub returns : goal.returns
returns c steps = within new_sending steps refl
