use Rattle.blip_mux.proofs.Shares.{requests_shared, replies_shared}
use Rattle.blip_mux.proofs.laws.shares.Goals as goal

pub returns : goal.returns
returns c = record {
  requests = requests_shared;
  replies = replies_shared;
}
