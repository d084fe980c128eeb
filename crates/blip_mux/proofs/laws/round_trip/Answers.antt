use Rattle.blip_mux.proofs.Trips.{none_refused, requests_come, replies_come}
use Rattle.blip_mux.proofs.laws.round_trip.Goals as goal

pub returns : goal.returns
returns c = record {
  accepted = none_refused c.payloads.ensures.again c.varints.ensures.again;
  requests = requests_come c.payloads.ensures.again c.varints.ensures.again;
  replies = replies_come c.payloads.ensures.again c.varints.ensures.again;
}
