use Rattle.blip_frame.specs.Payload.{payload_text}
use Rattle.blip_frame.proofs.Payloads.{text_payload, payload_again, one_payload}
use Rattle.blip_frame.proofs.laws.payloads.Goals as goal

pub returns : goal.returns
returns c = record {
  again = λ props body below fit. payload_again (payload_text props body) props body (text_payload props body below fit);
  one = one_payload;
}
