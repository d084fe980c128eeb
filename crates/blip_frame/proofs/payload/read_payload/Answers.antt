use Rattle.std.proofs.Common.{arith}
use Rattle.blip_frame.proofs.Payloads.{answer_found, answer_only}
use Rattle.blip_frame.proofs.payload.read_payload.Goals as goal

pub returns-clause-found : goal.returns-clause-found
returns-clause-found c = answer_found c.payload_of.result c.args.bytes.now (λ i. omega (arith, c.type_inv.bytes i)) c.payload_of.ensures.ok

pub returns-clause-only : goal.returns-clause-only
returns-clause-only c = answer_only c.payload_of.result c.args.bytes.now c.payload_of.ensures.ok c.payload_of.ensures.err
