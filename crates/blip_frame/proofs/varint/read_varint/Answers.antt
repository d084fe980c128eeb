use Rattle.std.proofs.Common.{arith, subst, List, ℕ}
use Rattle.blip_frame.proofs.Varints.{Reads, answer_found, answer_only, answer_short}
use Rattle.blip_frame.proofs.varint.read_varint.Goals as goal

pub returns-clause-found : goal.returns-clause-found
returns-clause-found c = answer_found c.number_of.result c.args.bytes.now (λ i. omega (arith, c.type_inv.bytes i)) c.number_of.ensures

pub returns-clause-only : goal.returns-clause-only
returns-clause-only c = λ front rest n is e. answer_only c.number_of.result front rest n (subst (λ (bytes : List ℕ). Reads c.number_of.result bytes) e c.number_of.ensures) is

pub returns-clause-short : goal.returns-clause-short
returns-clause-short c = answer_short c.number_of.result c.args.bytes.now c.number_of.ensures
