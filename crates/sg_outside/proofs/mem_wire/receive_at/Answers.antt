use Rattle.std.proofs.Common.{rules}
use Rattle.sg_outside.proofs.Wires.{next_input}
use Rattle.sg_outside.proofs.mem_wire.receive_at.Goals as goal

pub returns-in-Some-clause-value : goal.returns-in-Some-clause-value
returns-in-Some-clause-value c = rw (next_input c.args.inputs.now c.args.place c.in-Some.input.now (search rules) (search rules)) c.receive.ensures.value
