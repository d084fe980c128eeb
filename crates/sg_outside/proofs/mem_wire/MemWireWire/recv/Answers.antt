use Rattle.std.proofs.Common.{map, rules}
use Rattle.sg_outside.specs.MemWire.{got_of, all_done}
use Rattle.sg_outside.proofs.Wires.{not_counted, script_receives}
use Rattle.sg_outside.proofs.mem_wire.MemWireWire.recv.Goals as goal

pub returns-in-Ok-clause-counted : goal.returns-in-Ok-clause-counted
returns-in-Ok-clause-counted c = not_counted 0 c.in-Ok.got c.in-Ok.ensures.failed

pub returns-in-Ok-clause-recorded : goal.returns-in-Ok-clause-recorded
returns-in-Ok-clause-recorded c =
    let wire = c.args.self.now in
    script_receives (map got_of wire.inputs.items) wire.calls wire.sent.items (all_done wire.sent.items) c.in-Ok.got c.in-Ok.ensures.fine (search rules)
