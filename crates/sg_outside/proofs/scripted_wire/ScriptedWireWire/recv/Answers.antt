use Rattle.std.proofs.Common.{rules}
use Rattle.sg_outside.proofs.Wires.{script_receives}
use Rattle.sg_outside.proofs.scripted_wire.ScriptedWireWire.recv.Goals as goal

pub returns-else-not-count-clause-recorded : goal.returns-else-not-count-clause-recorded
returns-else-not-count-clause-recorded c =
    let wire = c.args.self.now in
    script_receives wire.script.items wire.calls wire.sent.items wire.gave.items c.in-Ok.got c.in-Ok.ensures.fine (search rules)
