use Rattle.std.specs.Arc.{arc_value}
use Rattle.std.proofs.Common.{not}
use Rattle.session_threads.proofs.Devices.{device_in}
use Rattle.session_threads.proofs.laws.device.Goals as goal

pub returns : goal.returns
returns c = λ config lines devices board outcomes left user options last earlier doc is.
    device_in c.device.ensures c.answers.ensures.within board (arc_value config.program) (not config.conflicts) devices left user options last earlier doc is.sessions
