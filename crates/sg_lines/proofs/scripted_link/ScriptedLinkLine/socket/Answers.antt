use Rattle.sg_lines.proofs.SocketLemmas.{begins}
use Rattle.sg_lines.proofs.scripted_link.ScriptedLinkLine.socket.Goals as goal

pub returns-in-None-clause-begun : goal.returns-in-None-clause-begun
returns-in-None-clause-begun c = begins _ _ _ c.new-wire.ensures.recorded
