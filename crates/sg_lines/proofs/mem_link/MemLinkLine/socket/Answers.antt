use Rattle.sg_lines.proofs.SocketLemmas.{begins}
use Rattle.sg_lines.proofs.mem_link.MemLinkLine.socket.Goals as goal

pub returns-clause-begun : goal.returns-clause-begun
returns-clause-begun c = begins _ _ _ c.new-wire.ensures.recorded
