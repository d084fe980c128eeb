use Rattle.std.proofs.Common.{◌≡◌}
use Rattle.sg_sockets.proofs.tcp_link.TcpLinkLink.read.Given as goal

abbrev pub invariant-loop : goal.invariant-loop
invariant-loop l = l.self.faults ≡ l.fn.self.faults
