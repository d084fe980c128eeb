use Rattle.std.proofs.Common.{◌≡◌, ◌≤◌, ◌+◌, None, vec_len}
use Rattle.gateway_server.specs.Serving.{Each, Serves}
use Rattle.gateway_server.proofs.accepting.serve_all.Given as goal

abbrev pub invariant-loop : goal.invariant-loop
invariant-loop g l = record {
  jobs : Each (λ r. g.S.Serve.made l.serve r.child.promise.job.value) l.running.items;
  out : g.S.Serve.out l.serve ≡ g.S.Serve.out l.fn.serve + vec_len l.running;
  refused : g.S.Serve.refused l.serve ≡ g.S.Serve.refused l.fn.serve;
  follows : g.S.Serve.follows l.fn.serve l.serve;
  served : Serves (g.S.Serve.holds l.fn.serve) (g.S.Serve.out l.fn.serve) (g.D.Door.recorded l.fn.door) None (g.S.Serve.holds l.serve) (g.S.Serve.out l.serve) (g.D.Door.recorded l.door);
  faults : g.D.Door.faults l.fn.door ≤ g.D.Door.faults l.door;
}
