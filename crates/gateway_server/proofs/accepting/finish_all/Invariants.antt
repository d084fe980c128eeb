use Rattle.std.proofs.Common.{◌≡◌, ◌≤◌, ◌+◌, None, vec_len, length}
use Rattle.gateway_server.specs.Serving.{Each, Serves}
use Rattle.gateway_server.proofs.accepting.finish_all.Given as goal

abbrev pub invariant-loop-one : goal.invariant-loop-one
invariant-loop-one g l = record {
  len : l.one-iterator.rest.len ≡ length l.one-iterator.rest.items;
  jobs : Each (λ r. g.S.Serve.made l.serve r.child.promise.job.value) l.one-iterator.rest.items;
  out : g.S.Serve.out l.serve + vec_len l.fn.running ≡ g.S.Serve.out l.fn.serve + length l.one-iterator.rest.items;
  within : length l.one-iterator.rest.items ≤ g.S.Serve.out l.serve;
  refused : g.S.Serve.refused l.serve ≡ g.S.Serve.refused l.fn.serve;
  follows : g.S.Serve.follows l.fn.serve l.serve;
  served : Serves (g.S.Serve.holds l.fn.serve) (g.S.Serve.out l.fn.serve) (g.D.Door.recorded l.fn.door) None (g.S.Serve.holds l.serve) (g.S.Serve.out l.serve) (g.D.Door.recorded l.door);
  faults : g.D.Door.faults l.fn.door ≤ g.D.Door.faults l.door;
}
