use Rattle.std.proofs.Common.{refl}
use Rattle.session_server.proofs.Calling.{no_socket, served, shut}
use Rattle.session_server.proofs.caller.CallerJob.run.Goals as goal

pub returns-in_default : goal.returns-in_default
returns-in_default g c = record {
  origin = refl;
  left = λ fresh. shut c.args.self.config.now c.args.self.ground.knows c.args.self.ground.knows (g.L.Link.recorded c.let_in.new.link) (g.L.Line.traced c.shut.result) (c.in_default.ensures fresh) c.shut.ensures refl;
}

pub returns-in-Ok : goal.returns-in-Ok
returns-in-Ok g c = record {
  origin = c.serve_session-ground.ensures.origin;
  left = λ fresh.
      served c.args.self.config.now c.args.self.ground.knows c.serve_session-ground.result.0.knows c.in-Some.setup (g.L.Link.recorded c.let_in.new.link) c.serve_session-ground.result.1 (g.L.Socket.Wire.recorded c.in-Ok.socket) (g.L.Socket.Wire.recorded c.serve_session-ground.new.wire) _ _ (g.L.Line.traced c.shut_socket.result)
      (c.in-Some.ensures fresh) c.in-Ok.ensures.begun c.serve_session-ground.ensures.session c.serve_session-ground.ensures.fault c.shut_socket.ensures;
}

pub returns-in-Err : goal.returns-in-Err
returns-in-Err g c = record {
  origin = refl;
  left = λ fresh. no_socket c.args.self.config.now c.args.self.ground.knows c.args.self.ground.knows c.in-Some.setup (g.L.Link.recorded c.let_in.new.link) (g.L.Line.traced c.in-Err.trace) (c.in-Some.ensures fresh) c.in-Err.ensures.shut refl;
}
