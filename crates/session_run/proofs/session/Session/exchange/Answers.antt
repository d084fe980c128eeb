use Rattle.std.proofs.Common.{refl}
use Rattle.session_run.proofs.Turning.{event_goes, event_halts, read_nothing}
use Rattle.session_run.proofs.session.Session.exchange.Goals as goal

pub returns-in-Ok-clause-goes : goal.returns-in-Ok-clause-goes
returns-in-Ok-clause-goes g c before answered =
    event_goes c.args.program.now c.replies.ensures.picked c.args.self.now c.converse.new.self
    (record { core = c.converse.new.self.core; mux = c.send_all.new.self; listing = c.converse.new.self.listing; frames = c.converse.new.self.frames }) c.args.event before
    (record { read = g.G.Ground.read c.converse.new.ground; lowest = g.G.Ground.lowest_front c.converse.new.ground; recorded = g.G.Ground.recorded c.converse.new.ground; checkpoints = g.G.Ground.checkpoints c.converse.new.ground; own = g.G.Ground.own c.converse.new.ground })
    (g.W.Wire.recorded c.args.wire.now) (g.W.Wire.recorded c.send_all.new.wire) c.send_all.result c.in-Ok.met c.end_of.result (c.in-Ok.ensures.ok before answered)
    (read_nothing (record { read = g.G.Ground.read c.converse.new.ground; lowest = g.G.Ground.lowest_front c.converse.new.ground; recorded = g.G.Ground.recorded c.converse.new.ground; checkpoints = g.G.Ground.checkpoints c.converse.new.ground; own = g.G.Ground.own c.converse.new.ground }))
    refl refl c.converse.ensures.sent c.send_all.ensures.inbox c.send_all.ensures.sent c.end_of.ensures

pub returns-in-Err-clause-goes : goal.returns-in-Err-clause-goes
returns-in-Err-clause-goes g c before answered =
    event_halts c.args.program.now c.args.self.now c.converse.new.self c.args.event before
    (record { read = g.G.Ground.read c.converse.new.ground; lowest = g.G.Ground.lowest_front c.converse.new.ground; recorded = g.G.Ground.recorded c.converse.new.ground; checkpoints = g.G.Ground.checkpoints c.converse.new.ground; own = g.G.Ground.own c.converse.new.ground })
    (g.W.Wire.recorded c.args.wire.now) (c.traffic.ensures.none (g.W.Wire.recorded c.args.wire.now)) (c.in-Err.ensures.halted before answered)
