use Rattle.std.proofs.Common.{sym, ◌∙◌, append-nil}
use Rattle.session_run.proofs.Turning.{idle_takes, idle_passes, read_nothing}
use Rattle.session_run.proofs.session.Session.take_idle.Goals as goal

pub returns-then-not-waits-clause-takes : goal.returns-then-not-waits-clause-takes
returns-then-not-waits-clause-takes g c =
    idle_passes c.args.program.now c.args.self.now (record { read = g.G.Ground.read c.args.ground.now; lowest = g.G.Ground.lowest_front c.args.ground.now; recorded = g.G.Ground.recorded c.args.ground.now; checkpoints = g.G.Ground.checkpoints c.args.ground.now; own = g.G.Ground.own c.args.ground.now }) (g.W.Wire.recorded c.args.wire.now) (sym c.waits.ensures ∙ c.if-not-waits.true) c.requires.rest c.requires.front
    (read_nothing (record { read = g.G.Ground.read c.args.ground.now; lowest = g.G.Ground.lowest_front c.args.ground.now; recorded = g.G.Ground.recorded c.args.ground.now; checkpoints = g.G.Ground.checkpoints c.args.ground.now; own = g.G.Ground.own c.args.ground.now })) (c.traffic.ensures.none (g.W.Wire.recorded c.args.wire.now))
    (sym (append-nil c.args.self.now.listing.looks)) (sym (append-nil c.args.self.now.listing.stored))

pub returns-clause-takes : goal.returns-clause-takes
returns-clause-takes g c =
    idle_takes c.args.program.now c.args.self.now c.exchange.new.self c.front-front.result (record { read = g.G.Ground.read c.args.ground.now; lowest = g.G.Ground.lowest_front c.args.ground.now; recorded = g.G.Ground.recorded c.args.ground.now; checkpoints = g.G.Ground.checkpoints c.args.ground.now; own = g.G.Ground.own c.args.ground.now })
    (record { read = g.G.Ground.read c.exchange.new.ground; lowest = g.G.Ground.lowest_front c.exchange.new.ground; recorded = g.G.Ground.recorded c.exchange.new.ground; checkpoints = g.G.Ground.checkpoints c.exchange.new.ground; own = g.G.Ground.own c.exchange.new.ground })
    (g.W.Wire.recorded c.args.wire.now) (g.W.Wire.recorded c.exchange.new.wire) c.exchange.result (sym c.waits.ensures ∙ c.if-not-waits.false) c.exchange.ensures.received c.exchange.ensures.frames
    (c.exchange.ensures.goes (record { read = g.G.Ground.read c.args.ground.now; lowest = g.G.Ground.lowest_front c.args.ground.now; recorded = g.G.Ground.recorded c.args.ground.now; checkpoints = g.G.Ground.checkpoints c.args.ground.now; own = g.G.Ground.own c.args.ground.now })
    (record { read = c.front-front.ensures.read; rises = c.front-front.ensures.rises; lowest = c.front-front.ensures.lowest_front; recorded = c.front-front.ensures.recorded; checkpoints = c.front-front.ensures.checkpoints; own = c.front-front.ensures.own; length = c.front-front.ensures.length }))
