use Rattle.std.proofs.Common.{ℕ, ◌+◌, List, refl, subst}
use Rattle.blip_mux.specs.declared.inbox.Taken.{Taken}
use Rattle.blip_mux.specs.declared.inbox.Taken.TheVariants as takens
use Rattle.session_mux.specs.Muxed.{GivesFrame, IsPartOfMessage}
use Rattle.session_run.proofs.Turning.{gives_ready, part_ready, whole_takes, part_takes}
use Rattle.session_run.proofs.session.Session.take_frame.Goals as goal

pub exchange-requires-clause-ready : goal.exchange-requires-clause-ready
exchange-requires-clause-ready g c =
    gives_ready c.replies.ensures.taken c.replies.ensures.acked c.args.self.now (record { core = c.args.self.now.core; mux = c.take-took.new.self; listing = c.args.self.now.listing; frames = c.args.self.now.frames + 1 }) c.as_slice.result.now (takens.Whole c.in-Whole.message) c.in-Whole.ensures.taken refl c.requires.rest.ready

pub go_on-requires-clause-ready : goal.go_on-requires-clause-ready
go_on-requires-clause-ready g c =
    part_ready c.replies.ensures.taken c.replies.ensures.acked c.args.self.now (record { core = c.args.self.now.core; mux = c.take-took.new.self; listing = c.args.self.now.listing; frames = c.args.self.now.frames + 1 }) c.as_slice.result.now c.in-Part.ensures.taken refl c.requires.rest.ready

pub returns-in-Whole-clause-takes : goal.returns-in-Whole-clause-takes
returns-in-Whole-clause-takes g c =
    whole_takes c.args.program.now c.args.self.now (record { core = c.args.self.now.core; mux = c.take-took.new.self; listing = c.args.self.now.listing; frames = c.args.self.now.frames + 1 }) c.exchange.new.self c.args.bytes c.in-Whole.message
    (record { read = g.G.Ground.read c.args.ground.now; lowest = g.G.Ground.lowest_front c.args.ground.now; recorded = g.G.Ground.recorded c.args.ground.now; checkpoints = g.G.Ground.checkpoints c.args.ground.now; own = g.G.Ground.own c.args.ground.now })
    (record { read = g.G.Ground.read c.exchange.new.ground; lowest = g.G.Ground.lowest_front c.exchange.new.ground; recorded = g.G.Ground.recorded c.exchange.new.ground; checkpoints = g.G.Ground.checkpoints c.exchange.new.ground; own = g.G.Ground.own c.exchange.new.ground })
    (g.W.Wire.recorded c.args.wire.now) (g.W.Wire.recorded c.exchange.new.wire) c.exchange.result
    (subst (λ (b : List ℕ). GivesFrame c.args.self.now.mux b (takens.Whole c.in-Whole.message) c.take-took.new.self) c.as_slice.ensures c.in-Whole.ensures.taken) refl refl c.take-took.ensures.sent c.exchange.ensures.received c.exchange.ensures.frames
    (c.exchange.ensures.goes (record { read = g.G.Ground.read c.args.ground.now; lowest = g.G.Ground.lowest_front c.args.ground.now; recorded = g.G.Ground.recorded c.args.ground.now; checkpoints = g.G.Ground.checkpoints c.args.ground.now; own = g.G.Ground.own c.args.ground.now }) refl)

pub returns-in-Part-clause-takes : goal.returns-in-Part-clause-takes
returns-in-Part-clause-takes g c =
    part_takes c.args.program.now c.args.self.now (record { core = c.args.self.now.core; mux = c.take-took.new.self; listing = c.args.self.now.listing; frames = c.args.self.now.frames + 1 }) c.go_on.new.self c.args.bytes
    (record { read = g.G.Ground.read c.args.ground.now; lowest = g.G.Ground.lowest_front c.args.ground.now; recorded = g.G.Ground.recorded c.args.ground.now; checkpoints = g.G.Ground.checkpoints c.args.ground.now; own = g.G.Ground.own c.args.ground.now })
    (record { read = g.G.Ground.read c.args.ground.now; lowest = g.G.Ground.lowest_front c.args.ground.now; recorded = g.G.Ground.recorded c.args.ground.now; checkpoints = g.G.Ground.checkpoints c.args.ground.now; own = g.G.Ground.own c.args.ground.now })
    (g.W.Wire.recorded c.args.wire.now) (g.W.Wire.recorded c.go_on.new.wire) c.go_on.result
    (subst (λ (b : List ℕ). (given : Taken) × IsPartOfMessage given × GivesFrame c.args.self.now.mux b given c.take-took.new.self) c.as_slice.ensures c.in-Part.ensures.taken) refl refl c.take-took.ensures.sent c.go_on.ensures.received c.go_on.ensures.frames
    (c.go_on.ensures.goes c.args.program.now (record { read = g.G.Ground.read c.args.ground.now; lowest = g.G.Ground.lowest_front c.args.ground.now; recorded = g.G.Ground.recorded c.args.ground.now; checkpoints = g.G.Ground.checkpoints c.args.ground.now; own = g.G.Ground.own c.args.ground.now }) c.requires.front)
