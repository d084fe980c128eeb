use denote.Param.Send.{sendable}
use Rattle.std.proofs.Common.{◌∙◌, ◌-◌, ap, arith, length}
use Rattle.seq_gate.specs.Passes.{share}
use Rattle.write_path.proofs.Crossing.{shelf_send}
use Rattle.write_path.specs.Origins.{Origin}
use Rattle.write_path.specs.Shelf.{shelf_state}
use Rattle.session_server.specs.inner.Lines.{lines_in}
use Rattle.session_server.proofs.Holding.{holds_join, kept_join, same_gate}
use Rattle.session_server.proofs.server.ServerServe.done.Goals as goal

pub join-requires-send-B : goal.join-requires-send-B
join-requires-send-B g c κs = search (shelf_send, sendable) depth 20

pub join-requires-clause-other : goal.join-requires-clause-other
join-requires-clause-other g c = λ κs.
    let job = c.requires.job in
    c.into_inner.ensures.gate ∙ same_gate job.0.ground c.args.done.ground job.2.origin ∙ job.1.here

pub invariant_of-self : goal.invariant_of-self
invariant_of-self g c =
    let job = c.requires.job in record {
      kept = kept_join (shelf_state c.args.self.now.opened.value) c.args.self.now.gate.now c.args.self.now.pass c.join.new.self c.into_inner.result c.args.self.now.out (c.args.self.now.out - 1) (length (lines_in c.args.self.now.lines)) c.args.self.now.refused
          c.args.self.now.kept c.join.ensures.gate c.join.ensures.knows c.into_inner.ensures.rests (ap share c.into_inner.ensures.knows ∙ ap (λ (o : Origin). o.draws) job.2.origin ∙ job.1.split.share_is) (omega (arith, c.requires.some));
    }

pub returns-clause-holds : goal.returns-clause-holds
returns-clause-holds g c = λ traces was.
    let job = c.requires.job in (
      was.0,
      holds_join (shelf_state c.args.self.now.opened.value) c.args.self.now.config.now job.0.config.now c.args.self.now.pass.knows c.join.new.self.knows job.0.ground c.args.done.ground c.into_inner.result (g.L.Link.recorded job.0.line) (g.L.Line.traced c.args.done.trace) _
          was.1 c.into_inner.ensures.knows c.join.ensures.knows job.1.split job.2 job.1.config_is (job.1.fresh was.0),
      omega (arith, was.2, c.requires.some),
    )
