use Rattle.std.proofs.Common.{List, ℕ, inl, inr, refl, subst}
use Rattle.sg_outside.specs.declared.sink.Gave.TheVariants as gave
use Rattle.sg_lines.specs.Door.{OpensIfRecorded}
use Rattle.gateway_app.proofs.Serving.{as_it_was, not_opened, opened_served, status_is}
use Rattle.gateway_app.proofs.serve_command.serve_config.Goals as goal

pub returns-in-Done-clause-served : goal.returns-in-Done-clause-served
returns-in-Done-clause-served g c = opened_served g.D.Line.Line.traced c.args.config.now _ _ _ _
    (subst (λ (b : List ℕ). OpensIfRecorded (g.D.Door.recorded c.args.door.now) b c.args.config.now.accepts gave.Done (g.D.Door.recorded c.open.new.self)) c.as_str.ensures c.in-Done.ensures.recorded) c.serve_opened.ensures.served

pub returns-in-Done-clause-status : goal.returns-in-Done-clause-status
returns-in-Done-clause-status g c = status_is c.serve_opened.ensures.served.0 c.serve_opened.result c.serve_opened.ensures.served.1

pub returns-in-Failed-clause-served : goal.returns-in-Failed-clause-served
returns-in-Failed-clause-served g c = not_opened g.D.Line.Line.traced c.args.config.now _ _ _ (as_it_was g.D.Line.Line.traced _ _ _ _ gave.Failed (inl refl) c.in-Failed.ensures.recorded) (inl refl)

pub returns-in-Memory-clause-served : goal.returns-in-Memory-clause-served
returns-in-Memory-clause-served g c = not_opened g.D.Line.Line.traced c.args.config.now _ _ _ (as_it_was g.D.Line.Line.traced _ _ _ _ gave.Memory (inr refl) c.in-Memory.ensures.recorded) (inr refl)
