use mir.Syntax.{named}
use denote.Exit.{no}
use denote.Param.{param}
use denote.Param.Send.{arg_send, param_send, sendable}
use Rattle.std.proofs.Common.{◌∙◌, arith, refl}
use Rattle.seq_gate.specs.Passes.{split_off}
use Rattle.write_path.proofs.Crossing.{shelf_send}
use Rattle.session_threads.specs.declared.played.PlayedSession.{PlayedSession}
use Rattle.session_threads.specs.declared.ready.Ready.{Ready}
use Rattle.session_threads.specs.declared.session.SessionDone.{SessionDone}
use Rattle.session_threads.specs.declared.session.SessionJob.{SessionJob}
use Rattle.session_threads.proofs.Crossing.{done_send, job_send}
use Rattle.session_threads.proofs.Pairs.{as_long}
use Rattle.session_threads.proofs.Threading.{of_gate, threaded_is}
use Rattle.session_threads.specs.contracts.session.SessionDone as done
use Rattle.session_threads.specs.contracts.session.SessionJob as job
use Rattle.session_threads.proofs.run.threads.Lts as lts
use Rattle.session_threads.proofs.run.threads.Goals as goal

pub split-other-requires-send-B : goal.split-other-requires-send-B
split-other-requires-send-B g c κs = search (shelf_send, sendable) depth 20

pub join-requires-send-B : goal.join-requires-send-B
join-requires-send-B g c κs = search (shelf_send, sendable) depth 20

pub in_threads-requires-send-J : goal.in_threads-requires-send-J
in_threads-requires-send-J g c κs within =
    param_send _ (lts.arg-8-1 g.row.R g.row.W g.R.laws g.W.laws g.R.Threads g.R.Threads-dict g.R.Wait g.R.Wait-dict g.W.Wire g.W.Wire-dict g.W.Destruct-dict κs)
    (arg_send _ no (job.the_row (record { mir = named 6; lft = κs.1.1.1.1.1.1.0 }) (param 0 g.row.R) (param 1 g.row.W) g.W.Wire) (job_send (record { mir = named 6; lft = κs.1.1.1.1.1.1.0 }) (param 0 g.row.R) (param 1 g.row.W) g.W.Wire c.type_bounds.sync-R c.type_bounds.send-W))

pub in_threads-requires-send-J-Done : goal.in_threads-requires-send-J-Done
in_threads-requires-send-J-Done g c κs within =
    param_send _ (lts.arg-8-2 g.row.R g.row.W g.R.laws g.W.laws g.R.Threads g.R.Threads-dict g.R.Wait g.R.Wait-dict g.W.Wire g.W.Wire-dict g.W.Destruct-dict κs)
    (arg_send _ no (done.the_row (record { mir = named 6; lft = κs.1.1.1.1.1.1.0 }) (param 0 g.row.R) (param 1 g.row.W)) (done_send (record { mir = named 6; lft = κs.1.1.1.1.1.1.0 }) (param 0 g.row.R) (param 1 g.row.W) c.type_bounds.sync-R c.type_bounds.send-W))

pub take_in_all-requires-clause-others : goal.take_in_all-requires-clause-others
take_in_all-requires-clause-others g c = λ κs within.
    of_gate {R = Ready g.row.W.Denot} {J = SessionJob g.row.R.Denot g.row.W.Denot g.W.Wire} {D = SessionDone g.row.R.Denot g.row.W.Denot} {E = PlayedSession g.row.W.Denot} {W = g.row.W.Denot} g.W.Wire.recorded g.W.Wire.faults
    (λ r. r.setup) (λ r. r.wire) (λ j. j.ground) (λ j. j.setup) (λ j. j.wire) (λ d. d.ground) (λ d. d.ended) (λ d. d.wire) (λ e. e.ended) (λ e. e.wire) c.args.gate.now (split_off c.args.pass.knows)
    c.args.ready.items c.jobs_of.new.jobs.items c.in-Ok-in_threads.given.2.items c.jobs_of.ensures.jobs c.in-Ok-in_threads.ensures.jobs

pub take_in_all-requires-clause-room : goal.take_in_all-requires-clause-room
take_in_all-requires-clause-room g c = omega (arith, c.requires.room, as_long _ _ _ c.jobs_of.ensures.jobs, as_long _ _ _ c.in-Ok-in_threads.ensures.jobs)

pub returns : goal.returns
returns g c =
    threaded_is {R = Ready g.row.W.Denot} {J = SessionJob g.row.R.Denot g.row.W.Denot g.W.Wire} {D = SessionDone g.row.R.Denot g.row.W.Denot} {E = PlayedSession g.row.W.Denot} {W = g.row.W.Denot} g.W.Wire.recorded g.W.Wire.faults
    (λ r. r.setup) (λ r. r.wire) (λ j. j.ground) (λ j. j.setup) (λ j. j.wire) (λ d. d.ground) (λ d. d.ended) (λ d. d.wire) (λ e. e.ended) (λ e. e.wire) c.args.gate.now (split_off c.args.pass.knows)
    c.args.pass.knows refl c.args.program.now c.args.strict c.args.lines c.args.ready.items c.jobs_of.new.jobs.items c.in-Ok-in_threads.given.2.items c.take_in_all.new.ended.items c.in-Ok-in_threads.given.1.items
    c.in-Ok-in_threads.given.0 c.take_in_all.new.pass c.jobs_of.new.pass.knows c.split-other.new.self.knows c.split-other.result.knows c.join.new.self.knows
    c.jobs_of.ensures.less c.requires.left c.split-other.ensures.knows c.split-other.ensures.other c.in-Ok-in_threads.ensures.script c.join.ensures.knows c.take_in_all.ensures.knows
    (c.take_in_all.ensures.gate ∙ c.join.ensures.gate ∙ c.split-other.ensures.gate.0 ∙ c.jobs_of.ensures.gate ∙ c.requires.here)
    c.jobs_of.ensures.jobs c.in-Ok-in_threads.ensures.jobs c.take_in_all.ensures.ended
