use denote.Exit.{no}
use denote.Param.Send.{arg_send, param_send, sendable}
use Rattle.std.proofs.Common.{◌≡◌, ◌∙◌, ◌+◌, List, ap, arith, length, map, subst, sym}
use Rattle.sg_history.specs.Board.{BoardState}
use Rattle.write_path.proofs.Crossing.{shelf_send}
use Rattle.write_path.specs.Shelf.{shelf_state}
use Rattle.session_threads.specs.Opening.{IsOpening}
use Rattle.session_server.specs.inner.Lines.{AreFresh, lines_in}
use Rattle.session_server.specs.inner.Runs.{Holds}
use Rattle.session_server.proofs.Crossing.{caller_send, left_send}
use Rattle.session_server.proofs.Holding.{one_at_first}
use Rattle.session_server.proofs.ServedCallers.{handed_on, served_all, serves, spent_is}
use Rattle.session_server.proofs.serving.serve_behind.Lts as lts
use Rattle.session_server.proofs.serving.serve_behind.Goals as goal

pub serve_door-end-requires-send-S-Job : goal.serve_door-end-requires-send-S-Job
serve_door-end-requires-send-S-Job g c κs within =
    param_send _ (lts.arg-6-6 g.row.R g.row.D g.row.D-Line g.row.D-Line-Socket g.row.D-Line-Trace g.R.laws g.D.laws g.D.Line.laws g.D.Line.Socket.laws g.D.Line.Trace.laws g.R.Threads g.R.Threads-dict g.R.Wait g.R.Wait-dict g.D.Door g.D.Door-dict g.D.Line.Line g.D.Line.Line-dict g.D.Line.Link g.D.Line.Link-dict g.D.Line.Socket.Wire g.D.Line.Socket.Wire-dict g.D.Destruct-dict g.D.Line.Destruct-dict g.D.Line.Socket.Destruct-dict g.D.Line.Trace.Destruct-dict κs)
    (arg_send _ no _ (caller_send _ _ _ _ _ _ _ _ c.type_bounds.sync-R c.type_bounds.send-D-Line))

pub serve_door-end-requires-send-S-Job-Done : goal.serve_door-end-requires-send-S-Job-Done
serve_door-end-requires-send-S-Job-Done g c κs within =
    param_send _ (lts.arg-6-7 g.row.R g.row.D g.row.D-Line g.row.D-Line-Socket g.row.D-Line-Trace g.R.laws g.D.laws g.D.Line.laws g.D.Line.Socket.laws g.D.Line.Trace.laws g.R.Threads g.R.Threads-dict g.R.Wait g.R.Wait-dict g.D.Door g.D.Door-dict g.D.Line.Line g.D.Line.Line-dict g.D.Line.Link g.D.Line.Link-dict g.D.Line.Socket.Wire g.D.Line.Socket.Wire-dict g.D.Destruct-dict g.D.Line.Destruct-dict g.D.Line.Socket.Destruct-dict g.D.Line.Trace.Destruct-dict κs)
    (arg_send _ no _ (left_send _ _ _ c.type_bounds.sync-R c.type_bounds.send-D-Line-Trace))

pub close-requires-send-B : goal.close-requires-send-B
close-requires-send-B g c κs = search (shelf_send, sendable) depth 20

pub returns-clause-served : goal.returns-clause-served
returns-clause-served g c =
    let served = c.serve_door-end.ensures.served in
    let follows = c.serve_door-end.ensures.follows in
    let opened : BoardState = shelf_state c.serve_door-end.new.serve.opened.value in
    let same : opened ≡ shelf_state c.args.opened.value = ap shelf_state (follows.2 ∙ c.new-server.ensures.opened) in
    let holds : List g.row.D-Line-Trace.Denot → Type 0 = λ ts.
    AreFresh g.D.Line.Link.recorded (lines_in c.serve_door-end.new.serve.lines) × Holds opened c.serve_door-end.new.serve.config.now c.serve_door-end.new.serve.pass.knows (map g.D.Line.Line.traced ts)
    × (length ts + c.serve_door-end.new.serve.out ≡ length (lines_in c.serve_door-end.new.serve.lines)) in
    serves g.D.Line.Line.traced c.args.config.now (shelf_state c.close.result) _ holds c.new-server.ensures.holds
    (λ ts h. served_all (record { before = c.was_read.ensures.before; lowest = c.was_read.ensures.lowest }) c.judged_writes.ensures.later (record { own = c.sessions.ensures.own; numbers = c.sessions.ensures.numbers; closing = c.sessions.ensures.closing; count = c.side_maps.ensures.count }) opened (shelf_state c.close.result) c.args.config.now c.into_pass-pass.result.knows c.close.ensures
    (c.closing.ensures.closed c.into_pass-pass.result.knows (shelf_state c.close.result) c.close.ensures) (one_at_first opened c.into_pass-pass.result.knows.read c.into_pass-pass.ensures.read) c.into_pass-pass.ensures.opening (ap (λ (b : BoardState). b.bytes) same ∙ c.requires.bytes)
    (subst (λ (b : BoardState). IsOpening c.args.config.now.roles c.args.config.now.users b.log) (sym same) c.requires.opening) (map g.D.Line.Line.traced ts)
    (handed_on opened c.serve_door-end.new.serve.config.now c.args.config.now c.serve_door-end.new.serve.pass.knows c.into_pass-pass.result.knows (map g.D.Line.Line.traced ts) (follows.1 ∙ c.new-server.ensures.config) c.into_pass-pass.ensures.knows h.1))
    c.serve_door-end.result served.0 served.1
    (λ ts is h. let most = c.into_pass-pass.ensures.spent (spent_is _ _ served.0 served.2 is) in omega (arith, most, h.2, c.serve_door-end.ensures.out, c.new-server.ensures.out))
    (g.D.Door.recorded c.args.door.now) (g.D.Door.recorded c.serve_door-end.new.door) served.3
