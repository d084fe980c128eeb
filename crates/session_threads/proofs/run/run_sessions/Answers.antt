use Rattle.std.proofs.Common.{arith, not, refl}
use Rattle.std.proofs.lemmas.Result.{IfOk-weaker}
use Rattle.write_path.specs.Shelf.{shelf_state}
use Rattle.session_threads.proofs.Pairs.{as_long, mapped}
use Rattle.session_threads.proofs.Playing.{no_bytes, played}
use Rattle.session_threads.proofs.run.run_sessions.Goals as goal

pub play-requires-clause-sessions : goal.play-requires-clause-sessions
play-requires-clause-sessions g c = omega (arith, c.requires.few_sessions, as_long _ _ _ c.in-Ok-ready_all.ensures)

pub returns : goal.returns
returns g c = record {
  played = IfOk-weaker c.play.result _ _ (λ p closed.
      played (record { before = c.was_read.ensures.before; lowest = c.was_read.ensures.lowest }) c.judged_writes.ensures.later (record { own = c.sessions.ensures.own; numbers = c.sessions.ensures.numbers; closing = c.sessions.ensures.closing; count = c.side_maps.ensures.count })
      (shelf_state c.in-Ok.shelf) (shelf_state p.shelf) c.deref.result.now (not c.args.config.now.conflicts) c.args.script _ _ p.script _ closed
      (mapped _ _ _ _ (λ s r is. rw (c.deref.ensures) is) _ _ c.in-Ok-ready_all.ensures)
      (c.closing.ensures.closed closed.pass.knows (shelf_state p.shelf) closed.closes)
      (no_bytes c.in-Ok.shelf.board c.in-Ok.ensures.pending c.in-Ok.ensures.rooms c.in-Ok.ensures.opened.bodies)
      c.args.config.now c.deref.ensures refl c.in-Ok.ensures.opening) c.play.ensures;
}
