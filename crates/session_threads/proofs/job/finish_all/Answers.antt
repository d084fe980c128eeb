use Rattle.std.proofs.Common.{rules, ◌≡◌, ◌<◌, ◌∷◌, length, ap, subst, arith, Ok, Err}
use Rattle.std.proofs.lemmas.List.{length_push, nil_from_length}
use Rattle.session_threads.proofs.Pairs.{done_more, all_done, first_out}
use Rattle.session_threads.proofs.job.finish_all.Goals as goal

pub loop-started-preserved-in-Ok : goal.loop-started-preserved-in-Ok
loop-started-preserved-in-Ok g c =
    let was = c.loop-started.invariant in
    let some : 0 < length c.loop-started.started.items = search rules in
    let out : c.loop-started.started.items ≡ Ok c.in-Ok.child ∷ c.remove.new.self.items = first_out _ _ _ some c.in-Ok.ensures.value c.in-Ok.ensures.by_index.2 in record {
      room = rw (c.push_reserved.ensures.items) (omega (arith, was.room, ap length out, length_push c.loop-started.done.items c.join.result, c.push_reserved.ensures.capacity));
      done = λ jobs all. done_more _ _ jobs _ _ _ _ _ c.join.result out c.push_reserved.ensures.items (λ x is. subst (λ j. g.J.Job.relates j c.join.result) is c.join.ensures) (was.done jobs all);
    }

pub loop-started-preserved : goal.loop-started-preserved
loop-started-preserved g c =
    let was = c.loop-started.invariant in
    let some : 0 < length c.loop-started.started.items = search rules in
    let out : c.loop-started.started.items ≡ Err c.in-Err.given ∷ c.remove.new.self.items = first_out _ _ _ some c.in-Err.ensures.value c.in-Err.ensures.by_index.2 in record {
      room = rw (c.push_reserved-in-Err.ensures.items) (omega (arith, was.room, ap length out, length_push c.loop-started.done.items c.in-Err.given, c.push_reserved-in-Err.ensures.capacity));
      done = λ jobs all. done_more _ _ jobs _ _ _ _ _ c.in-Err.given out c.push_reserved-in-Err.ensures.items (λ x r. r) (was.done jobs all);
    }

pub returns : goal.returns
returns g c = λ jobs all. all_done _ _ jobs _ _ (c.loop-started.invariant.done jobs all) (nil_from_length c.loop-started.started.items (search rules))
