use Rattle.std.proofs.Common.{rules, ◌++◌, ◌∷◌, [], ◌∙◌, List, length, sym, ap, arith}
use Rattle.std.proofs.lemmas.List.{append_assoc, length_push}
use Rattle.session_threads.proofs.Pairs.{pairs_more}
use Rattle.session_threads.proofs.job.start_all.Goals as goal

pub loop-job-preserved : goal.loop-job-preserved
loop-job-preserved g c =
    let was = c.loop-job.invariant in
    let steps = c.in-Some.ensures.steps in record {
      room = search rules;
      all = was.all ∙ ap (λ (l : List g.row.J.Denot). c.loop-job.yielded ++ l) steps.0 ∙ sym (append_assoc c.loop-job.yielded (c.in-Some.job ∷ []) _);
      len = omega (arith, was.len, steps.1, ap (λ (l : List g.row.J.Denot). length l) steps.0);
      count = rw (c.push_reserved.ensures.items) (omega (arith, was.count, length_push c.loop-job.yielded c.in-Some.job, length_push c.loop-job.started.items c.start.result));
      started = rw (c.push_reserved.ensures.items) (pairs_more _ c.loop-job.yielded _ c.in-Some.job _ was.started c.start.ensures);
    }
