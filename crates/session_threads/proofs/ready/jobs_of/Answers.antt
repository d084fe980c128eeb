use Rattle.std.proofs.Common.{rules, ◌++◌, ◌∷◌, [], ◌∙◌, length, sym, ap, arith}
use Rattle.std.proofs.lemmas.List.{append_assoc, length-append, length_push}
use Rattle.session_threads.proofs.Pairs.{pairs_more}
use Rattle.session_threads.proofs.Threading.{less_more, less_none}
use Rattle.session_threads.proofs.ready.jobs_of.Goals as goal

pub loop-one-init : goal.loop-one-init
loop-one-init g c = record {
  here = search rules;
  less = less_none c.args.pass.now.knows;
  room = search rules;
  all = search rules;
  len = search rules;
  jobs = rw (c.requires.none) tt;
}

pub job-requires-clause-left : goal.job-requires-clause-left
job-requires-clause-left g c = λ κs within.
    omega (arith, c.requires.left, c.loop-one.invariant.less.left, ap (λ l. length l) c.loop-one.invariant.all, length-append c.loop-one.yielded c.loop-one.one-iterator.rest.items, ap (λ l. length l) c.in-Some.ensures.steps.0)

pub loop-one-preserved : goal.loop-one-preserved
loop-one-preserved g c =
    let was = c.loop-one.invariant in
    let steps = c.in-Some.ensures.steps in record {
      here = c.job.ensures.gate ∙ was.here;
      less = less_more c.args.pass.now.knows c.loop-one.pass.knows _ (length c.loop-one.yielded) _ was.less c.job.ensures.knows
          (omega (arith, c.requires.left, was.less.left, ap (λ l. length l) was.all, length-append c.loop-one.yielded c.loop-one.one-iterator.rest.items)) (length_push c.loop-one.yielded c.in-Some.one);
      room = search rules;
      all = was.all ∙ ap (λ l. c.loop-one.yielded ++ l) steps.0 ∙ sym (append_assoc c.loop-one.yielded (c.in-Some.one ∷ []) _);
      len = omega (arith, was.len, steps.1, ap (λ l. length l) steps.0);
      jobs = rw (c.push_reserved.ensures.items) (pairs_more _ c.loop-one.yielded _ c.in-Some.one _ was.jobs
          (c.job.ensures.here, c.job.ensures.other ∙ was.less.others, c.job.ensures.setup, c.job.ensures.wire));
    }
