use Rattle.std.proofs.Common.{rules, ◌++◌, ◌∷◌, [], ◌∙◌, length, sym, ap, arith}
use Rattle.std.proofs.lemmas.List.{append_assoc}
use Rattle.session_threads.proofs.Pairs.{pairs_more}
use Rattle.session_threads.proofs.ready.ready_all.Goals as goal

pub loop-session-preserved : goal.loop-session-preserved
loop-session-preserved g c =
    let was = c.loop-session.invariant in
    let steps = c.in-Some.ensures.steps in record {
      all = was.all ∙ ap (λ l. c.loop-session.yielded ++ l) steps.0 ∙ sym (append_assoc c.loop-session.yielded (c.in-Some.session ∷ []) _);
      len = omega (arith, was.len, steps.1, ap (λ l. length l) steps.0);
      room = search rules;
      ready = rw (c.push_reserved.ensures.items) (pairs_more _ c.loop-session.yielded _ c.in-Some.session _ was.ready c.in-Ok-set_up.ensures);
    }
