use Rattle.std.proofs.Common.{◌≡◌, ◌++◌, ◌∷◌, [], ◌∙◌, List, length, refl, ap, sym, subst, arith, append-nil}
use Rattle.std.proofs.lemmas.List.{append_assoc, length-append, nil_from_length}
use Rattle.std.specs.Arc.{arc_value}
use Rattle.record_file.specs.declared.record.Recorded.{Recorded}
use Rattle.replay_in_turn.specs.Sessions.{moment_of}
use Rattle.replay_in_turn.specs.inner.Shape.{AreSessionsRun}
use Rattle.replay_in_turn.proofs.Runs.{no_sessions, sessions_more}
use Rattle.replay_in_turn.proofs.session.serve_in_turn.Goals as goal

pub loop-recorded-init : goal.loop-recorded-init
loop-recorded-init c = record {
  served = no_sessions (arc_value c.args.program.now) c.args.strict 1 (moment_of c.args.ground) c.args.out.now;
  number = refl;
  all = search;
  len = search;
}

pub loop-recorded-preserved : goal.loop-recorded-preserved
loop-recorded-preserved c = record {
  served = sessions_more c.reads.ensures.before (arc_value c.args.program.now) c.args.strict 1 c.loop-recorded.number c.loop-recorded.yielded _ _ _ _ _ _ c.in-Some.recorded c.loop-recorded.invariant.served c.in_ok-ground.ensures c.loop-recorded.invariant.number;
  number = omega (arith, c.loop-recorded.invariant.number, length-append c.loop-recorded.yielded (c.in-Some.recorded ∷ []));
  all = c.loop-recorded.invariant.all ∙ ap (λ (l : List Recorded). c.loop-recorded.yielded ++ l) c.in-Some.ensures.steps.0 ∙ sym (append_assoc c.loop-recorded.yielded (c.in-Some.recorded ∷ []) _);
  len = omega (arith, c.loop-recorded.invariant.len, c.in-Some.ensures.steps.1, ap (λ (l : List Recorded). length l) c.in-Some.ensures.steps.0);
}

pub returns : goal.returns
returns c =
    let none : c.loop-recorded.recorded-iterator.rest.items ≡ [] = nil_from_length c.loop-recorded.recorded-iterator.rest.items (omega (arith, c.loop-recorded.invariant.len, c.in-None.ensures.steps.0)) in
    let whole : c.args.sessions.items ≡ c.loop-recorded.yielded = c.loop-recorded.invariant.all ∙ ap (λ (l : List Recorded). c.loop-recorded.yielded ++ l) none ∙ append-nil c.loop-recorded.yielded in
    subst (λ (l : List Recorded). AreSessionsRun (arc_value c.args.program.now) c.args.strict 1 l (moment_of c.args.ground) (moment_of c.loop-recorded.ground) c.args.out.now c.loop-recorded.out) (sym whole) c.loop-recorded.invariant.served
