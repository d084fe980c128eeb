use Rattle.std.proofs.Common.{◌≤◌, [], inr, refl, sym, ◌∙◌, subst, le_refl, arith}
use Rattle.session_core.specs.Conduct.{feed_front}
use Rattle.session_core.specs.State.{Machine}
use Rattle.session_run.specs.declared.ended.End.TheVariants as end
use Rattle.session_run.specs.declared.session.Session.{Session}
use Rattle.session_run.specs.inner.Held.{Runs, RunsOn}
use Rattle.session_run.specs.Served.{IsServed}
use Rattle.session_run.specs.Spent.{Draws}
use Rattle.session_run.proofs.Ending.{run_ends, runs_new}
use Rattle.session_run.proofs.Spending.{no_draws, draws_on, can_still}
use Rattle.session_run.proofs.Turning.{read_nothing}
use Rattle.session_run.proofs.serve.serve_session.Goals as goal

pub returns-then-is_err-clause-session : goal.returns-then-is_err-clause-session
returns-then-is_err-clause-session g c =
    subst (λ ended. IsServed c.args.setup (record { read = g.G.Ground.read c.args.ground; lowest = g.G.Ground.lowest_front c.args.ground; recorded = g.G.Ground.recorded c.args.ground; checkpoints = g.G.Ground.checkpoints c.args.ground; own = g.G.Ground.own c.args.ground }) (record { read = g.G.Ground.read c.args.ground; lowest = g.G.Ground.lowest_front c.args.ground; recorded = g.G.Ground.recorded c.args.ground; checkpoints = g.G.Ground.checkpoints c.args.ground; own = g.G.Ground.own c.args.ground }) (g.W.Wire.recorded c.args.wire.now) ended (g.W.Wire.recorded c.args.wire.now)) (sym c.ended.ensures)
    (run_ends c.traffic.ensures.on c.args.setup (record { read = g.G.Ground.read c.args.ground; lowest = g.G.Ground.lowest_front c.args.ground; recorded = g.G.Ground.recorded c.args.ground; checkpoints = g.G.Ground.checkpoints c.args.ground; own = g.G.Ground.own c.args.ground })
    (record { read = g.G.Ground.read c.args.ground; lowest = g.G.Ground.lowest_front c.args.ground; recorded = g.G.Ground.recorded c.args.ground; checkpoints = g.G.Ground.checkpoints c.args.ground; own = g.G.Ground.own c.args.ground })
    (record { read = g.G.Ground.read c.args.ground; lowest = g.G.Ground.lowest_front c.args.ground; recorded = g.G.Ground.recorded c.args.ground; checkpoints = g.G.Ground.checkpoints c.args.ground; own = g.G.Ground.own c.args.ground })
    (g.W.Wire.recorded c.args.wire.now) (g.W.Wire.recorded c.args.wire.now) (g.W.Wire.recorded c.args.wire.now) c.reserve.new.self c.reserve.new.self 0 end.Memory [] refl
    (read_nothing (record { read = g.G.Ground.read c.args.ground; lowest = g.G.Ground.lowest_front c.args.ground; recorded = g.G.Ground.recorded c.args.ground; checkpoints = g.G.Ground.checkpoints c.args.ground; own = g.G.Ground.own c.args.ground }))
    refl refl (omega arith) tt (λ turns frames results sent held counted. (inr refl, refl)) (c.traffic.ensures.none (g.W.Wire.recorded c.args.wire.now))
    (subst (λ (s : Session). Runs c.args.setup (record { read = g.G.Ground.read c.args.ground; lowest = g.G.Ground.lowest_front c.args.ground; recorded = g.G.Ground.recorded c.args.ground; checkpoints = g.G.Ground.checkpoints c.args.ground; own = g.G.Ground.own c.args.ground }) (record { read = g.G.Ground.read c.args.ground; lowest = g.G.Ground.lowest_front c.args.ground; recorded = g.G.Ground.recorded c.args.ground; checkpoints = g.G.Ground.checkpoints c.args.ground; own = g.G.Ground.own c.args.ground }) (g.W.Wire.recorded c.args.wire.now) s (g.W.Wire.recorded c.args.wire.now) 0) (sym c.reserve.ensures)
    (runs_new c.args.setup (record { read = g.G.Ground.read c.args.ground; lowest = g.G.Ground.lowest_front c.args.ground; recorded = g.G.Ground.recorded c.args.ground; checkpoints = g.G.Ground.checkpoints c.args.ground; own = g.G.Ground.own c.args.ground }) (g.W.Wire.recorded c.args.wire.now) c.new-session.result (c.traffic.ensures.none (g.W.Wire.recorded c.args.wire.now)) (c.new-session.ensures.holds c.args.setup (record { read = g.G.Ground.read c.args.ground; lowest = g.G.Ground.lowest_front c.args.ground; recorded = g.G.Ground.recorded c.args.ground; checkpoints = g.G.Ground.checkpoints c.args.ground; own = g.G.Ground.own c.args.ground }) c.new-session.ensures.core))))

pub loop-received-init : goal.loop-received-init
loop-received-init g c = rw c.reserve.ensures (record {
  runs = runs_new c.args.setup (record { read = g.G.Ground.read c.args.ground; lowest = g.G.Ground.lowest_front c.args.ground; recorded = g.G.Ground.recorded c.args.ground; checkpoints = g.G.Ground.checkpoints c.args.ground; own = g.G.Ground.own c.args.ground }) (g.W.Wire.recorded c.args.wire.now) c.new-session.result (c.traffic.ensures.none (g.W.Wire.recorded c.args.wire.now)) (c.new-session.ensures.holds c.args.setup (record { read = g.G.Ground.read c.args.ground; lowest = g.G.Ground.lowest_front c.args.ground; recorded = g.G.Ground.recorded c.args.ground; checkpoints = g.G.Ground.checkpoints c.args.ground; own = g.G.Ground.own c.args.ground }) c.new-session.ensures.core);
  rest = (c.new-session.ensures.holds c.args.setup (record { read = g.G.Ground.read c.args.ground; lowest = g.G.Ground.lowest_front c.args.ground; recorded = g.G.Ground.recorded c.args.ground; checkpoints = g.G.Ground.checkpoints c.args.ground; own = g.G.Ground.own c.args.ground }) c.new-session.ensures.core).rest;
  front = subst (λ (m : Machine). feed_front m.feed ≤ g.G.Ground.lowest_front c.args.ground) (sym c.new-session.ensures.core) (omega arith);
  room = subst (λ (m : Machine). m.requests ≤ 0) (sym c.new-session.ensures.core) (le_refl 0);
  count = subst (λ n. n ≤ 0) (sym c.new-session.ensures.frames) (le_refl 0);
  draws = subst (λ n. Draws (g.G.Ground.origin c.args.ground) (g.G.Ground.origin c.args.ground) (g.G.Ground.left c.args.ground) (g.G.Ground.left c.args.ground) 0 n) (sym c.new-session.ensures.spent) (no_draws (g.G.Ground.origin c.args.ground) (g.G.Ground.left c.args.ground) 0 (omega arith));
  faults = le_refl (g.W.Wire.faults c.args.wire.now);
})

pub returns-in-Some-clause-session : goal.returns-in-Some-clause-session
returns-in-Some-clause-session g c =
    subst (λ ended. IsServed c.args.setup (record { read = g.G.Ground.read c.args.ground; lowest = g.G.Ground.lowest_front c.args.ground; recorded = g.G.Ground.recorded c.args.ground; checkpoints = g.G.Ground.checkpoints c.args.ground; own = g.G.Ground.own c.args.ground }) (record { read = g.G.Ground.read c.step.new.ground; lowest = g.G.Ground.lowest_front c.step.new.ground; recorded = g.G.Ground.recorded c.step.new.ground; checkpoints = g.G.Ground.checkpoints c.step.new.ground; own = g.G.Ground.own c.step.new.ground }) (g.W.Wire.recorded c.args.wire.now) ended (g.W.Wire.recorded c.step.new.wire)) (sym c.ended-in-Some.ensures)
    (subst (λ result. RunsOn c.args.setup (record { read = g.G.Ground.read c.args.ground; lowest = g.G.Ground.lowest_front c.args.ground; recorded = g.G.Ground.recorded c.args.ground; checkpoints = g.G.Ground.checkpoints c.args.ground; own = g.G.Ground.own c.args.ground }) (record { read = g.G.Ground.read c.step.new.ground; lowest = g.G.Ground.lowest_front c.step.new.ground; recorded = g.G.Ground.recorded c.step.new.ground; checkpoints = g.G.Ground.checkpoints c.step.new.ground; own = g.G.Ground.own c.step.new.ground }) (g.W.Wire.recorded c.args.wire.now) c.step.new.self (g.W.Wire.recorded c.step.new.wire) c.loop-received.received result) c.in-Some.is
    (c.step.ensures.runs c.args.setup (record { read = g.G.Ground.read c.args.ground; lowest = g.G.Ground.lowest_front c.args.ground; recorded = g.G.Ground.recorded c.args.ground; checkpoints = g.G.Ground.checkpoints c.args.ground; own = g.G.Ground.own c.args.ground }) (g.W.Wire.recorded c.args.wire.now) c.loop-received.received (sym c.deref.ensures) c.loop-received.invariant.runs (omega (arith, c.loop-received-test.true, c.loop-received.auto.received-end))))

pub returns-clause-session : goal.returns-clause-session
returns-clause-session g c =
    subst (λ ended. IsServed c.args.setup (record { read = g.G.Ground.read c.args.ground; lowest = g.G.Ground.lowest_front c.args.ground; recorded = g.G.Ground.recorded c.args.ground; checkpoints = g.G.Ground.checkpoints c.args.ground; own = g.G.Ground.own c.args.ground }) (record { read = g.G.Ground.read c.loop-received.ground; lowest = g.G.Ground.lowest_front c.loop-received.ground; recorded = g.G.Ground.recorded c.loop-received.ground; checkpoints = g.G.Ground.checkpoints c.loop-received.ground; own = g.G.Ground.own c.loop-received.ground }) (g.W.Wire.recorded c.args.wire.now) ended (g.W.Wire.recorded c.loop-received.wire)) (sym c.ended-2.ensures)
    (run_ends c.traffic.ensures.on c.args.setup (record { read = g.G.Ground.read c.args.ground; lowest = g.G.Ground.lowest_front c.args.ground; recorded = g.G.Ground.recorded c.args.ground; checkpoints = g.G.Ground.checkpoints c.args.ground; own = g.G.Ground.own c.args.ground })
    (record { read = g.G.Ground.read c.loop-received.ground; lowest = g.G.Ground.lowest_front c.loop-received.ground; recorded = g.G.Ground.recorded c.loop-received.ground; checkpoints = g.G.Ground.checkpoints c.loop-received.ground; own = g.G.Ground.own c.loop-received.ground })
    (record { read = g.G.Ground.read c.loop-received.ground; lowest = g.G.Ground.lowest_front c.loop-received.ground; recorded = g.G.Ground.recorded c.loop-received.ground; checkpoints = g.G.Ground.checkpoints c.loop-received.ground; own = g.G.Ground.own c.loop-received.ground })
    (g.W.Wire.recorded c.args.wire.now) (g.W.Wire.recorded c.loop-received.wire) (g.W.Wire.recorded c.loop-received.wire) c.loop-received.session c.loop-received.session c.loop-received.received end.TurnsFull [] refl
    (read_nothing (record { read = g.G.Ground.read c.loop-received.ground; lowest = g.G.Ground.lowest_front c.loop-received.ground; recorded = g.G.Ground.recorded c.loop-received.ground; checkpoints = g.G.Ground.checkpoints c.loop-received.ground; own = g.G.Ground.own c.loop-received.ground }))
    refl refl (omega (arith, c.loop-received-test.false, c.loop-received.auto.received-end)) tt
    (λ turns frames results sent held counted. (refl, counted ∙ omega (arith, c.loop-received-test.false, c.loop-received.auto.received-end), refl))
    (c.traffic.ensures.none (g.W.Wire.recorded c.loop-received.wire)) c.loop-received.invariant.runs)

pub step-requires-clause-looks : goal.step-requires-clause-looks
step-requires-clause-looks g c =
    can_still (g.G.Ground.origin c.args.ground) (g.G.Ground.origin c.loop-received.ground) (g.G.Ground.left c.args.ground) (g.G.Ground.left c.loop-received.ground) 0 c.loop-received.session.listing.spent (omega arith, omega (arith, c.requires.draws)) c.loop-received.invariant.draws

pub returns-in-Some-clause-origin : goal.returns-in-Some-clause-origin
returns-in-Some-clause-origin g c = (draws_on (g.G.Ground.origin c.args.ground) (g.G.Ground.origin c.loop-received.ground) (g.G.Ground.origin c.step.new.ground) (g.G.Ground.left c.args.ground) (g.G.Ground.left c.loop-received.ground) (g.G.Ground.left c.step.new.ground) 0 c.loop-received.session.listing.spent c.step.new.self.listing.spent c.loop-received.invariant.draws c.step.ensures.draws).origin

pub returns-in-Some-clause-least : goal.returns-in-Some-clause-least
returns-in-Some-clause-least g c = (draws_on (g.G.Ground.origin c.args.ground) (g.G.Ground.origin c.loop-received.ground) (g.G.Ground.origin c.step.new.ground) (g.G.Ground.left c.args.ground) (g.G.Ground.left c.loop-received.ground) (g.G.Ground.left c.step.new.ground) 0 c.loop-received.session.listing.spent c.step.new.self.listing.spent c.loop-received.invariant.draws c.step.ensures.draws).least

pub returns-in-Some-clause-most : goal.returns-in-Some-clause-most
returns-in-Some-clause-most g c =
    let made = draws_on (g.G.Ground.origin c.args.ground) (g.G.Ground.origin c.loop-received.ground) (g.G.Ground.origin c.step.new.ground) (g.G.Ground.left c.args.ground) (g.G.Ground.left c.loop-received.ground) (g.G.Ground.left c.step.new.ground) 0 c.loop-received.session.listing.spent c.step.new.self.listing.spent c.loop-received.invariant.draws c.step.ensures.draws in
    omega (arith, made.most, made.few)

pub returns-clause-origin : goal.returns-clause-origin
returns-clause-origin g c = c.loop-received.invariant.draws.origin

pub returns-clause-least : goal.returns-clause-least
returns-clause-least g c = c.loop-received.invariant.draws.least

pub returns-clause-most : goal.returns-clause-most
returns-clause-most g c = omega (arith, c.loop-received.invariant.draws.most, c.loop-received.invariant.draws.few)
