use Rattle.std.proofs.Common.{[], ◌∷◌, Some, ap, sym, subst, ◌∙◌, arith}
use Rattle.session_core.specs.Conduct.{feed_front, most_answers}
use Rattle.session_core.specs.State.{Machine}
use Rattle.session_run.specs.inner.Held.{Conversing}
use Rattle.session_run.specs.Spent.{Draws}
use Rattle.session_run.proofs.Answering.{laws_of, event_within}
use Rattle.session_run.proofs.Conversing.{at_most_two, begun, went_on, halted_at, halted_first, halted_read}
use Rattle.session_run.proofs.Spending.{no_draws, draws_on, can_still}
use Rattle.session_run.proofs.Taking.{on_err}
use Rattle.session_run.proofs.Turning.{read_nothing}
use Rattle.session_run.proofs.session.Session.converse.Goals as goal

pub returns-in_err-want-clause-halted : goal.returns-in_err-want-clause-halted
returns-in_err-want-clause-halted g c before answered =
    on_err c.from_residual.result _
    (halted_first c.args.program.now c.args.self.now c.take_event.new.self c.args.event before (record { read = g.G.Ground.read c.args.ground.now; lowest = g.G.Ground.lowest_front c.args.ground.now; recorded = g.G.Ground.recorded c.args.ground.now; checkpoints = g.G.Ground.checkpoints c.args.ground.now; own = g.G.Ground.own c.args.ground.now })
    c.requires.first c.in_err-want.ensures.halted (ap (λ l. l.looks) c.take_event.ensures.listing) (ap (λ l. l.stored) c.take_event.ensures.listing) (ap (λ l. l.spent) c.take_event.ensures.listing) answered
    (read_nothing (record { read = g.G.Ground.read c.args.ground.now; lowest = g.G.Ground.lowest_front c.args.ground.now; recorded = g.G.Ground.recorded c.args.ground.now; checkpoints = g.G.Ground.checkpoints c.args.ground.now; own = g.G.Ground.own c.args.ground.now })))

pub loop-want-init : goal.loop-want-init
loop-want-init g c = record {
  wants = c.in_ok-want.ensures.wants;
  ready = c.in_ok-want.ensures.ready;
  may = c.in_ok-want.ensures.may;
  front = c.in_ok-want.ensures.ok.front (g.G.Ground.lowest_front c.args.ground.now) c.requires.front c.requires.seen;
  room = omega (arith, c.in_ok-want.ensures.few, at_most_two c.take_event.new.self.core.pending);
  frames = c.take_event.ensures.frames;
  received = c.take_event.ensures.received;
  sent = c.take_event.ensures.sent;
  draws = subst (λ l. Draws (g.G.Ground.origin c.args.ground.now) (g.G.Ground.origin c.args.ground.now) (g.G.Ground.left c.args.ground.now) (g.G.Ground.left c.args.ground.now) c.args.self.now.listing.spent l.spent) (sym c.take_event.ensures.listing)
      (no_draws (g.G.Ground.origin c.args.ground.now) (g.G.Ground.left c.args.ground.now) c.args.self.now.listing.spent c.requires.looks.0);
  run = λ before answered. (
    c.in_ok-want.ensures.ok.step ∷ [],
    begun c.args.program.now c.args.self.now c.take_event.new.self c.args.event before (record { read = g.G.Ground.read c.args.ground.now; lowest = g.G.Ground.lowest_front c.args.ground.now; recorded = g.G.Ground.recorded c.args.ground.now; checkpoints = g.G.Ground.checkpoints c.args.ground.now; own = g.G.Ground.own c.args.ground.now })
        c.in_ok-want.want c.requires.first c.in_ok-want.ensures.ok (ap (λ l. l.looks) c.take_event.ensures.listing) (ap (λ l. l.stored) c.take_event.ensures.listing) (ap (λ l. l.spent) c.take_event.ensures.listing) answered
        c.in_ok-want.ensures.wants c.in_ok-want.ensures.ready c.in_ok-want.ensures.may c.requires.front c.requires.seen c.in_ok-want.ensures.few,
  );
}

pub returns-in_err-answer-clause-halted : goal.returns-in_err-answer-clause-halted
returns-in_err-answer-clause-halted g c before answered =
    let run = c.loop-want.invariant.run before answered in
    on_err c.from_residual-in_err-answer.result _
    (halted_read c.args.program.now c.args.self.now c.loop-want.self c.answer.new.self c.args.event before (record { read = g.G.Ground.read c.loop-want.ground; lowest = g.G.Ground.lowest_front c.loop-want.ground; recorded = g.G.Ground.recorded c.loop-want.ground; checkpoints = g.G.Ground.checkpoints c.loop-want.ground; own = g.G.Ground.own c.loop-want.ground })
    (record { read = g.G.Ground.read c.answer.new.ground; lowest = g.G.Ground.lowest_front c.answer.new.ground; recorded = g.G.Ground.recorded c.answer.new.ground; checkpoints = g.G.Ground.checkpoints c.answer.new.ground; own = g.G.Ground.own c.answer.new.ground })
    c.loop-want.want run.0 run.1 c.answer.ensures.core c.in_err-answer.ensures.same_looks c.in_err-answer.ensures.same_stored c.in_err-answer.ensures.same_spent c.in_err-answer.ensures.read)

pub returns-in_err-want-2-clause-halted : goal.returns-in_err-want-2-clause-halted
returns-in_err-want-2-clause-halted g c before answered =
    let run = c.loop-want.invariant.run before answered in
    on_err c.from_residual-in_err-want-2.result _
    (halted_at c.args.program.now c.args.self.now c.loop-want.self c.answer.new.self c.take_event-in-Some.new.self c.args.event before (record { read = g.G.Ground.read c.loop-want.ground; lowest = g.G.Ground.lowest_front c.loop-want.ground; recorded = g.G.Ground.recorded c.loop-want.ground; checkpoints = g.G.Ground.checkpoints c.loop-want.ground; own = g.G.Ground.own c.loop-want.ground })
    (record { read = g.G.Ground.read c.answer.new.ground; lowest = g.G.Ground.lowest_front c.answer.new.ground; recorded = g.G.Ground.recorded c.answer.new.ground; checkpoints = g.G.Ground.checkpoints c.answer.new.ground; own = g.G.Ground.own c.answer.new.ground })
    run.0 c.in_ok-answer.answer c.in-Some.wanted
    (subst (λ w. Conversing c.args.program.now c.args.self.now c.loop-want.self c.args.event before (record { read = g.G.Ground.read c.loop-want.ground; lowest = g.G.Ground.lowest_front c.loop-want.ground; recorded = g.G.Ground.recorded c.loop-want.ground; checkpoints = g.G.Ground.checkpoints c.loop-want.ground; own = g.G.Ground.own c.loop-want.ground }) w run.0) c.in-Some.is run.1)
    (record { answered = c.in_ok-answer.ensures.answered; is = c.in_ok-answer.ensures.answer; core = c.answer.ensures.core; mux = c.answer.ensures.mux; looks = c.in_ok-answer.ensures.looks; stored = c.in_ok-answer.ensures.stored; spent = c.in_ok-answer.ensures.spent })
    c.in_err-want-2.ensures.halted c.take_event-in-Some.ensures.listing (read_nothing (record { read = g.G.Ground.read c.answer.new.ground; lowest = g.G.Ground.lowest_front c.answer.new.ground; recorded = g.G.Ground.recorded c.answer.new.ground; checkpoints = g.G.Ground.checkpoints c.answer.new.ground; own = g.G.Ground.own c.answer.new.ground })))

pub loop-want-preserved : goal.loop-want-preserved
loop-want-preserved g c =
    let within = (event_within (laws_of c.was_read.ensures.since c.later.ensures.log c.later.ensures.fronts c.later_boards.ensures.trees c.later_boards.ensures.least c.later-2.ensures.feed c.later-2.ensures.bodies c.reads.ensures.before c.reads.ensures.reflexive c.reads.ensures.transitive c.was_read.ensures.lowest c.was_read.ensures.front) (record { read = g.G.Ground.read c.loop-want.ground; lowest = g.G.Ground.lowest_front c.loop-want.ground; recorded = g.G.Ground.recorded c.loop-want.ground; checkpoints = g.G.Ground.checkpoints c.loop-want.ground; own = g.G.Ground.own c.loop-want.ground }) (record { read = g.G.Ground.read c.answer.new.ground; lowest = g.G.Ground.lowest_front c.answer.new.ground; recorded = g.G.Ground.recorded c.answer.new.ground; checkpoints = g.G.Ground.checkpoints c.answer.new.ground; own = g.G.Ground.own c.answer.new.ground }) c.loop-want.self.core.user c.args.program.now c.loop-want.self.core.strict (Some c.in-Some.wanted) c.in_ok-answer.answer c.in_ok-answer.ensures.answered) in
    record {
      wants = c.in_ok-want-2.ensures.wants;
      ready = c.in_ok-want-2.ensures.ready;
      may = c.in_ok-want-2.ensures.may;
      front = c.in_ok-want-2.ensures.ok.front (g.G.Ground.lowest_front c.answer.new.ground)
          (omega (arith, within.0, c.loop-want.invariant.front, ap (λ (m : Machine). feed_front m.feed) c.answer.ensures.core)) within.1;
      room = omega (
        arith,
        c.loop-want.invariant.room,
        c.in_ok-want-2.ensures.few,
        c.in_ok-want-2.ensures.fewer c.in_ok-answer.ensures.answer,
        ap (λ (m : Machine). m.requests) c.answer.ensures.core,
        ap (λ (m : Machine). most_answers m.pending) c.answer.ensures.core,
      );
      frames = c.take_event-in-Some.ensures.frames ∙ c.answer.ensures.frames ∙ c.loop-want.invariant.frames;
      received = c.take_event-in-Some.ensures.received ∙ ap (λ m. m.received) c.answer.ensures.mux ∙ c.loop-want.invariant.received;
      draws = subst (λ l. Draws (g.G.Ground.origin c.args.ground.now) (g.G.Ground.origin c.answer.new.ground) (g.G.Ground.left c.args.ground.now) (g.G.Ground.left c.answer.new.ground) c.args.self.now.listing.spent l.spent) (sym c.take_event-in-Some.ensures.listing) (draws_on (g.G.Ground.origin c.args.ground.now) (g.G.Ground.origin c.loop-want.ground) (g.G.Ground.origin c.answer.new.ground) (g.G.Ground.left c.args.ground.now) (g.G.Ground.left c.loop-want.ground) (g.G.Ground.left c.answer.new.ground) c.args.self.now.listing.spent c.loop-want.self.listing.spent c.answer.new.self.listing.spent c.loop-want.invariant.draws c.answer.ensures.draws);
      sent = c.take_event-in-Some.ensures.sent ∙ ap (λ m. m.sent) c.answer.ensures.mux ∙ c.loop-want.invariant.sent;
      run = λ before answered.
          let run = c.loop-want.invariant.run before answered in (
            c.in_ok-want-2.ensures.ok.step ∷ run.0,
            went_on c.args.program.now c.args.self.now c.loop-want.self c.answer.new.self c.take_event-in-Some.new.self c.args.event before (record { read = g.G.Ground.read c.loop-want.ground; lowest = g.G.Ground.lowest_front c.loop-want.ground; recorded = g.G.Ground.recorded c.loop-want.ground; checkpoints = g.G.Ground.checkpoints c.loop-want.ground; own = g.G.Ground.own c.loop-want.ground })
                (record { read = g.G.Ground.read c.answer.new.ground; lowest = g.G.Ground.lowest_front c.answer.new.ground; recorded = g.G.Ground.recorded c.answer.new.ground; checkpoints = g.G.Ground.checkpoints c.answer.new.ground; own = g.G.Ground.own c.answer.new.ground })
                run.0 c.in_ok-answer.answer c.in-Some.wanted c.in_ok-want-2.want
                (subst (λ w. Conversing c.args.program.now c.args.self.now c.loop-want.self c.args.event before (record { read = g.G.Ground.read c.loop-want.ground; lowest = g.G.Ground.lowest_front c.loop-want.ground; recorded = g.G.Ground.recorded c.loop-want.ground; checkpoints = g.G.Ground.checkpoints c.loop-want.ground; own = g.G.Ground.own c.loop-want.ground }) w run.0) c.in-Some.is run.1)
                (record { answered = c.in_ok-answer.ensures.answered; is = c.in_ok-answer.ensures.answer; core = c.answer.ensures.core; mux = c.answer.ensures.mux; looks = c.in_ok-answer.ensures.looks; stored = c.in_ok-answer.ensures.stored; spent = c.in_ok-answer.ensures.spent })
                c.in_ok-want-2.ensures.ok c.take_event-in-Some.ensures.listing c.in_ok-want-2.ensures.wants c.in_ok-want-2.ensures.ready c.in_ok-want-2.ensures.may
                within.0 within.1 c.in_ok-want-2.ensures.few (c.in_ok-want-2.ensures.fewer c.in_ok-answer.ensures.answer),
          );
    }

pub returns-then-lacks-clause-draws : goal.returns-then-lacks-clause-draws
returns-then-lacks-clause-draws g c = c.loop-want.invariant.draws

pub lacks-requires : goal.lacks-requires
lacks-requires g c = record { few = c.loop-want.invariant.draws.few }

pub answer-requires-clause-left : goal.answer-requires-clause-left
answer-requires-clause-left g c = c.lacks.ensures.left c.if-lacks.false

pub answer-requires-clause-looks : goal.answer-requires-clause-looks
answer-requires-clause-looks g c =
    can_still (g.G.Ground.origin c.args.ground.now) (g.G.Ground.origin c.loop-want.ground) (g.G.Ground.left c.args.ground.now) (g.G.Ground.left c.loop-want.ground) c.args.self.now.listing.spent c.loop-want.self.listing.spent c.requires.looks c.loop-want.invariant.draws

pub returns-in_err-answer-clause-draws : goal.returns-in_err-answer-clause-draws
returns-in_err-answer-clause-draws g c =
    draws_on (g.G.Ground.origin c.args.ground.now) (g.G.Ground.origin c.loop-want.ground) (g.G.Ground.origin c.answer.new.ground) (g.G.Ground.left c.args.ground.now) (g.G.Ground.left c.loop-want.ground) (g.G.Ground.left c.answer.new.ground) c.args.self.now.listing.spent c.loop-want.self.listing.spent c.answer.new.self.listing.spent c.loop-want.invariant.draws c.answer.ensures.draws

pub returns-in_err-want-2-clause-draws : goal.returns-in_err-want-2-clause-draws
returns-in_err-want-2-clause-draws g c =
    subst (λ l. Draws (g.G.Ground.origin c.args.ground.now) (g.G.Ground.origin c.answer.new.ground) (g.G.Ground.left c.args.ground.now) (g.G.Ground.left c.answer.new.ground) c.args.self.now.listing.spent l.spent) (sym c.take_event-in-Some.ensures.listing)
    (draws_on (g.G.Ground.origin c.args.ground.now) (g.G.Ground.origin c.loop-want.ground) (g.G.Ground.origin c.answer.new.ground) (g.G.Ground.left c.args.ground.now) (g.G.Ground.left c.loop-want.ground) (g.G.Ground.left c.answer.new.ground) c.args.self.now.listing.spent c.loop-want.self.listing.spent c.answer.new.self.listing.spent c.loop-want.invariant.draws c.answer.ensures.draws)

pub returns-clause-draws : goal.returns-clause-draws
returns-clause-draws g c = c.loop-want.invariant.draws
