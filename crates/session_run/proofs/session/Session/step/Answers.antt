use Rattle.std.proofs.Common.{inl, inr, [], ◌∷◌, ◌+◌, refl, sym, ap, subst, arith}
use Rattle.sg_outside.specs.Wire.{ReceivesIfRecorded}
use Rattle.sg_outside.specs.declared.wire.Got.TheVariants as got
use Rattle.session_mux.specs.declared.frame_why.FrameWhy.TheVariants as why
use Rattle.session_run.specs.declared.ended.End.TheVariants as end
use Rattle.session_run.specs.Served.{IsServed}
use Rattle.session_run.proofs.Ending.{not_memory, run_ends, result_taken, rest_after, front_after, few_after}
use Rattle.session_run.proofs.Turning.{read_nothing}
use Rattle.session_run.proofs.session.Session.step.Goals as goal

pub returns-in-Frame-clause-runs : goal.returns-in-Frame-clause-runs
returns-in-Frame-clause-runs g c setup start traffic count same runs below =
    result_taken c.args.program.now c.traffic.ensures.on c.inbox_states.ensures.came c.inbox_states.ensures.expected c.inbox_states.ensures.answer c.conduct.ensures.kept c.conduct.ensures.wants setup start
    (record { read = g.G.Ground.read c.args.ground.now; lowest = g.G.Ground.lowest_front c.args.ground.now; recorded = g.G.Ground.recorded c.args.ground.now; checkpoints = g.G.Ground.checkpoints c.args.ground.now; own = g.G.Ground.own c.args.ground.now })
    (record { read = g.G.Ground.read c.take_frame.new.ground; lowest = g.G.Ground.lowest_front c.take_frame.new.ground; recorded = g.G.Ground.recorded c.take_frame.new.ground; checkpoints = g.G.Ground.checkpoints c.take_frame.new.ground; own = g.G.Ground.own c.take_frame.new.ground })
    traffic (g.W.Wire.recorded c.args.wire.now) (g.W.Wire.recorded c.recv.new.self) (g.W.Wire.recorded c.take_frame.new.wire) c.args.self.now c.take_frame.new.self count (got.Frame c.in-Frame.bytes) c.take_frame.result same below
    (read_nothing (record { read = g.G.Ground.read c.args.ground.now; lowest = g.G.Ground.lowest_front c.args.ground.now; recorded = g.G.Ground.recorded c.args.ground.now; checkpoints = g.G.Ground.checkpoints c.args.ground.now; own = g.G.Ground.own c.args.ground.now }))
    (c.traffic.ensures.received (g.W.Wire.recorded c.args.wire.now) (g.W.Wire.recorded c.recv.new.self) (got.Frame c.in-Frame.bytes)
    (subst (λ r. ReceivesIfRecorded (g.W.Wire.recorded c.args.wire.now) r (g.W.Wire.recorded c.recv.new.self)) c.in-Frame.is c.recv.ensures.recorded) (not_memory (got.Frame c.in-Frame.bytes) refl))
    c.take_frame.ensures.takes c.take_frame.ensures.draws.few runs

pub returns-in-Frame-clause-rest : goal.returns-in-Frame-clause-rest
returns-in-Frame-clause-rest g c =
    rest_after c.args.program.now c.args.self.now c.take_frame.new.self (got.Frame c.in-Frame.bytes) (record { read = g.G.Ground.read c.args.ground.now; lowest = g.G.Ground.lowest_front c.args.ground.now; recorded = g.G.Ground.recorded c.args.ground.now; checkpoints = g.G.Ground.checkpoints c.args.ground.now; own = g.G.Ground.own c.args.ground.now })
    (record { read = g.G.Ground.read c.take_frame.new.ground; lowest = g.G.Ground.lowest_front c.take_frame.new.ground; recorded = g.G.Ground.recorded c.take_frame.new.ground; checkpoints = g.G.Ground.checkpoints c.take_frame.new.ground; own = g.G.Ground.own c.take_frame.new.ground })
    (g.W.Wire.recorded c.recv.new.self) (g.W.Wire.recorded c.take_frame.new.wire) c.take_frame.result c.take_frame.ensures.takes

pub returns-in-Frame-clause-front : goal.returns-in-Frame-clause-front
returns-in-Frame-clause-front g c =
    front_after c.args.program.now c.args.self.now c.take_frame.new.self (got.Frame c.in-Frame.bytes) (record { read = g.G.Ground.read c.args.ground.now; lowest = g.G.Ground.lowest_front c.args.ground.now; recorded = g.G.Ground.recorded c.args.ground.now; checkpoints = g.G.Ground.checkpoints c.args.ground.now; own = g.G.Ground.own c.args.ground.now })
    (record { read = g.G.Ground.read c.take_frame.new.ground; lowest = g.G.Ground.lowest_front c.take_frame.new.ground; recorded = g.G.Ground.recorded c.take_frame.new.ground; checkpoints = g.G.Ground.checkpoints c.take_frame.new.ground; own = g.G.Ground.own c.take_frame.new.ground })
    (g.W.Wire.recorded c.recv.new.self) (g.W.Wire.recorded c.take_frame.new.wire) c.take_frame.result c.take_frame.ensures.takes

pub returns-in-Frame-clause-few : goal.returns-in-Frame-clause-few
returns-in-Frame-clause-few g c =
    few_after c.args.program.now c.args.self.now c.take_frame.new.self (got.Frame c.in-Frame.bytes) (record { read = g.G.Ground.read c.args.ground.now; lowest = g.G.Ground.lowest_front c.args.ground.now; recorded = g.G.Ground.recorded c.args.ground.now; checkpoints = g.G.Ground.checkpoints c.args.ground.now; own = g.G.Ground.own c.args.ground.now })
    (record { read = g.G.Ground.read c.take_frame.new.ground; lowest = g.G.Ground.lowest_front c.take_frame.new.ground; recorded = g.G.Ground.recorded c.take_frame.new.ground; checkpoints = g.G.Ground.checkpoints c.take_frame.new.ground; own = g.G.Ground.own c.take_frame.new.ground })
    (g.W.Wire.recorded c.recv.new.self) (g.W.Wire.recorded c.take_frame.new.wire) c.take_frame.result c.take_frame.ensures.takes

pub returns-in-Text-clause-runs : goal.returns-in-Text-clause-runs
returns-in-Text-clause-runs g c setup start traffic count same runs below =
    subst (λ e. IsServed setup start (record { read = g.G.Ground.read c.args.ground.now; lowest = g.G.Ground.lowest_front c.args.ground.now; recorded = g.G.Ground.recorded c.args.ground.now; checkpoints = g.G.Ground.checkpoints c.args.ground.now; own = g.G.Ground.own c.args.ground.now }) traffic (record { end = e; looks = c.args.self.now.listing.looks; stored = c.args.self.now.listing.stored }) (g.W.Wire.recorded c.recv.new.self)) (sym c.bad_frame.ensures)
    (run_ends c.traffic.ensures.on setup start (record { read = g.G.Ground.read c.args.ground.now; lowest = g.G.Ground.lowest_front c.args.ground.now; recorded = g.G.Ground.recorded c.args.ground.now; checkpoints = g.G.Ground.checkpoints c.args.ground.now; own = g.G.Ground.own c.args.ground.now })
    (record { read = g.G.Ground.read c.args.ground.now; lowest = g.G.Ground.lowest_front c.args.ground.now; recorded = g.G.Ground.recorded c.args.ground.now; checkpoints = g.G.Ground.checkpoints c.args.ground.now; own = g.G.Ground.own c.args.ground.now })
    traffic (g.W.Wire.recorded c.args.wire.now) (g.W.Wire.recorded c.recv.new.self) c.args.self.now c.args.self.now count (end.BadFrame (c.args.self.now.frames + 1) why.NotBinary) (got.Text ∷ []) refl
    (read_nothing (record { read = g.G.Ground.read c.args.ground.now; lowest = g.G.Ground.lowest_front c.args.ground.now; recorded = g.G.Ground.recorded c.args.ground.now; checkpoints = g.G.Ground.checkpoints c.args.ground.now; own = g.G.Ground.own c.args.ground.now }))
    refl refl (omega (arith, below)) tt
    (λ turns frames results sent held counted. (ap (λ n. n + 1) held.count, got.Text, refl, refl, refl))
    (c.traffic.ensures.received (g.W.Wire.recorded c.args.wire.now) (g.W.Wire.recorded c.recv.new.self) (got.Text)
    (subst (λ r. ReceivesIfRecorded (g.W.Wire.recorded c.args.wire.now) r (g.W.Wire.recorded c.recv.new.self)) c.in-Text.is c.recv.ensures.recorded) (not_memory (got.Text) refl))
    runs)

pub returns-in-Idle-clause-runs : goal.returns-in-Idle-clause-runs
returns-in-Idle-clause-runs g c setup start traffic count same runs below =
    result_taken c.args.program.now c.traffic.ensures.on c.inbox_states.ensures.came c.inbox_states.ensures.expected c.inbox_states.ensures.answer c.conduct.ensures.kept c.conduct.ensures.wants setup start
    (record { read = g.G.Ground.read c.args.ground.now; lowest = g.G.Ground.lowest_front c.args.ground.now; recorded = g.G.Ground.recorded c.args.ground.now; checkpoints = g.G.Ground.checkpoints c.args.ground.now; own = g.G.Ground.own c.args.ground.now })
    (record { read = g.G.Ground.read c.take_idle.new.ground; lowest = g.G.Ground.lowest_front c.take_idle.new.ground; recorded = g.G.Ground.recorded c.take_idle.new.ground; checkpoints = g.G.Ground.checkpoints c.take_idle.new.ground; own = g.G.Ground.own c.take_idle.new.ground })
    traffic (g.W.Wire.recorded c.args.wire.now) (g.W.Wire.recorded c.recv.new.self) (g.W.Wire.recorded c.take_idle.new.wire) c.args.self.now c.take_idle.new.self count got.Idle c.take_idle.result same below
    (read_nothing (record { read = g.G.Ground.read c.args.ground.now; lowest = g.G.Ground.lowest_front c.args.ground.now; recorded = g.G.Ground.recorded c.args.ground.now; checkpoints = g.G.Ground.checkpoints c.args.ground.now; own = g.G.Ground.own c.args.ground.now }))
    (c.traffic.ensures.received (g.W.Wire.recorded c.args.wire.now) (g.W.Wire.recorded c.recv.new.self) (got.Idle)
    (subst (λ r. ReceivesIfRecorded (g.W.Wire.recorded c.args.wire.now) r (g.W.Wire.recorded c.recv.new.self)) c.in-Idle.is c.recv.ensures.recorded) (not_memory (got.Idle) refl))
    c.take_idle.ensures.takes c.take_idle.ensures.draws.few runs

pub returns-in-Idle-clause-rest : goal.returns-in-Idle-clause-rest
returns-in-Idle-clause-rest g c =
    rest_after c.args.program.now c.args.self.now c.take_idle.new.self got.Idle (record { read = g.G.Ground.read c.args.ground.now; lowest = g.G.Ground.lowest_front c.args.ground.now; recorded = g.G.Ground.recorded c.args.ground.now; checkpoints = g.G.Ground.checkpoints c.args.ground.now; own = g.G.Ground.own c.args.ground.now })
    (record { read = g.G.Ground.read c.take_idle.new.ground; lowest = g.G.Ground.lowest_front c.take_idle.new.ground; recorded = g.G.Ground.recorded c.take_idle.new.ground; checkpoints = g.G.Ground.checkpoints c.take_idle.new.ground; own = g.G.Ground.own c.take_idle.new.ground })
    (g.W.Wire.recorded c.recv.new.self) (g.W.Wire.recorded c.take_idle.new.wire) c.take_idle.result c.take_idle.ensures.takes

pub returns-in-Idle-clause-front : goal.returns-in-Idle-clause-front
returns-in-Idle-clause-front g c =
    front_after c.args.program.now c.args.self.now c.take_idle.new.self got.Idle (record { read = g.G.Ground.read c.args.ground.now; lowest = g.G.Ground.lowest_front c.args.ground.now; recorded = g.G.Ground.recorded c.args.ground.now; checkpoints = g.G.Ground.checkpoints c.args.ground.now; own = g.G.Ground.own c.args.ground.now })
    (record { read = g.G.Ground.read c.take_idle.new.ground; lowest = g.G.Ground.lowest_front c.take_idle.new.ground; recorded = g.G.Ground.recorded c.take_idle.new.ground; checkpoints = g.G.Ground.checkpoints c.take_idle.new.ground; own = g.G.Ground.own c.take_idle.new.ground })
    (g.W.Wire.recorded c.recv.new.self) (g.W.Wire.recorded c.take_idle.new.wire) c.take_idle.result c.take_idle.ensures.takes

pub returns-in-Idle-clause-few : goal.returns-in-Idle-clause-few
returns-in-Idle-clause-few g c =
    few_after c.args.program.now c.args.self.now c.take_idle.new.self got.Idle (record { read = g.G.Ground.read c.args.ground.now; lowest = g.G.Ground.lowest_front c.args.ground.now; recorded = g.G.Ground.recorded c.args.ground.now; checkpoints = g.G.Ground.checkpoints c.args.ground.now; own = g.G.Ground.own c.args.ground.now })
    (record { read = g.G.Ground.read c.take_idle.new.ground; lowest = g.G.Ground.lowest_front c.take_idle.new.ground; recorded = g.G.Ground.recorded c.take_idle.new.ground; checkpoints = g.G.Ground.checkpoints c.take_idle.new.ground; own = g.G.Ground.own c.take_idle.new.ground })
    (g.W.Wire.recorded c.recv.new.self) (g.W.Wire.recorded c.take_idle.new.wire) c.take_idle.result c.take_idle.ensures.takes

pub returns-in-End-clause-runs : goal.returns-in-End-clause-runs
returns-in-End-clause-runs g c setup start traffic count same runs below =
    run_ends c.traffic.ensures.on setup start (record { read = g.G.Ground.read c.args.ground.now; lowest = g.G.Ground.lowest_front c.args.ground.now; recorded = g.G.Ground.recorded c.args.ground.now; checkpoints = g.G.Ground.checkpoints c.args.ground.now; own = g.G.Ground.own c.args.ground.now })
    (record { read = g.G.Ground.read c.args.ground.now; lowest = g.G.Ground.lowest_front c.args.ground.now; recorded = g.G.Ground.recorded c.args.ground.now; checkpoints = g.G.Ground.checkpoints c.args.ground.now; own = g.G.Ground.own c.args.ground.now })
    traffic (g.W.Wire.recorded c.args.wire.now) (g.W.Wire.recorded c.recv.new.self) c.args.self.now c.args.self.now count end.Closed (got.End ∷ []) refl
    (read_nothing (record { read = g.G.Ground.read c.args.ground.now; lowest = g.G.Ground.lowest_front c.args.ground.now; recorded = g.G.Ground.recorded c.args.ground.now; checkpoints = g.G.Ground.checkpoints c.args.ground.now; own = g.G.Ground.own c.args.ground.now }))
    refl refl (omega (arith, below)) tt (λ turns frames results sent held counted. (refl, refl))
    (c.traffic.ensures.received (g.W.Wire.recorded c.args.wire.now) (g.W.Wire.recorded c.recv.new.self) (got.End)
    (subst (λ r. ReceivesIfRecorded (g.W.Wire.recorded c.args.wire.now) r (g.W.Wire.recorded c.recv.new.self)) c.in-End.is c.recv.ensures.recorded) (not_memory (got.End) refl))
    runs

pub returns-in-Failed-clause-runs : goal.returns-in-Failed-clause-runs
returns-in-Failed-clause-runs g c setup start traffic count same runs below =
    run_ends c.traffic.ensures.on setup start (record { read = g.G.Ground.read c.args.ground.now; lowest = g.G.Ground.lowest_front c.args.ground.now; recorded = g.G.Ground.recorded c.args.ground.now; checkpoints = g.G.Ground.checkpoints c.args.ground.now; own = g.G.Ground.own c.args.ground.now })
    (record { read = g.G.Ground.read c.args.ground.now; lowest = g.G.Ground.lowest_front c.args.ground.now; recorded = g.G.Ground.recorded c.args.ground.now; checkpoints = g.G.Ground.checkpoints c.args.ground.now; own = g.G.Ground.own c.args.ground.now })
    traffic (g.W.Wire.recorded c.args.wire.now) (g.W.Wire.recorded c.recv.new.self) c.args.self.now c.args.self.now count end.WireFault (got.Failed ∷ []) refl
    (read_nothing (record { read = g.G.Ground.read c.args.ground.now; lowest = g.G.Ground.lowest_front c.args.ground.now; recorded = g.G.Ground.recorded c.args.ground.now; checkpoints = g.G.Ground.checkpoints c.args.ground.now; own = g.G.Ground.own c.args.ground.now }))
    refl refl (omega (arith, below)) tt (λ turns frames results sent held counted. inl (refl, refl))
    (c.traffic.ensures.received (g.W.Wire.recorded c.args.wire.now) (g.W.Wire.recorded c.recv.new.self) (got.Failed)
    (subst (λ r. ReceivesIfRecorded (g.W.Wire.recorded c.args.wire.now) r (g.W.Wire.recorded c.recv.new.self)) c.in-Failed.is c.recv.ensures.recorded) (not_memory (got.Failed) refl))
    runs

pub returns-in-Memory-clause-runs : goal.returns-in-Memory-clause-runs
returns-in-Memory-clause-runs g c setup start traffic count same runs below =
    run_ends c.traffic.ensures.on setup start (record { read = g.G.Ground.read c.args.ground.now; lowest = g.G.Ground.lowest_front c.args.ground.now; recorded = g.G.Ground.recorded c.args.ground.now; checkpoints = g.G.Ground.checkpoints c.args.ground.now; own = g.G.Ground.own c.args.ground.now })
    (record { read = g.G.Ground.read c.args.ground.now; lowest = g.G.Ground.lowest_front c.args.ground.now; recorded = g.G.Ground.recorded c.args.ground.now; checkpoints = g.G.Ground.checkpoints c.args.ground.now; own = g.G.Ground.own c.args.ground.now })
    traffic (g.W.Wire.recorded c.args.wire.now) (g.W.Wire.recorded c.recv.new.self) c.args.self.now c.args.self.now count end.Memory [] refl
    (read_nothing (record { read = g.G.Ground.read c.args.ground.now; lowest = g.G.Ground.lowest_front c.args.ground.now; recorded = g.G.Ground.recorded c.args.ground.now; checkpoints = g.G.Ground.checkpoints c.args.ground.now; own = g.G.Ground.own c.args.ground.now }))
    refl refl (omega (arith, below)) tt (λ turns frames results sent held counted. (inr refl, refl))
    (c.traffic.ensures.not_received (g.W.Wire.recorded c.args.wire.now) (g.W.Wire.recorded c.recv.new.self) (subst (λ r. ReceivesIfRecorded (g.W.Wire.recorded c.args.wire.now) r (g.W.Wire.recorded c.recv.new.self)) c.in-Memory.is c.recv.ensures.recorded))
    runs
