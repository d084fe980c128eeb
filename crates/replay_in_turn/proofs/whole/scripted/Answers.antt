use Rattle.replay_in_turn.proofs.whole.scripted.Goals as goal

pub returns-in-Ok : goal.returns-in-Ok
returns-in-Ok c = record { opening = _; is_opening = c.in_ok-ground.ensures.opening; run = c.in-Ok.ensures.run; own = c.run_script.ensures.own }
