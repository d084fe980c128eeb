use Rattle.pending_front.proofs.Worlds.{log_sound, run_sound, run_log, run_later, step_later, sound_next, held_stores}
use Rattle.pending_front.proofs.laws.world.Goals as goal

pub returns : goal.returns
returns c =
    record {
      start = log_sound;
      sound = run_sound c.later.ensures.again c.later.ensures.itself;
      log = λ world steps sound may. run_log world steps;
      later = run_later c.later.ensures.again c.later.ensures.itself;
      step = step_later c.later.ensures.again c.later.ensures.itself;
      next = sound_next;
      held = held_stores;
    }
