use Rattle.doc_board.proofs.WorldSteps.{stored_step, swapped_step, may_store, may_give_up, may_swap}
use Rattle.doc_board.specs.Steps.{world_on}
use Rattle.doc_board.proofs.laws.steps.Goals as goal

pub returns : goal.returns
returns c =
    record {
      stored = stored_step;
      swapped = swapped_step;
      store = may_store;
      give_up = may_give_up;
      swap = may_swap;
      held = λ s count held number sound is. c.world.ensures.held (world_on s count held) number sound is;
    }
