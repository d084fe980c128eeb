use Rattle.doc_board.specs.State.{book_on}
use Rattle.doc_board.proofs.LaterSteps.{looked, after_room, after_commit, after_set, after_swap, after_void}
use Rattle.doc_board.proofs.laws.after.Goals as goal

pub returns : goal.returns
returns c =
    record {
      looked = looked;
      room = λ s t room log pending rooms checkpoints small. after_room s t room (c.later.ensures.itself (book_on s)) log pending rooms checkpoints small;
      set = λ s t text rev body answer. after_set c.sets.ensures s t text rev body answer (c.later.ensures.itself (book_on s));
      commit = after_commit;
      swap = after_swap c.later.ensures.again;
      void = after_void;
    }
