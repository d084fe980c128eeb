use Rattle.std.proofs.Common.{sym, subst}
use Rattle.sg_history.specs.Board.{BoardState}
use Rattle.seq_gate.specs.Passes.{MayLeave, after_turn}
use Rattle.seq_gate.specs.declared.known.Known.{Known}
use Rattle.write_path.specs.Shared.{IsLookTurn}
use Rattle.write_path.proofs.Sharing.{look_turn}
use Rattle.write_path.proofs.turns.leave_as_found.Goals as goal

pub leave-requires-clause-may : goal.leave-requires-clause-may
leave-requires-clause-may c =
    subst (λ (b : BoardState). MayLeave c.args.turn.knows c.args.turn.found b) (sym c.requires.same) (c.turns.ensures.untouched c.args.turn.knows c.args.turn.found c.requires.finds)

pub returns-clause-looked : goal.returns-clause-looked
returns-clause-looked c =
    subst (λ (p : Known). IsLookTurn c.args.turn.knows p c.args.turn.found) (sym c.leave.ensures.knows)
    (subst (λ (b : BoardState). IsLookTurn c.args.turn.knows (after_turn c.args.turn.knows c.args.turn.found b) c.args.turn.found) (sym c.requires.same)
    (look_turn c.boards.ensures.itself c.args.turn.knows c.args.turn.found c.requires.finds c.requires.rests))
