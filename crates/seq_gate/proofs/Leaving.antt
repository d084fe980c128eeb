-- How a board may be left.
use Rattle.std.proofs.Common.{ℕ, sym, ◌∙◌, arith}
use Rattle.std.proofs.lemmas.Option.{none-some}
use Rattle.sg_history.specs.Board.{BoardState, After}
use Rattle.seq_gate.specs.Passes.{drawn_in_turn, Finds, StoresHeld, MayLeave}
use Rattle.seq_gate.specs.declared.known.Known.{Known}

pub untouched : ((b : BoardState) → After b b) → (p : Known) (found : BoardState) → Finds p found → MayLeave p found found
untouched itself p found finds =
    record {
      after = itself found;
      stored = λ k e is none. absurd (none-some e (sym none ∙ is));
      rooms = λ room. omega arith;
      waiting = finds.waiting;
    }

pub drawn_stores : (p : Known) (found hand : BoardState) (n : ℕ) → StoresHeld p found hand → StoresHeld (drawn_in_turn p n) found hand
drawn_stores p found hand n stores k e is none = let some = stores k e is none in omega (arith, some)
