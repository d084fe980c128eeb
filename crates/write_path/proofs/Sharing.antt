-- what a turn at a gate adds to what a pass knows
use Rattle.std.proofs.Common.{◌≡◌, ◌≤◌, ◌∙◌, ℕ, List, [], ◌∷◌, ◌++◌, length, refl, sym, ap, subst, arith, Result, Ok, Err, IfOk}
use Rattle.sg_history.specs.declared.room.RoomFor.{RoomFor}
use Rattle.sg_history.specs.Board.{BoardState, board_book}
use Rattle.seq_gate.specs.Counts.{without_rooms}
use Rattle.seq_gate.specs.Passes.{Finds, MayLeave, after_turn, stored_at, still_held}
use Rattle.seq_gate.specs.declared.known.Known.{Known}
use Rattle.write_path.specs.Reads.{Reads, WasRead}
use Rattle.write_path.specs.Shared.{IsLookTurn, IsTurn, Rests}
use Rattle.write_path.proofs.RoomTimes.{all_gone}
use Rattle.write_path.proofs.Proposed.{Again, Itself, all_after, first_read, no_shorter}

-- ---- a turn in which the board was left as it was found

pub look_turn : Itself → (p : Known) (found : BoardState) → Finds p found → Rests p → IsLookTurn p (after_turn p found found) found
look_turn itself p found finds rests = record {
  turn = record { read = refl; later = finds.read; next = itself found; least = finds.lowest_front; lowest = refl; left_is = refl; made = refl; in_turns = refl };
  own = ap (λ (held : List ℕ). stored_at (board_book found) held ++ p.own) rests.held;
  rests = record {
    held = ap (λ (held : List ℕ). still_held (board_book found) held) rests.held;
    rooms = ap (λ (rooms : List RoomFor). without_rooms found.rooms (found.rooms ++ rooms)) rests.rooms ∙ all_gone found.rooms [];
  };
}

-- ---- what turns read

pub turn_reads : Again → (p q : Known) (found left : BoardState) → IsTurn p q found left → Reads p.read q.read p.lowest_front q.lowest_front
turn_reads again p q found left turn =
    let longer : length found.log ≤ length left.log = no_shorter found left turn.next in
    record {
      added = left ∷ found ∷ [];
      read = turn.read;
      later = ((turn.next, all_after again p.read found left turn.later turn.next), (turn.later, tt));
      lengths = (omega (arith, turn.least, longer), omega (arith, turn.lowest), (turn.least, omega (arith, turn.lowest, longer), tt));
      rises = omega (arith, turn.least, turn.lowest, longer);
    }

pub found_read : (p q : Known) (found left : BoardState) → IsTurn p q found left → WasRead p.read q.read found
found_read p q found left turn = first_read p.read q.read found left turn.read

pub look_answers : {X E : Type 0} (P : BoardState → X → Type 0) (p q : Known) (found : BoardState) (r : Result X E) → IsLookTurn p q found → IfOk r (P found)
    → IfOk r (λ x. (b : BoardState) × WasRead p.read q.read b × Unit {0} × P b x)
look_answers P p q found (Ok x) look answer = (found, found_read p q found found look.turn, tt, answer)
look_answers P p q found (Err e) look answer = tt

-- ---- a turn by the states of its board

-- what may be left, of a pass and a board that are these
pub may_in : (p k : Known) (f b l : BoardState) → k ≡ p → f ≡ b → MayLeave p b l → MayLeave k f l
may_in p k f b l same here may = subst (λ (x : Known). MayLeave x f l) (sym same) (subst (λ (x : BoardState). MayLeave p x l) (sym here) may)

-- what the pass knows then
pub knows_in : (p k q : Known) (f b l : BoardState) → k ≡ p → f ≡ b → q ≡ after_turn k f l → after_turn p b l ≡ q
knows_in p k q f b l same here left = sym (left ∙ ap (λ (x : Known). after_turn x f l) same ∙ ap (λ (x : BoardState). after_turn p x l) here)
