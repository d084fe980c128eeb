-- a command in turns, from what each of them leaves
use Rattle.std.proofs.Common.{◌≡◌, ◌∙◌, ◌⊎◌, ℕ, List, [], ◌∷◌, ◌++◌, length, refl, ap, arith, inl, inr, Some, None, Err}
use Rattle.sg_history.specs.declared.book.Waiting.{Waiting}
use Rattle.sg_history.specs.declared.entries.Entry.{Entry}
use Rattle.sg_history.specs.declared.room.RoomFor.{RoomFor}
use Rattle.sg_history.specs.Board.{BoardState}
use Rattle.seq_gate.specs.Passes.{IsNew, drawn}
use Rattle.seq_gate.specs.declared.known.Known.{Known}
use Rattle.doc_board.specs.declared.candidate.NoRoom.{NoRoom}
use Rattle.doc_board.specs.declared.candidate.NoRoom.TheVariants as no_room
use Rattle.doc_board.specs.declared.outcome.Outcome.TheVariants as outcome
use Rattle.doc_board.specs.Boards.{board_of}
use Rattle.doc_board.specs.Limits.{IsRefusedBy, refusal}
use Rattle.doc_board.specs.State.{State}
use Rattle.write_path.specs.Commands.{Commands, IsCommanded}
use Rattle.board_steps.specs.Shape.{no_room_outcome}
use Rattle.write_path.specs.Shared.{IsLookTurn}
use Rattle.write_path.specs.inner.Turns.{IsRoomTurn, IsStoreTurn}
use Rattle.write_path.proofs.Proposed.{Again, no_shorter}
use Rattle.write_path.proofs.ProposalTurns.{ReadOn, refused_for}
use Rattle.write_path.proofs.Sharing.{turn_reads}

-- no room is made for it
module _ (again : Again) (p q : Known) (s : State) (e : Entry) (at : ℕ) (look : IsLookTurn p q (board_of s)) (front : at ≡ length s.log) where
  answered : (why : NoRoom) → (why ≡ no_room.Memory) ⊎ (refusal (board_of s) 0 ≡ Some why) → IsCommanded p.read q.read p.own q.own None e (no_room_outcome at why)
  answered (no_room.Full503 places) (inl e) = cc e
  answered (no_room.Full503 places) (inr refused) = record {
    own = look.own;
    room = record { board = board_of s; was_read = record { added = board_of s ∷ board_of s ∷ []; read = look.turn.read; one = inl refl }; has_length = tt; limits = refused };
    front = front;
  }
  answered (no_room.LogFull509 entries bytes) (inl e) = cc e
  answered (no_room.LogFull509 entries bytes) (inr refused) = record {
    own = look.own;
    room = record { board = board_of s; was_read = record { added = board_of s ∷ board_of s ∷ []; read = look.turn.read; one = inl refl }; has_length = tt; limits = refused };
    front = front;
  }
  answered no_room.Memory refused = look.own

  pub command_refused : (why : NoRoom) → IsRefusedBy (refusal (board_of s) 0) (Err why) → Commands p.read q.read p.lowest_front q.lowest_front p.own q.own None e (no_room_outcome at why)
  command_refused why refused = record { reads = turn_reads again p q (board_of s) (board_of s) look.turn; commanded = answered why (refused_for (refusal (board_of s) 0) why refused) }

-- it is stored
pub command_stored : Again → ReadOn → (p p1 q : Known) (s t s2 t2 : State) (room : RoomFor) (e : Entry) (at number : ℕ) → IsRoomTurn p p1 s t room → IsNew p1 number → IsStoreTurn (drawn p1 number) q s2 t2 number e
    → at ≡ length s.log → refusal (board_of s) 0 ≡ None → Commands p.read q.read p.lowest_front q.lowest_front p.own q.own None e (outcome.Stored number at)
command_stored again on p p1 q s t s2 t2 room e at number one new two front there = record {
  reads = on p.read p1.read q.read p.lowest_front p1.lowest_front q.lowest_front (turn_reads again p p1 (board_of s) (board_of t) one.turn) (turn_reads again (drawn p1 number) q (board_of s2) (board_of t2) two.turn);
  commanded = record {
    own = two.own ∙ ap (λ (own : List Waiting). record { number = number; entry = e } ∷ own) one.own;
    holding = board_of t2;
    was_read = record { added = added; read = all; one = inl refl };
    there = two.there;
    earlier = board_of s;
    was_earlier = record { added = added; read = all; one = inr (inr (inr (inl refl))) };
    has_length = tt;
    front = front;
    next = omega (arith, front, one.turn.lowest, no_shorter (board_of s) (board_of t) one.turn.next, new.lowest_front);
    room = record { board = board_of s; was_read = record { added = added; read = all; one = inr (inr (inr (inl refl))) }; has_length = tt; limits = there };
  };
}
  where
    added : List BoardState
    added = board_of t2 ∷ board_of s2 ∷ board_of t ∷ board_of s ∷ []

    all : q.read ≡ added ++ p.read
    all = two.turn.read ∙ ap (λ (bs : List BoardState). board_of t2 ∷ board_of s2 ∷ bs) one.turn.read
