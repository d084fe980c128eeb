-- a proposal in turns, from what each of them leaves
use Rattle.std.proofs.Common.{◌≡◌, ◌≤◌, ◌+◌, ◌∙◌, ◌⊎◌, ℕ, Bool, List, [], ◌∷◌, ◌++◌, length, refl, sym, ap, subst, arith, inl, inr, Option, Some, None, Result, Ok, Err}
use Rattle.std.specs.Prelude.{IfErr, IfOk}
use Rattle.sg_history.specs.declared.book.Waiting.{Waiting}
use Rattle.sg_history.specs.declared.room.RoomFor.{RoomFor}
use Rattle.sg_history.specs.Board.{BoardState, board_book}
use Rattle.seq_gate.specs.Passes.{IsAboveAll, IsAboveBook, IsNew, drawn, drawn_in_turn, share}
use Rattle.seq_gate.specs.declared.known.Known.{Known}
use Rattle.repl_messages.specs.declared.revision.Revision.{Revision}
use Rattle.sync_meaning.specs.Laws.{AreEffects}
use Rattle.sync_syntax.specs.declared.tree.Program.{Program}
use Rattle.doc_board.specs.declared.candidate.NoRoom.{NoRoom}
use Rattle.doc_board.specs.declared.candidate.NoRoom.TheVariants as no_room
use Rattle.doc_board.specs.declared.outcome.Outcome.{Outcome}
use Rattle.doc_board.specs.declared.outcome.Outcome.TheVariants as outcome
use Rattle.doc_board.specs.declared.room.Room.{Room}
use Rattle.doc_board.specs.Boards.{board_of}
use Rattle.doc_board.specs.Limits.{IsRefusedBy, refusal}
use Rattle.doc_board.specs.Outcomes.{IsOutcome, bytes_of}
use Rattle.doc_board.specs.State.{State}
use Rattle.board_steps.specs.declared.accepted.Accepted.{Accepted}
use Rattle.board_steps.specs.declared.accepted.Judged.{Judged}
use Rattle.board_steps.specs.Accepted.{ArePartsOf, IsAcceptedBy, IsAcceptedOn}
use Rattle.write_path.specs.Proposals.{IsProposed}
use Rattle.write_path.specs.Reads.{IsOneOf, Reads, WasRead}
use Rattle.board_steps.specs.Retry.{IsTurnedDown}
use Rattle.board_steps.specs.Shape.{no_room_outcome}
use Rattle.write_path.specs.Shared.{IsLookTurn, IsTurn, MayDrawInTurn}
use Rattle.write_path.specs.inner.Turns.{IsAcceptedFor, IsCommitTurn, IsCommitted, IsDownBy, IsProposedInTurns, IsRoomTurn, IsStoredBy}
use Rattle.board_steps.specs.Tried.{IsDecidedAt, IsJudgedAt}
use Rattle.board_steps.specs.Verdicts.{IsDeniedOn, IsSaidOn}
use Rattle.write_path.proofs.Committing.{last_below}
use Rattle.board_steps.proofs.Decided.{accepted_by, denied_at, denied_by}
use Rattle.write_path.proofs.Proposed.{Again, no_shorter}
use Rattle.write_path.proofs.Sharing.{turn_reads}

-- what the law of reads says
abbrev pub ReadOn : Type 0
ReadOn = (first second third : List BoardState) (low middle high : ℕ) → Reads first second low middle → Reads second third middle high → Reads first third low high

-- ---- what is decided

-- what a board says of a revision that extends its document's tree, and then the program
pub decided_at : (s : State) (program : Program) (strict : Bool) (by : Option (List ℕ)) (r : Revision) (judged : Judged) → IsJudgedAt s strict by r (Ok judged) → (result : Result Accepted Outcome) → IfOk result (IsAcceptedOn judged) → IfOk result (λ a. ArePartsOf by r.body judged.tree a.parts)
    → IfOk result (λ a. AreEffects a.effects) → IfOk result (λ a. IsSaidOn program r judged.basis (Ok a.effects)) → IfErr result (IsDeniedOn program r judged.basis judged.at) → IsDecidedAt s program strict by r result
decided_at s program strict by r judged at (Ok a) from parts effects said denied =
    record { accepted = accepted_by s program strict by r judged a at.extends at.judged at.entries at.writes from parts effects said; down = tt }
decided_at s program strict by r judged at (Err answer) from parts effects said denied =
    record { accepted = tt; down = denied_at s program strict by r judged.at at.judged answer (denied_by s program by r judged.basis judged.at answer at.extends.basis denied) }

-- ---- what is answered

-- a revision that is turned down by a board that was read
pub turned_down : (before after : List BoardState) (own later_own : List Waiting) (program : Program) (strict : Bool) (by : Option (List ℕ)) (r : Revision) (b : BoardState) (answer : Outcome)
    → WasRead before after b → later_own ≡ own → IsOutcome program strict by r b answer → IsTurnedDown answer → IsProposed before after own later_own None program strict by r answer
turned_down before after own later_own program strict by r b (outcome.Bad400 field) read owns is down = (owns, is)
turned_down before after own later_own program strict by r b (outcome.TooLarge413 bytes) read owns is down = (owns, is)
turned_down before after own later_own program strict by r b (outcome.UserGone401 at) read owns is down =
    (owns, record { board = b; was_read = read; has_length = tt; outcome = is })
turned_down before after own later_own program strict by r b (outcome.Known at) read owns is down =
    (owns, record { board = b; was_read = read; has_length = tt; outcome = is })
turned_down before after own later_own program strict by r b (outcome.BadHistory400 at) read owns is down =
    (owns, record { board = b; was_read = read; has_length = tt; outcome = is })
turned_down before after own later_own program strict by r b (outcome.Conflict409 at leaf) read owns is down =
    (owns, record { board = b; was_read = read; has_length = tt; outcome = is })
turned_down before after own later_own program strict by r b (outcome.Denied403 at rule) read owns is down =
    (owns, record { board = b; was_read = read; has_length = tt; outcome = is })
turned_down before after own later_own program strict by r b (outcome.Stored sequence at) read owns is down = absurd down
turned_down before after own later_own program strict by r b (outcome.Full503 at places) read owns is down = absurd down
turned_down before after own later_own program strict by r b (outcome.LogFull509 at entries bytes) read owns is down = absurd down
turned_down before after own later_own program strict by r b outcome.Memory507 read owns is down = owns

abbrev err_or : NoRoom → Result Room NoRoom → NoRoom
err_or other (Ok room) = other
err_or other (Err why) = why

-- why a room was refused, but for want of memory
pub refused_for : (o : Option NoRoom) (why : NoRoom) → IsRefusedBy o (Err why) → (why ≡ no_room.Memory) ⊎ (o ≡ Some why)
refused_for None why refused = inl refused
refused_for (Some other) why refused = inr (ap (λ (w : NoRoom). Some w) (sym (ap (λ (x : Result Room NoRoom). err_or why x) refused)))

pub room_there : (o : Option NoRoom) (room : Room) → IsRefusedBy o (Ok room) → o ≡ None
room_there None room refused = refl
room_there (Some why) room refused = cc refused

-- one for which a later board had no room
module _ (before middle after : List BoardState) (own later_own : List Waiting) (program : Program) (strict : Bool) (by : Option (List ℕ)) (r : Revision) (s t : State) (a : Accepted)
    (judged : WasRead before after (board_of s)) (read : WasRead before after (board_of t)) (first : WasRead before middle (board_of s)) (then : WasRead middle after (board_of t)) (owns : later_own ≡ own) (is : IsAcceptedBy s program strict by r a) where
  pub not_roomed : (why : NoRoom) → (why ≡ no_room.Memory) ⊎ (refusal (board_of t) (bytes_of r) ≡ Some why) → IsProposed before after own later_own None program strict by r (no_room_outcome a.at why)
  not_roomed (no_room.Full503 places) (inl e) = cc e
  not_roomed (no_room.Full503 places) (inr refused) = record {
    own = owns;
    judged = record { board = board_of s; was_read = judged; has_length = tt; outcome = (is.judged, (a.effects, is.said)) };
    room = record { board = board_of t; was_read = read; has_length = tt; limits = refused };
    middle = middle;
    judged_first = first;
    room_after = then;
  }
  not_roomed (no_room.LogFull509 entries bytes) (inl e) = cc e
  not_roomed (no_room.LogFull509 entries bytes) (inr refused) = record {
    own = owns;
    judged = record { board = board_of s; was_read = judged; has_length = tt; outcome = (is.judged, (a.effects, is.said)) };
    room = record { board = board_of t; was_read = read; has_length = tt; limits = refused };
    middle = middle;
    judged_first = first;
    room_after = then;
  }
  not_roomed no_room.Memory refused = owns

-- one whose write was stored
pub was_stored : (before after : List BoardState) (own later_own : List Waiting) (program : Program) (strict : Bool) (by : Option (List ℕ)) (r : Revision) (judged roomed left : State) (answer : Outcome)
    → WasRead before after (board_of judged) → WasRead before after (board_of roomed) → WasRead before after (board_of left) → refusal (board_of roomed) (bytes_of r) ≡ None
    → IsStoredBy judged left own later_own program strict by r answer → IsProposed before after own later_own None program strict by r answer
was_stored before after own later_own program strict by r judged roomed left answer was_judged was_roomed was_left room h =
    subst (λ (o : Outcome). IsProposed before after own later_own None program strict by r o) (sym h.answered) (record {
      judged = board_of judged;
      was_judged = was_judged;
      has_length = tt;
      room = record { board = board_of roomed; was_read = was_roomed; has_length = tt; limits = room };
      outcome = h.outcome;
      write = h.write;
      is_write = h.is_write;
      own = h.own;
      holding = board_of left;
      was_read = was_left;
      there = h.there;
      judged_write = h.judged_write;
    })

-- ---- the turns

-- the revision is turned down in the first turn, or outside of turns after it
pub down_first : Again → (p q : Known) (s : State) (program : Program) (strict : Bool) (by : Option (List ℕ)) (r : Revision) (answer : Outcome) → IsLookTurn p q (board_of s) → IsOutcome program strict by r (board_of s) answer → IsTurnedDown answer
    → IsProposedInTurns p q program strict by r answer
down_first again p q s program strict by r answer look is down = record {
  stores = record {
    reads = turn_reads again p q (board_of s) (board_of s) look.turn;
    proposed = turned_down p.read q.read p.own q.own program strict by r (board_of s) answer (record { added = board_of s ∷ board_of s ∷ []; read = look.turn.read; one = inl refl }) look.own is down;
  };
  rests = look.rests;
  share_is = omega (arith, look.turn.left_is, look.turn.made);
  least = omega (arith, look.turn.left_is);
  most = omega (arith, look.turn.left_is);
  in_turns = inl look.turn.in_turns;
  turns = omega (arith, ap (λ (bs : List BoardState). length bs) look.turn.read);
}

-- a board in front of others that a pass has read
two_more : (p q : Known) (found left : BoardState) → IsTurn p q found left → (before : List BoardState) (added : List BoardState) → p.read ≡ added ++ before → q.read ≡ (left ∷ found ∷ added) ++ before
two_more p q found left turn before added is = turn.read ∙ ap (λ (bs : List BoardState). left ∷ found ∷ bs) is

-- no room is made for it
pub room_refused : Again → ReadOn → (p p1 q : Known) (s t : State) (program : Program) (strict : Bool) (by : Option (List ℕ)) (r : Revision) (a : Accepted) (why : NoRoom) → IsLookTurn p p1 (board_of s) → IsLookTurn p1 q (board_of t)
    → IsAcceptedBy s program strict by r a → IsRefusedBy (refusal (board_of t) (bytes_of r)) (Err why) → IsProposedInTurns p q program strict by r (no_room_outcome a.at why)
room_refused again on p p1 q s t program strict by r a why one two is refused = record {
  stores = record {
    reads = on p.read p1.read q.read p.lowest_front p1.lowest_front q.lowest_front (turn_reads again p p1 (board_of s) (board_of s) one.turn) (turn_reads again p1 q (board_of t) (board_of t) two.turn);
    proposed = not_roomed p.read p1.read q.read p.own q.own program strict by r s t a
        (record { added = b ∷ b ∷ c ∷ c ∷ []; read = all; one = inr (inr (inl refl)) })
        (record { added = b ∷ b ∷ c ∷ c ∷ []; read = all; one = inl refl })
        (record { added = c ∷ c ∷ []; read = one.turn.read; one = inl refl })
        (record { added = b ∷ b ∷ []; read = two.turn.read; one = inl refl })
        (two.own ∙ one.own) is why (refused_for (refusal b (bytes_of r)) why refused);
  };
  rests = two.rests;
  share_is = omega (arith, one.turn.left_is, one.turn.made, two.turn.left_is, two.turn.made);
  least = omega (arith, one.turn.left_is, two.turn.left_is);
  most = omega (arith, one.turn.left_is, two.turn.left_is);
  in_turns = inl (two.turn.in_turns ∙ one.turn.in_turns);
  turns = omega (arith, ap (λ (bs : List BoardState). length bs) all);
}
  where
    b : BoardState
    b = board_of t

    c : BoardState
    c = board_of s

    all : q.read ≡ (b ∷ b ∷ c ∷ c ∷ []) ++ p.read
    all = two_more p1 q b b two.turn p.read (c ∷ c ∷ []) one.turn.read

-- ---- the last turn

-- the turns before it: one for a look, and one for a room
module _ (again : Again) (on : ReadOn) (p p1 p2 q : Known) (s1 s2 t2 : State) (number : ℕ) (room : RoomFor) (program : Program) (strict : Bool) (by : Option (List ℕ)) (r : Revision) (answer : Outcome)
    (left : 2 ≤ p.left) (one : IsLookTurn p p1 (board_of s1)) (two : IsRoomTurn p1 p2 s2 t2 room) (there : refusal (board_of s2) (bytes_of r) ≡ None)
    (done : IsCommitted (drawn p2 number) q s1 program strict by r answer) where
  abbrev b1 : BoardState
  b1 = board_of s1

  read_two : p2.read ≡ (board_of t2 ∷ board_of s2 ∷ b1 ∷ b1 ∷ []) ++ p.read
  read_two = two_more p1 p2 (board_of s2) (board_of t2) two.turn p.read (b1 ∷ b1 ∷ []) one.turn.read

  last_read : IsCommitTurn (drawn p2 number) q done.found done.left r.doc → q.read ≡ board_of done.left ∷ board_of done.found ∷ p2.read
  last_read (inl turn) = turn.read
  last_read (inr (fresh, turn, over)) = turn.read

  abbrev added : List BoardState
  added = board_of done.left ∷ board_of done.found ∷ board_of t2 ∷ board_of s2 ∷ b1 ∷ b1 ∷ []

  all : q.read ≡ added ++ p.read
  all = last_read done.turn ∙ ap (λ (bs : List BoardState). board_of done.left ∷ board_of done.found ∷ bs) read_two

  last_reads : IsCommitTurn (drawn p2 number) q done.found done.left r.doc → Reads p2.read q.read p2.lowest_front q.lowest_front
  last_reads (inl turn) = turn_reads again (drawn p2 number) q (board_of done.found) (board_of done.left) turn
  last_reads (inr (fresh, turn, over)) = turn_reads again (drawn_in_turn (drawn p2 number) fresh) q (board_of done.found) (board_of done.left) turn

  reads : Reads p.read q.read p.lowest_front q.lowest_front
  reads =
      on p.read p2.read q.read p.lowest_front p2.lowest_front q.lowest_front
      (on p.read p1.read p2.read p.lowest_front p1.lowest_front p2.lowest_front (turn_reads again p p1 b1 b1 one.turn) (turn_reads again p1 p2 (board_of s2) (board_of t2) two.turn))
      (last_reads done.turn)

  owns : p2.own ≡ p.own
  owns = two.own ∙ one.own

  answered : IsStoredBy s1 done.left p2.own q.own program strict by r answer ⊎ (IsStoredBy done.found done.left p2.own q.own program strict by r answer ⊎ IsDownBy done.found p2.own q.own program strict by r answer)
      → IsProposed p.read q.read p.own q.own None program strict by r answer
  answered (inl h) =
      subst (λ (own : List Waiting). IsProposed p.read q.read own q.own None program strict by r answer) owns
      (was_stored p.read q.read p2.own q.own program strict by r s1 s2 done.left answer
      (record { added = added; read = all; one = inr (inr (inr (inr (inl refl)))) }) (record { added = added; read = all; one = inr (inr (inr (inl refl))) }) (record { added = added; read = all; one = inl refl }) there h)
  answered (inr (inl h)) =
      subst (λ (own : List Waiting). IsProposed p.read q.read own q.own None program strict by r answer) owns
      (was_stored p.read q.read p2.own q.own program strict by r done.found s2 done.left answer
      (record { added = added; read = all; one = inr (inl refl) }) (record { added = added; read = all; one = inr (inr (inr (inl refl))) }) (record { added = added; read = all; one = inl refl }) there h)
  answered (inr (inr h)) =
      turned_down p.read q.read p.own q.own program strict by r (board_of done.found) answer (record { added = added; read = all; one = inr (inl refl) }) (h.own ∙ owns) h.outcome h.down

  share_now : IsCommitTurn (drawn p2 number) q done.found done.left r.doc → share q ≡ share p
  share_now (inl turn) = omega (arith, left, one.turn.left_is, one.turn.made, two.turn.left_is, two.turn.made, turn.left_is, turn.made)
  share_now (inr (fresh, turn, over)) = omega (arith, left, one.turn.left_is, one.turn.made, two.turn.left_is, two.turn.made, turn.left_is, turn.made)

  least_now : IsCommitTurn (drawn p2 number) q done.found done.left r.doc → q.left ≤ p.left
  least_now (inl turn) = omega (arith, one.turn.left_is, two.turn.left_is, turn.left_is)
  least_now (inr (fresh, turn, over)) = omega (arith, one.turn.left_is, two.turn.left_is, turn.left_is)

  most_now : IsCommitTurn (drawn p2 number) q done.found done.left r.doc → p.left ≤ q.left + 2
  most_now (inl turn) = omega (arith, left, one.turn.left_is, two.turn.left_is, turn.left_is)
  most_now (inr (fresh, turn, over)) = omega (arith, left, one.turn.left_is, two.turn.left_is, turn.left_is)

  in_turns_now : IsCommitTurn (drawn p2 number) q done.found done.left r.doc → MayDrawInTurn p q r.doc
  in_turns_now (inl turn) = inl (turn.in_turns ∙ two.turn.in_turns ∙ one.turn.in_turns)
  in_turns_now (inr (fresh, turn, over)) = inr (record {
    once = omega (arith, turn.in_turns, two.turn.in_turns, one.turn.in_turns);
    found = board_of done.found;
    left = board_of done.left;
    older = board_of t2 ∷ board_of s2 ∷ b1 ∷ b1 ∷ [];
    read = all;
    overtaken = over;
  })

  pub all_turns : IsProposedInTurns p q program strict by r answer
  all_turns = record {
    stores = record { reads = reads; proposed = answered done.answered };
    rests = done.rests;
    share_is = share_now done.turn;
    least = least_now done.turn;
    most = most_now done.turn;
    in_turns = in_turns_now done.turn;
    turns = omega (arith, ap (λ (bs : List BoardState). length bs) all);
  }

-- the number that is drawn then is above what the board that judged it has
above_one : (n : ℕ) (read : List BoardState) (b : BoardState) → IsOneOf read b → IsAboveAll n read → IsAboveBook n (board_book b)
above_one n [] b one above = absurd one
above_one n (x ∷ read) b (inl e) above = subst (λ (y : BoardState). IsAboveBook n (board_book y)) e above.0
above_one n (x ∷ read) b (inr one) above = above_one n read b one above.1

pub accepted_for : (p p1 p2 : Known) (s1 s2 t2 : State) (number : ℕ) (room : RoomFor) (program : Program) (strict : Bool) (by : Option (List ℕ)) (r : Revision) (a : Accepted) → IsLookTurn p p1 (board_of s1) → IsRoomTurn p1 p2 s2 t2 room
    → IsAcceptedBy s1 program strict by r a → IsNew p2 number → IsAcceptedFor (drawn p2 number) s1 program strict by r number a
accepted_for p p1 p2 s1 s2 t2 number room program strict by r a one two is new = record {
  accepted = is;
  was_read = was_read;
  front = omega (arith, one.turn.lowest, two.turn.least, two.turn.lowest, no_shorter (board_of s2) (board_of t2) two.turn.next, new.lowest_front);
  above = last_below s1 r.doc number new.least (above_one number p2.read (board_of s1) was_read new.read);
}
  where
    was_read : IsOneOf p2.read (board_of s1)
    was_read =
        subst (λ (bs : List BoardState). IsOneOf bs (board_of s1)) (sym (two.turn.read ∙ ap (λ (bs : List BoardState). board_of t2 ∷ board_of s2 ∷ bs) one.turn.read)) (inr (inr (inl refl)))
