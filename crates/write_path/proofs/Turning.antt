-- what a turn in which a room is made or an entry is stored adds to what a pass knows
use Rattle.std.proofs.Common.{◌≡◌, ◌≢◌, ◌≤◌, ◌<◌, ◌+◌, ◌∙◌, ◌⊎◌, ℕ, Bool, true, false, List, [], ◌∷◌, ◌++◌, length, refl, sym, ap, subst, arith, inl, inr, Option, Some, None, IsTrue, nat_eq, nat_lt, ◌||◌, if◌then◌else◌}
use Rattle.std.proofs.lemmas.Bool.{and_from, and_parts, cases_eq, eq-eqb, lt-ltb, ltb-true, ne_eqb}
use Rattle.std.proofs.lemmas.List.{append-nil}
use Rattle.std.proofs.lemmas.Option.{none-some}
use Rattle.sg_history.specs.declared.book.Waiting.{Waiting}
use Rattle.sg_history.specs.declared.entries.Entry.{Entry}
use Rattle.sg_history.specs.declared.room.RoomFor.{RoomFor}
use Rattle.sg_history.specs.Board.{BoardState, After, board_book}
use Rattle.sg_history.specs.Book.{Book, book_with}
use Rattle.sg_history.specs.Rooms.{room_times, without_room}
use Rattle.sg_history.specs.World.{Released, put_waiting, release, rises_from}
use Rattle.pending_front.specs.Storing.{MayStore}
use Rattle.seq_gate.specs.Counts.{is_unused, times, without_rooms}
use Rattle.seq_gate.specs.Passes.{Finds, MayLeave, after_turn, before_if_none, before_if_used, still_held, stored_at as own_at}
use Rattle.seq_gate.specs.declared.known.Known.{Known}
use Rattle.doc_board.specs.Boards.{board_of}
use Rattle.doc_board.specs.Rooms.{is_outstanding}
use Rattle.doc_board.specs.State.{State, book_on}
use Rattle.doc_board.specs.Steps.{history_on, stored_at, with_entry}
use Rattle.write_path.specs.Shared.{IsTurn, Rests}
use Rattle.write_path.specs.inner.Turns.{IsRoomTurn, IsStoreTurn}
use Rattle.write_path.proofs.RoomTimes.{all_gone, outstanding_times, put_back, same_room_itself, times_append, times_less, times_outstanding}

-- what the laws of storing say
pub record Rising : Type 0 where
  pub book : (log : List Entry) (waiting : List Waiting) (number : ℕ) (e : Entry) (other : ℕ) → MayStore log waiting number
      → book_with log (put_waiting (record { number = number; entry = e }) waiting) other ≡ (if nat_eq number other then Some e else book_with log waiting other)
  pub rises : (log : List Entry) (waiting : List Waiting) (number : ℕ) (e : Entry) → MayStore log waiting number → IsTrue (rises_from (length log) waiting)
      → IsTrue (rises_from (length log) (put_waiting (record { number = number; entry = e }) waiting))
  pub released : (log : List Entry) (waiting : List Waiting) → IsTrue (rises_from (length log) waiting)
      → IsTrue (rises_from (length (release log waiting).log + 1) (release log waiting).pending)

pub a_turn : (p : Known) (found left : BoardState) → Finds p found → After found left → IsTurn p (after_turn p found left) found left
a_turn p found left finds next =
    record { read = refl; later = finds.read; next = next; least = finds.lowest_front; lowest = refl; left_is = refl; made = refl; in_turns = refl }

-- ---- a room

module _ (p : Known) (s t : State) (room : RoomFor) (finds : Finds p (board_of s)) (rests : Rests p) (next : After (board_of s) (board_of t))
    (log : t.log ≡ s.log) (pending : t.pending ≡ s.pending) (rooms : t.rooms ≡ s.rooms ++ room ∷ []) where
  same_book : book_on t ≡ book_on s
  same_book = λ i. board_book (board_of (record { log = log i; pending = pending i; rooms = rooms i; checkpoints = []; known = 0; reads = 0 }))

  pub may_leave_room : MayLeave p (board_of s) (board_of t)
  may_leave_room = record {
    after = next;
    stored = λ k e there none. absurd (none-some e (sym none ∙ sym (ap (λ (b : Book). b k) same_book) ∙ there));
    rooms = λ r. omega (arith, ap (λ (rs : List RoomFor). room_times r rs) rooms, times_append r s.rooms (room ∷ []));
    waiting = subst (λ (ws : List Waiting). IsTrue (rises_from (length t.log + 1) ws)) (sym pending)
        (subst (λ (es : List Entry). IsTrue (rises_from (length es + 1) s.pending)) (sym log) finds.waiting);
  }

  pub room_turn : IsTurn p (after_turn p (board_of s) (board_of t)) (board_of s) (board_of t)
  room_turn = a_turn p (board_of s) (board_of t) finds next

  pub room_own : (after_turn p (board_of s) (board_of t)).own ≡ p.own
  room_own = ap (λ (held : List ℕ). own_at (board_book (board_of t)) held ++ p.own) rests.held

  pub room_held : (after_turn p (board_of s) (board_of t)).held ≡ []
  room_held = ap (λ (held : List ℕ). still_held (board_book (board_of t)) held) rests.held

  pub room_rooms : (after_turn p (board_of s) (board_of t)).rooms ≡ room ∷ []
  room_rooms =
      ap (λ (more : List RoomFor). without_rooms s.rooms (t.rooms ++ more)) rests.rooms
      ∙ ap (λ (rs : List RoomFor). without_rooms s.rooms rs) (append-nil t.rooms ∙ rooms)
      ∙ all_gone s.rooms (room ∷ [])

  pub made_room : IsRoomTurn p (after_turn p (board_of s) (board_of t)) s t room
  made_room = record { turn = room_turn; own = room_own; held = room_held; rooms = room_rooms }

-- ---- an entry is stored at the one number that is held, in the one room

pub weaker : (n : ℕ) (ws : List Waiting) → IsTrue (rises_from (n + 1) ws) → IsTrue (rises_from n ws)
weaker n [] up = refl
weaker n (f ∷ fs) up =
    let parts = and_parts (nat_lt (n + 1) f.number) (rises_from f.number fs) up in
    and_from (nat_lt n f.number) (rises_from f.number fs) (lt-ltb n f.number (omega (arith, ltb-true (n + 1) f.number parts.0))) parts.1

-- the room is among those that are outstanding
own_room : (room : RoomFor) → is_outstanding (room ∷ []) room ≡ true
own_room room = ap (λ (b : Bool). b || false) (same_room_itself room)

pub room_out : (p : Known) (s : State) (room : RoomFor) → Finds p (board_of s) → p.rooms ≡ room ∷ [] → is_outstanding s.rooms room ≡ true
room_out p s room finds rooms =
    let mine : 1 ≤ room_times room p.rooms = times_outstanding room p.rooms (ap (λ (rs : List RoomFor). is_outstanding rs room) rooms ∙ own_room room) in
    outstanding_times room s.rooms (omega (arith, mine, finds.rooms room))

pub times_one : (n : ℕ) → 0 < times n (n ∷ [])
times_one n = subst (λ (b : Bool). 0 < (if b then 1 else 0) + 0) (sym (eq-eqb n n refl)) (omega arith)

-- the number may be stored at
pub may_store : (p : Known) (s : State) (number : ℕ) → Finds p (board_of s) → 0 < times number p.held → MayStore s.log s.pending number
may_store p s number finds mine = let is = finds.held number mine in (omega (arith, is.0), is.1)

module _ (rising : Rising) (p : Known) (s t : State) (room : RoomFor) (number : ℕ) (e : Entry) (finds : Finds p (board_of s)) (held : p.held ≡ number ∷ []) (made : p.rooms ≡ room ∷ [])
    (next : After (board_of s) (board_of t)) (history : history_on t ≡ stored_at s number e) (book : book_on t ≡ with_entry number e (book_on s)) (rooms : t.rooms ≡ without_room room s.rooms) where
  mine : 0 < times number p.held
  mine = subst (λ (ns : List ℕ). 0 < times number ns) (sym held) (times_one number)

  out : is_outstanding s.rooms room ≡ true
  out = room_out p s room finds made

  there : board_book (board_of t) number ≡ Some e
  there = ap (λ (b : Book). b number) book ∙ ap (λ (b : Bool). if b then Some e else book_on s number) (eq-eqb number number refl)

  only_there : (k : ℕ) (x : Entry) → board_book (board_of t) k ≡ Some x → board_book (board_of s) k ≡ None → (number ≡ k) ⊎ (number ≢ k) → 0 < times k p.held
  only_there k x is none (inl same) = subst (λ (n : ℕ). 0 < times n p.held) same mine
  only_there k x is none (inr ne) =
      absurd (none-some x (sym none ∙ sym (ap (λ (b : Bool). if b then Some e else book_on s k) (ne_eqb number k ne)) ∙ sym (ap (λ (b : Book). b k) book) ∙ is))

  pub may_leave_stored : MayLeave p (board_of s) (board_of t)
  may_leave_stored = record {
    after = next;
    stored = λ k x is none. only_there k x is none (cases_eq number k);
    rooms = λ r. omega (arith, ap (λ (rs : List RoomFor). room_times r rs) rooms, ap (λ (rs : List RoomFor). room_times r rs) made, times_less room r s.rooms (times_outstanding room s.rooms out));
    waiting = subst (λ (r : Released). IsTrue (rises_from (length r.log + 1) r.pending)) (sym history)
        (rising.released s.log (put_waiting (record { number = number; entry = e }) s.pending)
        (rising.rises s.log s.pending number e (may_store p s number finds mine) (weaker (length s.log) s.pending finds.waiting)));
  }

  pub stored_turn : IsTurn p (after_turn p (board_of s) (board_of t)) (board_of s) (board_of t)
  stored_turn = a_turn p (board_of s) (board_of t) finds next

  pub stored_own : is_unused e ≡ false → (after_turn p (board_of s) (board_of t)).own ≡ record { number = number; entry = e } ∷ p.own
  stored_own used =
      ap (λ (ns : List ℕ). own_at (board_book (board_of t)) ns ++ p.own) held
      ∙ ap (λ (o : Option Entry). before_if_used o number [] ++ p.own) there
      ∙ ap (λ (b : Bool). (if b then [] else record { number = number; entry = e } ∷ []) ++ p.own) used

  pub unused_own : is_unused e ≡ true → (after_turn p (board_of s) (board_of t)).own ≡ p.own
  unused_own unused =
      ap (λ (ns : List ℕ). own_at (board_book (board_of t)) ns ++ p.own) held
      ∙ ap (λ (o : Option Entry). before_if_used o number [] ++ p.own) there
      ∙ ap (λ (b : Bool). (if b then [] else record { number = number; entry = e } ∷ []) ++ p.own) unused

  pub stored_rests : Rests (after_turn p (board_of s) (board_of t))
  stored_rests = record {
    held = ap (λ (ns : List ℕ). still_held (board_book (board_of t)) ns) held ∙ ap (λ (o : Option Entry). before_if_none o number []) there;
    rooms = ap (λ (rs : List RoomFor). without_rooms s.rooms (t.rooms ++ rs)) made ∙ ap (λ (rs : List RoomFor). without_rooms s.rooms (rs ++ room ∷ [])) rooms ∙ put_back room s.rooms out;
  }

  pub store_turn : is_unused e ≡ false → IsStoreTurn p (after_turn p (board_of s) (board_of t)) s t number e
  store_turn used = record { turn = stored_turn; own = stored_own used; rests = stored_rests; there = there }
