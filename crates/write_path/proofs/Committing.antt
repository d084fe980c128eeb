-- the turn in which the write of a revision is stored
use Rattle.std.proofs.Common.{◌≡◌, ◌≢◌, ◌≤◌, ◌<◌, ◌+◌, ◌∙◌, ◌⊎◌, ℕ, Bool, true, false, List, [], ◌∷◌, ◌++◌, length, bytes_eq, refl, sym, ap, subst, arith, inl, inr, Option, Some, None, IsTrue, nat_eq, if◌then◌else◌}
use Rattle.std.proofs.lemmas.Bool.{cases_eq, cases_lt, eq-eqb, ne_eqb}
use Rattle.std.proofs.lemmas.Option.{cond_some, none-some}
use Rattle.sg_history.specs.declared.book.Waiting.{Waiting}
use Rattle.sg_history.specs.declared.entries.Entry.{Entry}
use Rattle.sg_history.specs.declared.entries.Entry.TheVariants as kinds
use Rattle.sg_history.specs.declared.entries.Write.{Write}
use Rattle.sg_history.specs.declared.number.Number.{Number}
use Rattle.sg_history.specs.declared.room.RoomFor.{RoomFor}
use Rattle.sg_history.specs.Board.{BoardState, After, IsAfterAll, board_book}
use Rattle.sg_history.specs.Book.{Book, book_with, write_at, written_in}
use Rattle.sg_history.specs.History.{write_to}
use Rattle.sg_history.specs.Rooms.{room_times, without_room}
use Rattle.sg_history.specs.World.{Released, put_waiting, release, rises_from}
use Rattle.pending_front.specs.Storing.{MayStore}
use Rattle.seq_gate.specs.Passes.{Finds, IsAboveBook, IsNew, MayLeave, after_turn, before_if_none, before_if_used, drawn_in_turn, still_held, stored_at as own_at}
use Rattle.seq_gate.specs.Counts.{times, without_rooms}
use Rattle.seq_gate.specs.declared.known.Known.{Known}
use Rattle.repl_messages.specs.declared.revision.Revision.{Revision}
use Rattle.sync_syntax.specs.declared.tree.Program.{Program}
use Rattle.doc_board.specs.declared.candidate.Candidate.{Candidate}
use Rattle.doc_board.specs.declared.candidate.Candidate.TheVariants as candidate
use Rattle.doc_board.specs.declared.outcome.Outcome.{Outcome}
use Rattle.doc_board.specs.declared.outcome.Outcome.TheVariants as outcome
use Rattle.doc_board.specs.declared.room.Room.{Room}
use Rattle.doc_board.specs.Boards.{board_of, board_last}
use Rattle.doc_board.specs.Candidates.{Fits, MayBeStored, entry_of, is_stale}
use Rattle.doc_board.specs.JudgedWrites.{IsJudgedWrite, IsNextWrite}
use Rattle.doc_board.specs.Lawful.{AreEntries}
use Rattle.doc_board.specs.Outcomes.{IsWriteOf, bytes_of}
use Rattle.doc_board.specs.Rooms.{is_outstanding}
use Rattle.doc_board.specs.State.{State, book_on, last_on, top_on}
use Rattle.doc_board.specs.Steps.{history_on, stored_at, swapped_to, with_entry}
use Rattle.doc_board.proofs.Documents.{same_names}
use Rattle.doc_board.proofs.Standing.{last_there}
use Rattle.board_steps.specs.declared.accepted.Accepted.{Accepted}
use Rattle.board_steps.specs.declared.retry.Ready.{Ready}
use Rattle.board_steps.specs.declared.retry.Retried.TheVariants as retried
use Rattle.write_path.specs.Reads.{IsOneOf}
use Rattle.board_steps.specs.Retry.{FitsReady, IsHandedBack, IsHeldReady, IsReady, IsSpent, IsStoredAgain, IsTurnedDownAgain}
use Rattle.write_path.specs.Shared.{IsOvertaken, Rests}
use Rattle.write_path.specs.inner.Turns.{IsAcceptedFor, IsCommitted, IsOvertakenAt, IsStoredBy}
use Rattle.board_steps.specs.Tried.{IsStoredFirst, IsTried, WasAccepted}
use Rattle.board_steps.proofs.Again.{fits_ready, held_still, may_still, past_log}
use Rattle.board_steps.proofs.Alone.{fresh_on}
use Rattle.write_path.proofs.Proposed.{Again}
use Rattle.board_steps.proofs.SameBoards.{same_board}
use Rattle.write_path.proofs.RoomTimes.{put_back, times_less, times_outstanding}
use Rattle.board_steps.proofs.Triable.{LaterBoards, fits_room, last_ready, may_be_stored}
use Rattle.write_path.proofs.Turning.{Rising, may_leave_stored, may_store, room_out, stored_own, stored_rests, stored_turn, times_one, unused_own, weaker}

-- what the laws of boards say of the write that is stored
pub record Judging : Type 0 where
  pub next : (program : Program) (by : Option (List ℕ)) (r : Revision) (judged : BoardState) (book : Book) (sequence : ℕ) (w : Write) → IsWriteOf program by r judged w → IsNextWrite judged book sequence w → IsJudgedWrite program book sequence w
  pub last : (board : BoardState) (doc : List ℕ) (number : ℕ) → board_last board doc < number → write_at (board_book board) doc number ≡ None
  pub same : (s : State) (doc : List ℕ) → board_last (board_of s) doc ≡ last_on s doc

-- what they say of the board that is left
pub record Leaving : Type 0 where
  pub commit : (s t : State) (room : RoomFor) (number : ℕ) (c : Candidate) → MayStore s.log s.pending number → IsTrue (is_outstanding s.rooms room) → Fits room c → MayBeStored s number c → is_stale s c ≡ false → AreEntries (book_on s) → history_on t ≡ stored_at s number (entry_of c)
      → book_on t ≡ with_entry number (entry_of c) (book_on s) → t.rooms ≡ without_room room s.rooms → t.checkpoints ≡ s.checkpoints → After (board_of s) (board_of t)
  pub swap : (s t : State) (room : RoomFor) (spent number : ℕ) (c : Candidate) → MayStore s.log s.pending spent → MayStore s.log s.pending number → spent ≢ number → IsTrue (is_outstanding s.rooms room) → Fits room c → MayBeStored s number c → is_stale s c ≡ false → AreEntries (book_on s)
      → history_on t ≡ swapped_to s spent number (entry_of c) → book_on t ≡ with_entry number (entry_of c) (with_entry spent kinds.Unused (book_on s)) → t.rooms ≡ without_room room s.rooms → t.checkpoints ≡ s.checkpoints → After (board_of s) (board_of t)
  pub void : (s t : State) (room : RoomFor) (number : ℕ) → MayStore s.log s.pending number → IsTrue (is_outstanding s.rooms room) → history_on t ≡ stored_at s number kinds.Unused → book_on t ≡ with_entry number kinds.Unused (book_on s) → t.rooms ≡ without_room room s.rooms → t.checkpoints ≡ s.checkpoints
      → After (board_of s) (board_of t)

-- ---- a board that a pass has read

pub after_one : (read : List BoardState) (b c : BoardState) → IsOneOf read b → IsAfterAll read c → After b c
after_one [] b c one all = absurd one
after_one (x ∷ read) b c (inl e) all = subst (λ (y : BoardState). After y c) e all.0
after_one (x ∷ read) b c (inr one) all = after_one read b c one all.1

pub accepted_here : (p : Known) (judged s : State) (program : Program) (strict : Bool) (by : Option (List ℕ)) (r : Revision) (number : ℕ) (a : Accepted) → Finds p (board_of s) → IsAcceptedFor p judged program strict by r number a → WasAccepted judged s program strict by r number a
accepted_here p judged s program strict by r number a finds is =
    let after : After (board_of judged) (board_of s) = after_one p.read (board_of judged) (board_of s) is.was_read finds.read in
    record { accepted = is.accepted; later = after.book; front = is.front; above = is.above }

-- ---- the write that is stored, by the board that judged it

its_own : (book : Book) (k : ℕ) (doc : List ℕ) → book k ≡ Some kinds.Unused → write_at book doc k ≡ None
its_own book k doc is = ap (λ (o : Option Entry). written_in o doc) is

module _ (laws : Judging) (judged s t : State) (own : List Waiting) (program : Program) (strict : Bool) (by : Option (List ℕ)) (r : Revision) (c : Ready) (number : ℕ) where
  between : last_on s c.entry.doc ≡ last_on judged c.entry.doc
      → ((k : ℕ) → k < number → (board_book (board_of t) k ≡ board_book (board_of s) k) ⊎ (board_book (board_of t) k ≡ Some kinds.Unused))
      → (k : ℕ) → board_last (board_of judged) c.entry.doc < k → k < number → write_at (board_book (board_of t)) c.entry.doc k ≡ None
  between last others k more less = go (others k less)
    where
      past : board_last (board_of s) c.entry.doc < k
      past = omega (arith, more, laws.same s c.entry.doc, last, laws.same judged c.entry.doc)

      go : (board_book (board_of t) k ≡ board_book (board_of s) k) ⊎ (board_book (board_of t) k ≡ Some kinds.Unused) → write_at (board_book (board_of t)) c.entry.doc k ≡ None
      go (inl same) = ap (λ (o : Option Entry). written_in o c.entry.doc) same ∙ laws.last (board_of s) c.entry.doc k past
      go (inr unused) = its_own (board_book (board_of t)) k c.entry.doc unused

  pub stored_by : IsReady judged program strict by r c → After (board_of judged) (board_of t) → length judged.log < number → last_on judged c.entry.doc < number → last_on s c.entry.doc ≡ last_on judged c.entry.doc
      → board_book (board_of t) number ≡ Some (kinds.Write c.entry)
      → ((k : ℕ) → k < number → (board_book (board_of t) k ≡ board_book (board_of s) k) ⊎ (board_book (board_of t) k ≡ Some kinds.Unused))
      → (later_own : List Waiting) → later_own ≡ record { number = number; entry = kinds.Write c.entry } ∷ own → (answer : Outcome) → answer ≡ outcome.Stored number c.entry.at
      → IsStoredBy judged t own later_own program strict by r answer
  stored_by ready after front above last there others later_own owns answer is = record {
    sequence = number;
    at = c.entry.at;
    answered = is;
    outcome = (ready.judged, ready.accepted, omega (arith, ready.judged.front, front));
    write = c.entry;
    is_write = ready.made.is_write;
    own = owns;
    there = there;
    judged_write = laws.next program by r (board_of judged) (board_book (board_of t)) number c.entry ready.made.is_write (record {
      later = after.book;
      there = there;
      front = front;
      above = omega (arith, laws.same judged c.entry.doc, above);
      between = between last others;
    });
  }

-- ---- what was stored at the number that is held

at_number : (s t : State) (number : ℕ) (e : Entry) → book_on t ≡ with_entry number e (book_on s) → board_book (board_of t) number ≡ Some e
at_number s t number e book = ap (λ (b : Book). b number) book ∙ ap (λ (b : Bool). if b then Some e else book_on s number) (eq-eqb number number refl)

elsewhere : (s t : State) (number : ℕ) (e : Entry) → book_on t ≡ with_entry number e (book_on s) → (k : ℕ) → k < number → (board_book (board_of t) k ≡ board_book (board_of s) k) ⊎ (board_book (board_of t) k ≡ Some kinds.Unused)
elsewhere s t number e book k less =
    inl (ap (λ (b : Book). b k) book ∙ ap (λ (b : Bool). if b then Some e else book_on s k) (ne_eqb number k (λ same. omega (arith, less, same))))

may_again : (s : State) (c : Ready) (number : ℕ) → IsHeldReady s c → MayStore s.log s.pending number → c.base < number → MayBeStored s number (candidate.Write c.entry c.tree c.base)
may_again s c number held may above = (held.is_entry, held.document, omega (arith, held.at, past_log s.log s.pending number may), above, λ fresh. held.extends)

module _ (leaving : Leaving) (judging : Judging) (later : LaterBoards) (rising : Rising) (again : Again)
    (p : Known) (judged s t : State) (program : Program) (strict : Bool) (by : Option (List ℕ)) (r : Revision) (a : Accepted) (room : Room) (number : Number) (answer : Outcome)
    (finds : Finds p (board_of s)) (held : p.held ≡ number.value ∷ []) (made : p.rooms ≡ room.made_for ∷ []) (doc : room.made_for.doc ≡ Some r.doc) (bytes : bytes_of r ≤ room.made_for.bytes)
    (is : IsAcceptedFor p judged program strict by r number.value a) where
  mine : 0 < times number.value p.held
  mine = subst (λ (ns : List ℕ). 0 < times number.value ns) (sym held) (times_one number.value)

  may : MayStore s.log s.pending number.value
  may = may_store p s number.value finds mine

  out : is_outstanding s.rooms room.made_for ≡ true
  out = room_out p s room.made_for finds made

  was : WasAccepted judged s program strict by r number.value a
  was = accepted_here p judged s program strict by r number.value a finds is

  between_boards : After (board_of judged) (board_of s)
  between_boards = after_one p.read (board_of judged) (board_of s) is.was_read finds.read

  -- by whichever board the write was judged
  after_first : IsStoredFirst judged s t program strict by r room number answer → After (board_of s) (board_of t)
  after_first h =
      let c = h.ready in
      let held_ready : IsHeldReady judged c = h.is_ready.made.held in
      let above : c.base < number.value = omega (arith, held_ready.base, last_ready judged program strict by r c number.value h.is_ready was.above) in
      leaving.commit s t room.made_for number.value (candidate.Write c.entry c.tree c.base) may out (fits_room judged program strict by r room.made_for c h.is_ready doc bytes)
      (may_be_stored later judged s c number.value held_ready was.later was.front above (h.last ∙ sym held_ready.base))
      (fresh_on c.base (last_on s c.entry.doc) (held_ready.base ∙ sym h.last)) h.entries
      h.spent.stored h.spent.book h.spent.rooms h.spent.checkpoints

  after_again : IsStoredAgain s t program strict by r room number answer → After (board_of s) (board_of t)
  after_again h =
      let c = h.ready in
      leaving.commit s t room.made_for number.value (candidate.Write c.entry c.tree c.base) may out (fits_room s program strict by r room.made_for c h.is_ready doc bytes)
      (may_again s c number.value h.is_ready.made.held may h.above)
      (fresh_on c.base (last_on s c.entry.doc) h.is_ready.made.held.base) h.is_ready.made.held.entries
      h.spent.stored h.spent.book h.spent.rooms h.spent.checkpoints

  after_down : IsTurnedDownAgain s t program strict by r room number answer → After (board_of s) (board_of t)
  after_down h = leaving.void s t room.made_for number.value may out h.spent.stored h.spent.book h.spent.rooms h.spent.checkpoints

  left_by : (e : Entry) → IsSpent s t room number e → After (board_of s) (board_of t) → MayLeave p (board_of s) (board_of t)
  left_by e spent next = may_leave_stored rising p s t room.made_for number.value e finds held made next spent.stored spent.book spent.rooms

  pub may_leave_tried : IsTried judged s t program strict by r room number (retried.Answered answer) → MayLeave p (board_of s) (board_of t)
  may_leave_tried (inl h) = left_by (kinds.Write h.ready.entry) h.spent (after_first h)
  may_leave_tried (inr (inl h)) = left_by (kinds.Write h.ready.entry) h.spent (after_again h)
  may_leave_tried (inr (inr h)) = left_by kinds.Unused h.spent (after_down h)

  pub committed : IsTried judged s t program strict by r room number (retried.Answered answer) → IsCommitted p (after_turn p (board_of s) (board_of t)) judged program strict by r answer
  committed (inl h) =
      let c = h.ready in
      let next = after_first h in
      record {
        found = s;
        left = t;
        turn = inl (stored_turn rising p s t room.made_for number.value (kinds.Write c.entry) finds held made next h.spent.stored h.spent.book h.spent.rooms);
        rests = stored_rests rising p s t room.made_for number.value (kinds.Write c.entry) finds held made next h.spent.stored h.spent.book h.spent.rooms;
        answered = inl
            (stored_by judging judged s t p.own program strict by r c number.value h.is_ready (again (board_of judged) (board_of s) (board_of t) between_boards next) was.front (last_ready judged program strict by r c number.value h.is_ready was.above) h.last
            (at_number s t number.value (kinds.Write c.entry) h.spent.book) (elsewhere s t number.value (kinds.Write c.entry) h.spent.book)
            (after_turn p (board_of s) (board_of t)).own (stored_own rising p s t room.made_for number.value (kinds.Write c.entry) finds held made next h.spent.stored h.spent.book h.spent.rooms refl) answer h.answered);
      }
  committed (inr (inl h)) =
      let c = h.ready in
      let next = after_again h in
      record {
        found = s;
        left = t;
        turn = inl (stored_turn rising p s t room.made_for number.value (kinds.Write c.entry) finds held made next h.spent.stored h.spent.book h.spent.rooms);
        rests = stored_rests rising p s t room.made_for number.value (kinds.Write c.entry) finds held made next h.spent.stored h.spent.book h.spent.rooms;
        answered = inr (inl
            (stored_by judging s s t p.own program strict by r c number.value h.is_ready next (past_log s.log s.pending number.value may) (omega (arith, h.is_ready.made.held.base, h.above)) refl
            (at_number s t number.value (kinds.Write c.entry) h.spent.book) (elsewhere s t number.value (kinds.Write c.entry) h.spent.book)
            (after_turn p (board_of s) (board_of t)).own (stored_own rising p s t room.made_for number.value (kinds.Write c.entry) finds held made next h.spent.stored h.spent.book h.spent.rooms refl) answer h.answered));
      }
  committed (inr (inr h)) =
      let next = after_down h in
      record {
        found = s;
        left = t;
        turn = inl (stored_turn rising p s t room.made_for number.value kinds.Unused finds held made next h.spent.stored h.spent.book h.spent.rooms);
        rests = stored_rests rising p s t room.made_for number.value kinds.Unused finds held made next h.spent.stored h.spent.book h.spent.rooms;
        answered = inr (inr (record { own = unused_own rising p s t room.made_for number.value kinds.Unused finds held made next h.spent.stored h.spent.book h.spent.rooms refl; outcome = h.judged; down = h.down }));
      }

-- ---- a fresh number, where the document was written above the one that is held

none_above : (book : Book) (n : ℕ) → IsAboveBook n book → book n ≡ None
none_above book n above = go (book n) refl
  where
    go : (o : Option Entry) → book n ≡ o → o ≡ None
    go None is = refl
    go (Some e) is = absurd (omega (arith, above n e is))

has_entry : (o : Option Entry) (doc : List ℕ) (w : Write) → written_in o doc ≡ Some w → (e : Entry) × (o ≡ Some e)
has_entry None doc w is = absurd (none-some w is)
has_entry (Some e) doc w is = (e, refl)

pub fresh_may : (s : State) (p : Known) (fresh : ℕ) → IsNew p fresh → IsAboveBook fresh (board_book (board_of s)) → MayStore s.log s.pending fresh
fresh_may s p fresh new above = (new.least, none_above (book_on s) fresh above)

-- the last write of a document stands below a fresh number
pub last_below : (s : State) (doc : List ℕ) (fresh : ℕ) → 0 < fresh → IsAboveBook fresh (board_book (board_of s)) → last_on s doc < fresh
last_below s doc fresh least above = go (cases_lt 0 (last_on s doc))
  where
    go : (0 < last_on s doc) ⊎ (last_on s doc ≤ 0) → last_on s doc < fresh
    go (inr none) = omega (arith, none, least)
    go (inl some) =
        let there = last_there (book_on s) (top_on s) doc some in
        let e = has_entry (book_on s (last_on s doc)) doc there.0 there.1 in
        above (last_on s doc) e.0 e.1

own_write : (e : Entry) (doc : List ℕ) (w : Write) → write_to e doc ≡ Some w → (e ≡ kinds.Write w) × (w.doc ≡ doc)
own_write (kinds.Write v) doc w is =
    let both = cond_some (bytes_eq v.doc doc) v w is in
    (ap (λ (x : Write). kinds.Write x) both.1, sym (ap (λ (x : Write). x.doc) both.1) ∙ same_names v.doc doc both.0)
own_write (kinds.PutUser name channels roles) doc w is = absurd (none-some w is)
own_write (kinds.PutRole name channels) doc w is = absurd (none-some w is)
own_write (kinds.DropUser name) doc w is = absurd (none-some w is)
own_write (kinds.DropRole name) doc w is = absurd (none-some w is)
own_write (kinds.Sync text marks) doc w is = absurd (none-some w is)
own_write kinds.Unused doc w is = absurd (none-some w is)

written_entry : (o : Option Entry) (doc : List ℕ) (w : Write) → written_in o doc ≡ Some w → (o ≡ Some (kinds.Write w)) × (w.doc ≡ doc)
written_entry None doc w is = absurd (none-some w is)
written_entry (Some e) doc w is = let both = own_write e doc w is in (ap (λ (x : Entry). Some x) both.0, both.1)

module _ (p : Known) (s m : State) (program : Program) (strict : Bool) (by : Option (List ℕ)) (r : Revision) (room : Room) (number : Number) (c : Ready) (fresh : ℕ)
    (finds : Finds p (board_of s)) (held : p.held ≡ number.value ∷ []) (made : p.rooms ≡ room.made_for ∷ []) (doc : room.made_for.doc ≡ Some r.doc) (bytes : bytes_of r ≤ room.made_for.bytes)
    (back : IsHandedBack s m program strict by r room number c) (new : IsNew p fresh) (top : IsAboveBook fresh (board_book (board_of s))) where
  abbrev pub n : ℕ
  n = number.value

  mine_held : 0 < times n p.held
  mine_held = subst (λ (ns : List ℕ). 0 < times n ns) (sym held) (times_one n)

  may_here : MayStore s.log s.pending n
  may_here = may_store p s n finds mine_held

  pub spent_may : MayStore m.log m.pending n
  spent_may = may_still s m n back.same may_here

  pub fresh_there : MayStore m.log m.pending fresh
  fresh_there = may_still s m fresh back.same (fresh_may s p fresh new top)

  pub apart : n ≢ fresh
  apart e = omega (arith, e, new.held n mine_held)

  pub out_there : is_outstanding m.rooms room.made_for ≡ true
  out_there = subst (λ (rs : List RoomFor). is_outstanding rs room.made_for ≡ true) (sym back.same.rooms) (room_out p s room.made_for finds made)

  pub fits_there : FitsReady room.made_for c
  fits_there = fits_ready s program by r room.made_for c back.is_ready.made doc bytes

  pub ready_there : IsHeldReady m c
  ready_there = held_still s m c back.same back.is_ready.made.held

  pub base_below : c.base < fresh
  base_below = omega (arith, back.is_ready.made.held.base, last_below s c.entry.doc fresh new.least top)

  book_same : book_on m ≡ book_on s
  book_same = λ i. book_with (back.same.log i) (back.same.pending i)

  module _ (leaving : Leaving) (judging : Judging) (rising : Rising) (t : State) (history : history_on t ≡ swapped_to m n fresh (kinds.Write c.entry)) (book : book_on t ≡ with_entry fresh (kinds.Write c.entry) (with_entry n kinds.Unused (book_on m))) (rooms : t.rooms ≡ without_room room.made_for m.rooms) (checkpoints : t.checkpoints ≡ m.checkpoints) where
    next : After (board_of s) (board_of t)
    next = subst (λ (b : BoardState). After b (board_of t)) (same_board s m back.same)
        (leaving.swap m t room.made_for n fresh (candidate.Write c.entry c.tree c.base) spent_may fresh_there apart out_there (record { doc = fits_there.doc; bytes = fits_there.bytes })
        (may_again m c fresh ready_there fresh_there base_below) (fresh_on c.base (last_on m c.entry.doc) ready_there.base) ready_there.entries history book rooms checkpoints)

    at : (k : ℕ) → board_book (board_of t) k ≡ (if nat_eq fresh k then Some (kinds.Write c.entry) else (if nat_eq n k then Some kinds.Unused else board_book (board_of s) k))
    at k = ap (λ (b : Book). b k) book ∙ ap (λ (b : Book). if nat_eq fresh k then Some (kinds.Write c.entry) else (if nat_eq n k then Some kinds.Unused else b k)) book_same

    there : board_book (board_of t) fresh ≡ Some (kinds.Write c.entry)
    there = at fresh ∙ ap (λ (b : Bool). if b then Some (kinds.Write c.entry) else (if nat_eq n fresh then Some kinds.Unused else board_book (board_of s) fresh)) (eq-eqb fresh fresh refl)

    past_fresh : (k : ℕ) → fresh ≢ k → board_book (board_of t) k ≡ (if nat_eq n k then Some kinds.Unused else board_book (board_of s) k)
    past_fresh k ne = at k ∙ ap (λ (b : Bool). if b then Some (kinds.Write c.entry) else (if nat_eq n k then Some kinds.Unused else board_book (board_of s) k)) (ne_eqb fresh k ne)

    given_up : board_book (board_of t) n ≡ Some kinds.Unused
    given_up = past_fresh n (λ e. apart (sym e)) ∙ ap (λ (b : Bool). if b then Some kinds.Unused else board_book (board_of s) n) (eq-eqb n n refl)

    untouched : (k : ℕ) → fresh ≢ k → n ≢ k → board_book (board_of t) k ≡ board_book (board_of s) k
    untouched k ne other = past_fresh k ne ∙ ap (λ (b : Bool). if b then Some kinds.Unused else board_book (board_of s) k) (ne_eqb n k other)

    others : (k : ℕ) → k < fresh → (board_book (board_of t) k ≡ board_book (board_of s) k) ⊎ (board_book (board_of t) k ≡ Some kinds.Unused)
    others k less = go (cases_eq n k)
      where
        go : (n ≡ k) ⊎ (n ≢ k) → (board_book (board_of t) k ≡ board_book (board_of s) k) ⊎ (board_book (board_of t) k ≡ Some kinds.Unused)
        go (inl same) = inr (ap (λ (j : ℕ). board_book (board_of t) j) (sym same) ∙ given_up)
        go (inr ne) = inl (untouched k (λ e. omega (arith, e, less)) ne)

    all_held : (drawn_in_turn p fresh).held ≡ fresh ∷ n ∷ []
    all_held = ap (λ (ns : List ℕ). fresh ∷ ns) held

    is_held : (k : ℕ) → (fresh ≡ k) ⊎ (n ≡ k) → 0 < times k (fresh ∷ n ∷ [])
    is_held k (inl e) = subst (λ (b : Bool). 0 < (if b then 1 else 0) + times k (n ∷ [])) (sym (eq-eqb fresh k e)) (omega arith)
    is_held k (inr e) = subst (λ (b : Bool). 0 < (if nat_eq fresh k then 1 else 0) + ((if b then 1 else 0) + 0)) (sym (eq-eqb n k e)) (omega arith)

    new_there : (k : ℕ) (x : Entry) → board_book (board_of t) k ≡ Some x → board_book (board_of s) k ≡ None → (fresh ≡ k) ⊎ (n ≡ k)
    new_there k x is none = go (cases_eq fresh k) (cases_eq n k)
      where
        go : (fresh ≡ k) ⊎ (fresh ≢ k) → (n ≡ k) ⊎ (n ≢ k) → (fresh ≡ k) ⊎ (n ≡ k)
        go (inl e) other = inl e
        go (inr ne) (inl e) = inr e
        go (inr ne) (inr other) = absurd (none-some x (sym none ∙ sym (untouched k ne other) ∙ is))

    rooms_here : t.rooms ≡ without_room room.made_for s.rooms
    rooms_here = rooms ∙ ap (λ (rs : List RoomFor). without_room room.made_for rs) back.same.rooms

    out_here : is_outstanding s.rooms room.made_for ≡ true
    out_here = room_out p s room.made_for finds made

    history_here : history_on t ≡ swapped_to s n fresh (kinds.Write c.entry)
    history_here = history ∙ (λ i. release (back.same.log i) (put_waiting (record { number = fresh; entry = kinds.Write c.entry }) (put_waiting (record { number = n; entry = kinds.Unused }) (back.same.pending i))))

    between_may : MayStore s.log (put_waiting (record { number = n; entry = kinds.Unused }) s.pending) fresh
    between_may = (
      new.least,
      rising.book s.log s.pending n kinds.Unused fresh may_here
          ∙ ap (λ (b : Bool). if b then Some kinds.Unused else book_with s.log s.pending fresh) (ne_eqb n fresh apart) ∙ none_above (book_on s) fresh top,
    )

    pub may_leave_swapped : MayLeave (drawn_in_turn p fresh) (board_of s) (board_of t)
    may_leave_swapped = record {
      after = next;
      stored = λ k x is none. subst (λ (ns : List ℕ). 0 < times k ns) (sym all_held) (is_held k (new_there k x is none));
      rooms = λ q. omega (arith, ap (λ (rs : List RoomFor). room_times q rs) rooms_here, ap (λ (rs : List RoomFor). room_times q rs) made, times_less room.made_for q s.rooms (times_outstanding room.made_for s.rooms out_here));
      waiting = subst (λ (h : Released). IsTrue (rises_from (length h.log + 1) h.pending)) (sym history_here)
          (rising.released s.log (put_waiting (record { number = fresh; entry = kinds.Write c.entry }) (put_waiting (record { number = n; entry = kinds.Unused }) s.pending))
          (rising.rises s.log (put_waiting (record { number = n; entry = kinds.Unused }) s.pending) fresh (kinds.Write c.entry) between_may
          (rising.rises s.log s.pending n kinds.Unused may_here (weaker (length s.log) s.pending finds.waiting))));
    }

    own_is : (after_turn (drawn_in_turn p fresh) (board_of s) (board_of t)).own ≡ record { number = fresh; entry = kinds.Write c.entry } ∷ p.own
    own_is =
        ap (λ (ns : List ℕ). own_at (board_book (board_of t)) ns ++ p.own) all_held
        ∙ ap (λ (o : Option Entry). before_if_used o fresh (before_if_used (board_book (board_of t) n) n []) ++ p.own) there
        ∙ ap (λ (o : Option Entry). record { number = fresh; entry = kinds.Write c.entry } ∷ (before_if_used o n [] ++ p.own)) given_up

    rests_now : Rests (after_turn (drawn_in_turn p fresh) (board_of s) (board_of t))
    rests_now = record {
      held = ap (λ (ns : List ℕ). still_held (board_book (board_of t)) ns) all_held
          ∙ ap (λ (o : Option Entry). before_if_none o fresh (before_if_none (board_book (board_of t) n) n [])) there
          ∙ ap (λ (o : Option Entry). before_if_none o n []) given_up;
      rooms = ap (λ (rs : List RoomFor). without_rooms s.rooms (t.rooms ++ rs)) made ∙ ap (λ (rs : List RoomFor). without_rooms s.rooms (rs ++ room.made_for ∷ [])) rooms_here ∙ put_back room.made_for s.rooms out_here;
    }

    base_is : c.base ≡ last_on s c.entry.doc
    base_is = back.is_ready.made.held.base

    overtaken : IsOvertaken (board_of s) (board_of t) r.doc
    overtaken =
        let found = last_there (book_on s) (top_on s) c.entry.doc (omega (arith, base_is, back.above, may_here.0)) in
        let entry = written_entry (book_on s (last_on s c.entry.doc)) c.entry.doc found.0 found.1 in
        record {
          number = n;
          free = may_here.1;
          given_up = given_up;
          last = last_on s c.entry.doc;
          above = lower (cases_eq n (last_on s c.entry.doc)) entry.0;
          write = found.0;
          written = entry.0;
          same = entry.1 ∙ back.is_ready.made.is_write.doc;
        }
      where
        lower : {w : Write} → (n ≡ last_on s c.entry.doc) ⊎ (n ≢ last_on s c.entry.doc) → book_on s (last_on s c.entry.doc) ≡ Some (kinds.Write w) → n < last_on s c.entry.doc
        lower (inl e) is = absurd (none-some _ (sym (ap (λ (k : ℕ). book_on s k) (sym e) ∙ may_here.1) ∙ is))
        lower (inr ne) is = omega (arith, ne, base_is, back.above)

    pub committed_fresh : (answer : Outcome) → answer ≡ outcome.Stored fresh c.entry.at → (judged : State) → IsCommitted p (after_turn (drawn_in_turn p fresh) (board_of s) (board_of t)) judged program strict by r answer
    committed_fresh answer is judged = record {
      found = s;
      left = t;
      turn = inr (fresh, record { read = refl; later = finds.read; next = next; least = finds.lowest_front; lowest = refl; left_is = refl; made = refl; in_turns = refl }, overtaken);
      rests = rests_now;
      answered = inr (inl
          (stored_by judging s s t p.own program strict by r c fresh back.is_ready next (past_log s.log s.pending fresh (fresh_may s p fresh new top)) (last_below s c.entry.doc fresh new.least top) refl there others
          (after_turn (drawn_in_turn p fresh) (board_of s) (board_of t)).own own_is answer is));
    }

-- the same, of a turn in which the write was handed back
module _ (p : Known) (f : BoardState) (m : State) (program : Program) (strict : Bool) (by : Option (List ℕ)) (r : Revision) (room : Room) (number : Number) (c : Ready) (fresh : ℕ)
    (at : IsOvertakenAt p f m program strict by r room number c) (new : IsNew p fresh) (above : IsAboveBook fresh (board_book f)) where
  top : IsAboveBook fresh (board_book (board_of at.s))
  top = subst (λ (b : BoardState). IsAboveBook fresh (board_book b)) at.here above

  pub spent_at : MayStore m.log m.pending number.value
  spent_at = spent_may p at.s m program strict by r room number c fresh at.finds at.held at.made at.doc at.bytes at.back new top

  pub fresh_at : MayStore m.log m.pending fresh
  fresh_at = fresh_there p at.s m program strict by r room number c fresh at.finds at.held at.made at.doc at.bytes at.back new top

  pub apart_at : number.value ≢ fresh
  apart_at = apart p at.s m program strict by r room number c fresh at.finds at.held at.made at.doc at.bytes at.back new top

  pub out_at : is_outstanding m.rooms room.made_for ≡ true
  out_at = out_there p at.s m program strict by r room number c fresh at.finds at.held at.made at.doc at.bytes at.back new top

  pub fits_at : FitsReady room.made_for c
  fits_at = fits_there p at.s m program strict by r room number c fresh at.finds at.held at.made at.doc at.bytes at.back new top

  pub ready_at : IsHeldReady m c
  ready_at = ready_there p at.s m program strict by r room number c fresh at.finds at.held at.made at.doc at.bytes at.back new top

  pub base_at : c.base < fresh
  base_at = base_below p at.s m program strict by r room number c fresh at.finds at.held at.made at.doc at.bytes at.back new top

  module _ (leaving : Leaving) (judging : Judging) (rising : Rising) (t : State) (history : history_on t ≡ swapped_to m number.value fresh (kinds.Write c.entry))
      (book : book_on t ≡ with_entry fresh (kinds.Write c.entry) (with_entry number.value kinds.Unused (book_on m))) (rooms : t.rooms ≡ without_room room.made_for m.rooms) (checkpoints : t.checkpoints ≡ m.checkpoints) where
    pub may_leave_at : MayLeave (drawn_in_turn p fresh) f (board_of t)
    may_leave_at =
        subst (λ (b : BoardState). MayLeave (drawn_in_turn p fresh) b (board_of t)) (sym at.here)
        (may_leave_swapped p at.s m program strict by r room number c fresh at.finds at.held at.made at.doc at.bytes at.back new top leaving judging rising t history book rooms checkpoints)

    pub committed_at : (answer : Outcome) → answer ≡ outcome.Stored fresh c.entry.at → (judged : State) → IsCommitted p (after_turn (drawn_in_turn p fresh) f (board_of t)) judged program strict by r answer
    committed_at answer is judged =
        subst (λ (b : BoardState). IsCommitted p (after_turn (drawn_in_turn p fresh) b (board_of t)) judged program strict by r answer) (sym at.here)
        (committed_fresh p at.s m program strict by r room number c fresh at.finds at.held at.made at.doc at.bytes at.back new top leaving judging rising t history book rooms checkpoints answer is judged)

-- what was handed back, by its own names
pub overtaken_at : (p : Known) (f : BoardState) (s m : State) (program : Program) (strict : Bool) (by : Option (List ℕ)) (r : Revision) (room given : Room) (number kept : Number) (c : Ready)
    → f ≡ board_of s → Finds p (board_of s) → p.held ≡ number.value ∷ [] → p.rooms ≡ room.made_for ∷ [] → room.made_for.doc ≡ Some r.doc → bytes_of r ≤ room.made_for.bytes
    → (given ≡ room) × (kept ≡ number) × IsHandedBack s m program strict by r room number c → IsOvertakenAt p f m program strict by r given kept c
overtaken_at p f s m program strict by r room given number kept c here finds held made doc bytes (same_room, same_number, back) =
    subst (λ (x : Room). IsOvertakenAt p f m program strict by r x kept c) (sym same_room)
    (subst (λ (x : Number). IsOvertakenAt p f m program strict by r room x c) (sym same_number)
    (record { s = s; here = here; finds = finds; held = held; made = made; doc = doc; bytes = bytes; back = back }))
