-- what a board's calls leave comes after what they found
use Rattle.std.proofs.Common.{◌≡◌, ◌≢◌, ◌≤◌, ◌<◌, ◌+◌, ◌-◌, ◌*◌, ◌∙◌, ◌⊎◌, inl, inr, ℕ, Bool, true, false, true≢false, List, [], ◌∷◌, ◌++◌, length, refl, sym, ap, subst, arith, Option, Some, None, IsTrue, is_some, nat_eq, if◌then◌else◌}
use Rattle.std.proofs.lemmas.Bool.{cases_eq, eq-eqb, ne_eqb}
use Rattle.std.proofs.lemmas.List.{length-append}
use Rattle.std.proofs.lemmas.Option.{none-some, same_Some}
use Rattle.checkpoint_store.specs.declared.answers.SetAnswer.{SetAnswer}
use Rattle.checkpoint_store.specs.Answers.{Sets}
use Rattle.sg_history.specs.declared.book.Waiting.{Waiting}
use Rattle.sg_history.specs.declared.entries.Entry.{Entry}
use Rattle.sg_history.specs.declared.entries.Entry.TheVariants.{Unused}
use Rattle.sg_history.specs.declared.entries.Write.{Write}
use Rattle.sg_history.specs.declared.room.RoomFor.{RoomFor}
use Rattle.sg_history.specs.Board.{BoardState, SideEntry, SideFollows, After, board_count, side_at}
use Rattle.sg_history.specs.Book.{Book, IsAbove, Later, tied}
use Rattle.sg_history.specs.History.{Extends, as_write}
use Rattle.sg_history.specs.Rooms.{without_room}
use Rattle.sg_history.specs.World.{Released, release, put_waiting}
use Rattle.pending_front.specs.Storing.{MayStore}
use Rattle.doc_board.specs.declared.candidate.Candidate.{Candidate}
use Rattle.doc_board.specs.declared.candidate.Candidate.TheVariants as candidate
use Rattle.doc_board.specs.Boards.{board_of, body_size, bytes_asked, bytes_stored, bytes_waiting}
use Rattle.doc_board.specs.Candidates.{Fits, MayBeStored, body_bytes, entry_of, is_stale}
use Rattle.doc_board.specs.Lawful.{AreEntries}
use Rattle.doc_board.specs.Rooms.{is_outstanding}
use Rattle.doc_board.specs.State.{State, book_on}
use Rattle.doc_board.specs.Steps.{history_on, stored_at, swapped_to, with_entry}
use Rattle.doc_board.proofs.OutstandingRooms.{one_less, asked_less, asked_more}
use Rattle.doc_board.proofs.Standing.{plain_is_above, put_length, put_bytes, released_bytes}
use Rattle.doc_board.proofs.WorldSteps.{candidate_above}

abbrev pub Again : Type 0
Again = (a b c : Book) → Later a b → Later b c → Later a c

-- ---- a book with an entry more

later_with : (book wide : Book) (number : ℕ) (e : Entry) → book number ≡ None → wide ≡ with_entry number e book → IsAbove book number e → Later book wide
later_with book wide number e free is above =
    subst (λ (b : Book). Later book b) (sym is)
    (record {
      kept = λ n x at. ap (λ (b : Bool). if b then Some e else book n) (ne_eqb number n (λ same. none-some x (sym free ∙ ap book same ∙ at))) ∙ at;
      above = λ new x none stands old other there tie. go new x none stands old other there tie (cases_eq number new);
    })
  where
    go : (new : ℕ) (x : Entry) → book new ≡ None → with_entry number e book new ≡ Some x → (old : ℕ) (other : Entry) → book old ≡ Some other → IsTrue (tied other x)
        → (number ≡ new) ⊎ (number ≢ new) → old < new
    go new x none stands old other there tie (inl same) =
        let here : e ≡ x = same_Some e x (sym (ap (λ (b : Bool). if b then Some e else book new) (eq-eqb number new same)) ∙ stands) in
        subst (λ (n : ℕ). old < n) same (above old other there (subst (λ (y : Entry). IsTrue (tied other y)) (sym here) tie))
    go new x none stands old other there tie (inr ne) =
        absurd (none-some x (sym none ∙ sym (ap (λ (b : Bool). if b then Some e else book new) (ne_eqb number new ne)) ∙ stands))

-- ---- a log that waiting entries were moved to

append_again : (log more others : List Entry) → (log ++ more) ++ others ≡ log ++ (more ++ others)
append_again [] more others = refl
append_again (e ∷ log) more others = ap (λ (es : List Entry). e ∷ es) (append_again log more others)

append_none : (log : List Entry) → log ≡ log ++ []
append_none [] = refl
append_none (e ∷ log) = ap (λ (es : List Entry). e ∷ es) (append_none log)

release_extends : (log : List Entry) (ws : List Waiting) → Extends log (release log ws).log
release_extends log [] = ([], append_none log)
release_extends log (f ∷ fs) = go (nat_eq f.number (length log + 1)) (release_extends (log ++ f.entry ∷ []) fs)
  where
    go : (b : Bool) → Extends (log ++ f.entry ∷ []) (release (log ++ f.entry ∷ []) fs).log
        → Extends log (if b then release (log ++ f.entry ∷ []) fs else record { log = log; pending = f ∷ fs }).log
    go true rest = (f.entry ∷ rest.0, rest.1 ∙ append_again log (f.entry ∷ []) rest.0)
    go false rest = ([], append_none log)

release_count : (log : List Entry) (ws : List Waiting) → length (release log ws).log + length (release log ws).pending ≡ length log + length ws
release_count log [] = refl
release_count log (f ∷ fs) = go (nat_eq f.number (length log + 1)) (release_count (log ++ f.entry ∷ []) fs)
  where
    go : (b : Bool) → length (release (log ++ f.entry ∷ []) fs).log + length (release (log ++ f.entry ∷ []) fs).pending ≡ length (log ++ f.entry ∷ []) + length fs
        → length (if b then release (log ++ f.entry ∷ []) fs else record { log = log; pending = f ∷ fs }).log
        + length (if b then release (log ++ f.entry ∷ []) fs else record { log = log; pending = f ∷ fs }).pending ≡ length log + length (f ∷ fs)
    go true rest = omega (arith, rest, length-append log (f.entry ∷ []))
    go false rest = refl

-- the same side map follows
same_side : (earlier later : List SideEntry) → later ≡ earlier → SideFollows earlier later
same_side earlier later same =
    λ text old h. (old, ap (λ (side : List SideEntry). side_at side text) same ∙ h, record { number = omega arith; bytes = λ e. refl })

-- ---- boards

-- more entries wait, in place of a room that ends, whose bytes are at least theirs; and those that come next are moved to the log
in_place : (s t : State) (room : RoomFor) (ws : List Waiting) (size more : ℕ) → Later (book_on s) (book_on t) → history_on t ≡ release s.log ws
    → length ws ≡ length s.pending + more → 1 ≤ more → bytes_waiting ws ≡ size + bytes_waiting s.pending → size ≤ room.bytes
    → is_outstanding s.rooms room ≡ true → t.rooms ≡ without_room room s.rooms → t.checkpoints ≡ s.checkpoints → After (board_of s) (board_of t)
in_place s t room ws size more book is long least bytes small out rooms checkpoints =
    record {
      limit = refl;
      book = book;
      log = subst (λ (es : List Entry). Extends s.log es) (sym (ap (λ (r : Released). r.log) is)) (release_extends s.log ws);
      count = omega (arith, count, less, long, least, rooms_long);
      bytes = omega (arith, stored, bytes, small, asked, rooms_asked);
      side = same_side s.checkpoints t.checkpoints checkpoints;
      faults = omega arith;
    }
  where
    count : length t.log + length t.pending ≡ length s.log + length ws
    count = ap (λ (r : Released). length r.log + length r.pending) is ∙ release_count s.log ws

    stored : bytes_stored t.log + bytes_waiting t.pending ≡ bytes_stored s.log + bytes_waiting ws
    stored = ap (λ (r : Released). bytes_stored r.log + bytes_waiting r.pending) is ∙ released_bytes s.log ws

    less : length (without_room room s.rooms) + 1 ≡ length s.rooms
    less = one_less room s.rooms out

    asked : bytes_asked (without_room room s.rooms) + room.bytes ≡ bytes_asked s.rooms
    asked = asked_less room s.rooms out

    rooms_long : length t.rooms ≡ length (without_room room s.rooms)
    rooms_long = ap (λ (rs : List RoomFor). length rs) rooms

    rooms_asked : bytes_asked t.rooms ≡ bytes_asked (without_room room s.rooms)
    rooms_asked = ap (λ (rs : List RoomFor). bytes_asked rs) rooms

pub looked : (s t : State) → t.log ≡ s.log → t.pending ≡ s.pending → t.rooms ≡ s.rooms → t.checkpoints ≡ s.checkpoints → board_of t ≡ board_of s
looked s t log pending rooms checkpoints =
    λ i. board_of (record { log = log i; pending = pending i; rooms = rooms i; checkpoints = checkpoints i; known = 0; reads = 0 })

abbrev with_room : State → RoomFor → State
with_room s room = record { log = s.log; pending = s.pending; rooms = s.rooms ++ room ∷ []; checkpoints = s.checkpoints; known = 0; reads = 0 }

grown : (kept asked more bytes count after : ℕ) → more ≡ asked + bytes → bytes ≤ 20971520 → after ≡ count + 1 → kept + more ≤ kept + asked + 20971520 * (after - count)
grown kept asked more bytes count after a b c = omega (arith, a, b, c)

pub after_room : (s t : State) (room : RoomFor) → Later (book_on s) (book_on s) → t.log ≡ s.log → t.pending ≡ s.pending → t.rooms ≡ s.rooms ++ room ∷ [] → t.checkpoints ≡ s.checkpoints
    → room.bytes ≤ 20971520 → After (board_of s) (board_of t)
after_room s t room itself log pending rooms checkpoints small =
    let long : length (s.rooms ++ room ∷ []) ≡ length s.rooms + 1 = length-append s.rooms (room ∷ []) in
    let count : board_count (board_of (with_room s room)) ≡ board_count (board_of s) + 1 = omega (arith, long) in
    subst (λ (b : BoardState). After (board_of s) b) (sym (looked (with_room s room) t log pending rooms checkpoints))
    (record {
      limit = refl;
      book = itself;
      log = ([], append_none s.log);
      count = omega (arith, count);
      bytes = grown (bytes_stored s.log + bytes_waiting s.pending) (bytes_asked s.rooms) (bytes_asked (s.rooms ++ room ∷ [])) room.bytes (board_count (board_of s)) (board_count (board_of (with_room s room))) (asked_more room s.rooms) small count;
      side = same_side s.checkpoints s.checkpoints refl;
      faults = omega arith;
    })

abbrev with_checkpoints : State → List SideEntry → State
with_checkpoints s side = record { log = s.log; pending = s.pending; rooms = s.rooms; checkpoints = side; known = 0; reads = 0 }

pub after_set : ((before after : List SideEntry) (text : List ℕ) (rev : ℕ) (body : List ℕ) (answer : SetAnswer) → Sets before text rev body answer after → SideFollows before after)
    → (s t : State) (text : List ℕ) (rev : ℕ) (body : List ℕ) (answer : SetAnswer) → Later (book_on s) (book_on s)
    → t.log ≡ s.log → t.pending ≡ s.pending → t.rooms ≡ s.rooms → Sets s.checkpoints text rev body answer t.checkpoints → After (board_of s) (board_of t)
after_set follows s t text rev body answer itself log pending rooms sets =
    subst (λ (b : BoardState). After (board_of s) b) (sym (looked (with_checkpoints s t.checkpoints) t log pending rooms refl))
    (record {
      limit = refl;
      book = itself;
      log = ([], append_none s.log);
      count = omega arith;
      bytes = omega arith;
      side = follows s.checkpoints t.checkpoints text rev body answer sets;
      faults = omega arith;
    })

-- an entry is stored in place of a room
put_after : (s t : State) (room : RoomFor) (number : ℕ) (e : Entry) → MayStore s.log s.pending number → is_outstanding s.rooms room ≡ true
    → body_size (as_write e) ≤ room.bytes → IsAbove (book_on s) number e
    → history_on t ≡ stored_at s number e → book_on t ≡ with_entry number e (book_on s) → t.rooms ≡ without_room room s.rooms → t.checkpoints ≡ s.checkpoints → After (board_of s) (board_of t)
put_after s t room number e may out small above history book rooms checkpoints =
    let put : Waiting = record { number = number; entry = e } in
    in_place s t room (put_waiting put s.pending) (body_size (as_write e)) 1 (later_with (book_on s) (book_on t) number e may.1 book above) history
    (put_length put s.pending) (omega arith) (put_bytes put s.pending) small out rooms checkpoints

-- the same, and another number is given up
swap_after : Again → (s t : State) (room : RoomFor) (spent number : ℕ) (e : Entry) → MayStore s.log s.pending spent → MayStore s.log s.pending number → spent ≢ number → is_outstanding s.rooms room ≡ true
    → body_size (as_write e) ≤ room.bytes → IsAbove (book_on s) number e
    → history_on t ≡ swapped_to s spent number e → book_on t ≡ with_entry number e (with_entry spent Unused (book_on s)) → t.rooms ≡ without_room room s.rooms → t.checkpoints ≡ s.checkpoints → After (board_of s) (board_of t)
swap_after again s t room spent number e gone may apart out small above history book rooms checkpoints =
    let first : Waiting = record { number = spent; entry = Unused } in
    let put : Waiting = record { number = number; entry = e } in
    let between : Book = with_entry spent Unused (book_on s) in
    let free : between number ≡ None = ap (λ (b : Bool). if b then Some Unused else book_on s number) (ne_eqb spent number apart) ∙ may.1 in
    let one : Later (book_on s) between = later_with (book_on s) between spent Unused gone.1 refl (plain_is_above (book_on s) spent Unused (refl, refl)) in
    let two : Later between (book_on t) = later_with between (book_on t) number e free book still in
    in_place s t room (put_waiting put (put_waiting first s.pending)) (body_size (as_write e)) 2 (again (book_on s) between (book_on t) one two) history
    (omega (arith, put_length put (put_waiting first s.pending), put_length first s.pending)) (omega arith)
    (omega (arith, put_bytes put (put_waiting first s.pending), put_bytes first s.pending)) small out rooms checkpoints
  where
    still : IsAbove (with_entry spent Unused (book_on s)) number e
    still old other there tie = go (cases_eq spent old)
      where
        go : (spent ≡ old) ⊎ (spent ≢ old) → old < number
        go (inl same) =
            let here : Unused ≡ other = same_Some Unused other (sym (ap (λ (b : Bool). if b then Some Unused else book_on s old) (eq-eqb spent old same)) ∙ there) in
            absurd (true≢false (sym (subst (λ (x : Entry). IsTrue (tied x e)) (sym here) tie)))
        go (inr ne) = above old other (sym (ap (λ (b : Bool). if b then Some Unused else book_on s old) (ne_eqb spent old ne)) ∙ there) tie

-- ---- what the calls say

-- an entry's body has as many bytes as its candidate's
size_is : (c : Candidate) (s : State) (number : ℕ) → MayBeStored s number c → body_size (as_write (entry_of c)) ≤ body_bytes c
size_is (candidate.Write w tree base) s number may = omega arith
size_is (candidate.Plain e) s number may = none (as_write e) may.1.0
  where
    none : (o : Option Write) → is_some o ≡ false → body_size o ≤ 0
    none None h = omega arith
    none (Some w) h = absurd (true≢false h)

pub after_commit : (s t : State) (room : RoomFor) (number : ℕ) (c : Candidate) → MayStore s.log s.pending number → is_outstanding s.rooms room ≡ true → Fits room c
    → MayBeStored s number c → is_stale s c ≡ false → AreEntries (book_on s)
    → history_on t ≡ stored_at s number (entry_of c) → book_on t ≡ with_entry number (entry_of c) (book_on s) → t.rooms ≡ without_room room s.rooms → t.checkpoints ≡ s.checkpoints → After (board_of s) (board_of t)
after_commit s t room number c may out fits stored fresh entries history book rooms checkpoints =
    put_after s t room number (entry_of c) may out (omega (arith, size_is c s number stored, fits.bytes)) (candidate_above s number c entries stored fresh) history book rooms checkpoints

pub after_swap : Again → (s t : State) (room : RoomFor) (spent number : ℕ) (c : Candidate) → MayStore s.log s.pending spent → MayStore s.log s.pending number → spent ≢ number
    → is_outstanding s.rooms room ≡ true → Fits room c → MayBeStored s number c → is_stale s c ≡ false → AreEntries (book_on s)
    → history_on t ≡ swapped_to s spent number (entry_of c) → book_on t ≡ with_entry number (entry_of c) (with_entry spent Unused (book_on s)) → t.rooms ≡ without_room room s.rooms → t.checkpoints ≡ s.checkpoints
    → After (board_of s) (board_of t)
after_swap again s t room spent number c gone may apart out fits stored fresh entries history book rooms checkpoints =
    swap_after again s t room spent number (entry_of c) gone may apart out (omega (arith, size_is c s number stored, fits.bytes)) (candidate_above s number c entries stored fresh) history book rooms checkpoints

pub after_void : (s t : State) (room : RoomFor) (number : ℕ) → MayStore s.log s.pending number → is_outstanding s.rooms room ≡ true
    → history_on t ≡ stored_at s number Unused → book_on t ≡ with_entry number Unused (book_on s) → t.rooms ≡ without_room room s.rooms → t.checkpoints ≡ s.checkpoints → After (board_of s) (board_of t)
after_void s t room number may out history book rooms checkpoints =
    put_after s t room number Unused may out (omega arith) (plain_is_above (book_on s) number Unused (refl, refl)) history book rooms checkpoints
