-- numbers at which an entry may be stored, and rooms that are alike
use Rattle.std.proofs.Common.{◌≡◌, ◌≤◌, ◌∙◌, ℕ, zero, suc, Bool, true, false, List, [], ◌∷◌, ◌++◌, Option, Some, None, refl, sym, ap, subst, arith, nat_eq, if◌then◌else◌}
use Rattle.std.proofs.lemmas.Bool.{and_parts, and_from, eqb-true, eq-eqb, ne_eqb}
use Rattle.sg_history.specs.declared.book.Waiting.{Waiting}
use Rattle.sg_history.specs.declared.entries.Entry.{Entry}
use Rattle.sg_history.specs.declared.room.RoomFor.{RoomFor}
use Rattle.sg_history.specs.Book.{Book}
use Rattle.pending_front.specs.Storing.{MayStore}
use Rattle.sg_history.specs.Rooms.{same_doc, same_room, without_room}
use Rattle.doc_board.specs.State.{State, book_on}
use Rattle.doc_board.specs.Steps.{with_entry}
use Rattle.tests_of_boards.specs.inner.Frees.{AreAlike, Stays, StaysBelow}

-- at a new board each number is free
pub none_yet : (log : List Entry) (pending : List Waiting) → log ≡ [] → pending ≡ [] → (number : ℕ) → 1 ≤ number → MayStore log pending number
none_yet log pending empty idle number from =
    subst (λ (es : List Entry). MayStore es pending number) (sym empty) (subst (λ (ws : List Waiting). MayStore [] ws number) (sym idle) (go number from))
  where
    go : (number : ℕ) → 1 ≤ number → MayStore [] [] number
    go zero from = absurd (omega (arith, from))
    go (suc place) from = (from, refl)

-- the same log, and the same that waits
pub as_free : (s t : State) → t.log ≡ s.log → t.pending ≡ s.pending → (number : ℕ) → MayStore s.log s.pending number → MayStore t.log t.pending number
as_free s t log pending number may =
    subst (λ (es : List Entry). MayStore es t.pending number) (sym log) (subst (λ (ws : List Waiting). MayStore s.log ws number) (sym pending) may)

stays : (s t : State) (number : ℕ) (e : Entry) → book_on t ≡ with_entry number e (book_on s) → Stays s t number
stays s t number e is other ne may =
    (may.0, ap (λ (b : Book). b other) is ∙ ap (λ (b : Bool). if b then Some e else book_on s other) (ne_eqb number other ne) ∙ may.1)

-- an entry is stored at a number in a room that was made for it
pub stays_by : (s between t : State) (number at : ℕ) (e : Entry) → between.log ≡ s.log → between.pending ≡ s.pending → at ≡ number → book_on t ≡ with_entry at e (book_on between) → Stays s t number
stays_by s between t number at e log pending same is =
    subst (λ (n : ℕ). Stays s t n) same (λ other ne may. stays between t at e is other ne (as_free s between log pending other may))

pub stays_below : (s t : State) (number : ℕ) → Stays s t number → StaysBelow s t number
stays_below s t number stay other less = stay other (λ e. absurd (omega (arith, e, less)))

-- ---- rooms

same_itself : (doc : Option (List ℕ)) → doc ≡ None → same_doc doc doc ≡ true
same_itself doc none = subst (λ (d : Option (List ℕ)). same_doc d d ≡ true) (sym none) refl

room_itself : (room : RoomFor) → room.doc ≡ None → same_room room room ≡ true
room_itself room none = and_from (same_doc room.doc room.doc) (nat_eq room.bytes room.bytes) (same_itself room.doc none) (eq-eqb room.bytes room.bytes refl)

-- rooms for no document that are the same
one_room : (a b : RoomFor) → a.doc ≡ None → b.doc ≡ None → same_room a b ≡ true → a ≡ b
one_room a b none also same =
    let doc : a.doc ≡ b.doc = none ∙ sym also in
    let bytes : a.bytes ≡ b.bytes = eqb-true a.bytes b.bytes (and_parts (same_doc a.doc b.doc) (nat_eq a.bytes b.bytes) same).1 in
    λ i. record { doc = doc i; bytes = bytes i }

turned : (room : RoomFor) (rooms : List RoomFor) → AreAlike room rooms → rooms ++ room ∷ [] ≡ room ∷ rooms
turned room [] all = refl
turned room (first ∷ others) all =
    ap (λ (rs : List RoomFor). first ∷ rs) (turned room others all.1) ∙ ap (λ (r : RoomFor). r ∷ room ∷ others) all.0
    ∙ ap (λ (r : RoomFor). room ∷ r ∷ others) (sym all.0)

one_gone : (b : Bool) (room first last : RoomFor) (others : List RoomFor) → same_room first last ≡ b → room.doc ≡ None → last.doc ≡ None → AreAlike room (first ∷ others) → without_room last (others ++ last ∷ []) ≡ others
    → without_room last (first ∷ (others ++ last ∷ [])) ≡ first ∷ others
one_gone true room first last others is none also all rest =
    let one : first ≡ last = one_room first last (ap (λ (r : RoomFor). r.doc) all.0 ∙ none) also is in
    let alike : AreAlike last others = subst (λ (r : RoomFor). AreAlike r others) (sym all.0 ∙ one) all.1 in
    ap (λ (b : Bool). if b then others ++ last ∷ [] else first ∷ without_room last (others ++ last ∷ [])) is
    ∙ turned last others alike ∙ ap (λ (r : RoomFor). r ∷ others) (sym one)
one_gone false room first last others is none also all rest =
    ap (λ (b : Bool). if b then others ++ last ∷ [] else first ∷ without_room last (others ++ last ∷ [])) is
    ∙ ap (λ (rs : List RoomFor). first ∷ rs) rest

-- a room that is made and then ends leaves rooms that are alike as they were
gone_again : (room last : RoomFor) (rooms : List RoomFor) → room.doc ≡ None → last.doc ≡ None → AreAlike room rooms → without_room last (rooms ++ last ∷ []) ≡ rooms
gone_again room last [] none also all = ap (λ (b : Bool). if b then [] else last ∷ []) (room_itself last also)
gone_again room last (first ∷ others) none also all =
    one_gone (same_room first last) room first last others refl none also all (gone_again room last others none also all.1)

pub left_again : (room made last : RoomFor) (before between after : List RoomFor) → room.doc ≡ None → last.doc ≡ None → made ≡ last → between ≡ before ++ last ∷ [] → after ≡ without_room made between → AreAlike room before → after ≡ before
left_again room made last before between after none also same is_between is_after all =
    is_after ∙ ap (λ (rs : List RoomFor). without_room made rs) is_between ∙ ap (λ (r : RoomFor). without_room r (before ++ last ∷ [])) same ∙ gone_again room last before none also all

pub one_more_alike : (room : RoomFor) (rooms : List RoomFor) → AreAlike room rooms → AreAlike room (rooms ++ room ∷ [])
one_more_alike room [] all = (refl, tt)
one_more_alike room (first ∷ others) all = (all.0, one_more_alike room others all.1)
