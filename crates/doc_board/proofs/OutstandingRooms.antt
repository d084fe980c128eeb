-- rooms that are outstanding
use Rattle.std.proofs.Common.{◌≡◌, ◌≤◌, ◌+◌, ◌*◌, ℕ, Bool, true, false, ◌||◌, List, [], ◌∷◌, ◌++◌, length, Option, Some, None, refl, sym, ap, ◌∙◌, arith, if◌then◌else◌, nat_eq}
use Rattle.std.specs.Prelude.{is_some}
use mathlib.Core.Bool.{false≢true}
use Rattle.std.specs.BTreeMap.{get_by_text}
use Rattle.std.specs.List.{list_all}
use Rattle.std.specs.Str.{bytes_eq}
use Rattle.std.proofs.lemmas.Bool.{and_parts, and_from, or_left, or_right, eqb-true, eq-eqb}
use Rattle.std.proofs.lemmas.List.Folds.{list_any-append}
use Rattle.doc_board.specs.declared.document.Document.{Document}
use Rattle.sg_history.specs.declared.room.RoomFor.{RoomFor}
use Rattle.sg_history.specs.Rooms.{same_doc, same_room, without_room}
use Rattle.doc_board.specs.Boards.{bytes_asked}
use Rattle.doc_board.specs.Kept.{has_place, or_blank, placed}
use Rattle.doc_board.specs.Rooms.{AreSmall, is_outstanding}
use Rattle.std.proofs.lemmas.Slice.Eq.{bytes_eq-Decides}
use Rattle.doc_board.proofs.Documents.{Documents, same_names}

text_itself : (a : List ℕ) → bytes_eq a a ≡ true
text_itself a = (bytes_eq-Decides a a).1 refl

-- ---- a room less

kept_one : (b : Bool) (p : RoomFor → Bool) (r : RoomFor) (rooms others : List RoomFor) → p r ≡ true → list_all p rooms ≡ true → list_all p others ≡ true → list_all p (if b then rooms else r ∷ others) ≡ true
kept_one true p r rooms others first all rest = all
kept_one false p r rooms others first all rest = and_from (p r) (list_all p others) first rest

-- of these rooms all have what all had
pub all_without : (p : RoomFor → Bool) (room : RoomFor) (rooms : List RoomFor) → list_all p rooms ≡ true → list_all p (without_room room rooms) ≡ true
all_without p room [] h = refl
all_without p room (r ∷ rooms) h =
    let parts = and_parts (p r) (list_all p rooms) h in
    kept_one (same_room r room) p r rooms (without_room room rooms) parts.0 parts.1 (all_without p room rooms parts.1)

less_one : (b : Bool) (out : Bool) (r : RoomFor) (rooms others : List RoomFor) → (b || out) ≡ true → (out ≡ true → length others + 1 ≡ length rooms) → length (if b then rooms else r ∷ others) + 1 ≡ length (r ∷ rooms)
less_one true out r rooms others h rest = omega arith
less_one false out r rooms others h rest = omega (arith, rest h)

-- there is one less
pub one_less : (room : RoomFor) (rooms : List RoomFor) → is_outstanding rooms room ≡ true → length (without_room room rooms) + 1 ≡ length rooms
one_less room [] h = absurd (false≢true h)
one_less room (r ∷ rooms) h = less_one (same_room r room) (is_outstanding rooms room) r rooms (without_room room rooms) h (one_less room rooms)

bytes_less : (b : Bool) (out : Bool) (r room : RoomFor) (rooms others : List RoomFor) → (b ≡ true → r.bytes ≡ room.bytes) → (b || out) ≡ true → (out ≡ true → bytes_asked others + room.bytes ≡ bytes_asked rooms)
    → bytes_asked (if b then rooms else r ∷ others) + room.bytes ≡ bytes_asked (r ∷ rooms)
bytes_less true out r room rooms others same h rest = omega (arith, same refl)
bytes_less false out r room rooms others same h rest = omega (arith, rest h)

-- there are as many bytes less as the room was made for
pub asked_less : (room : RoomFor) (rooms : List RoomFor) → is_outstanding rooms room ≡ true → bytes_asked (without_room room rooms) + room.bytes ≡ bytes_asked rooms
asked_less room [] h = absurd (false≢true h)
asked_less room (r ∷ rooms) h =
    bytes_less (same_room r room) (is_outstanding rooms room) r room rooms (without_room room rooms) (λ e. eqb-true r.bytes room.bytes (and_parts (same_doc r.doc room.doc) (nat_eq r.bytes room.bytes) e).1) h (asked_less room rooms)

pub asked_more : (room : RoomFor) (rooms : List RoomFor) → bytes_asked (rooms ++ room ∷ []) ≡ bytes_asked rooms + room.bytes
asked_more room [] = omega arith
asked_more room (r ∷ rooms) = omega (arith, asked_more room rooms)

-- ---- rooms for at most so many bytes as a body may have

pub small_sum : (rooms : List RoomFor) → AreSmall rooms → bytes_asked rooms ≤ 20971520 * length rooms
small_sum [] small = omega arith
small_sum (r ∷ rooms) small = omega (arith, small.0, small_sum rooms small.1)

pub small_more : (room : RoomFor) (rooms : List RoomFor) → room.bytes ≤ 20971520 → AreSmall rooms → AreSmall (rooms ++ room ∷ [])
small_more room [] here small = (here, tt)
small_more room (r ∷ rooms) here small = (small.0, small_more room rooms here small.1)

pub small_without : (room : RoomFor) (rooms : List RoomFor) → AreSmall rooms → AreSmall (without_room room rooms)
small_without room [] small = tt
small_without room (r ∷ rooms) small = go (same_room r room) (small_without room rooms small.1)
  where
    go : (b : Bool) → AreSmall (without_room room rooms) → AreSmall (if b then rooms else r ∷ without_room room rooms)
    go true rest = small.1
    go false rest = (small.0, rest)

-- ---- places of documents

same_place : (documents : Documents) (a b : Option (List ℕ)) → same_doc a b ≡ true → has_place documents a ≡ true → has_place documents b ≡ true
same_place documents None None e h = refl
same_place documents None (Some b) e h = absurd (false≢true e)
same_place documents (Some a) None e h = refl
same_place documents (Some a) (Some b) e h = sym (ap (λ (d : List ℕ). is_some (get_by_text documents d)) (same_names a b e)) ∙ h

of_one : (documents : Documents) (r room : RoomFor) (b : Bool) (out : Bool) → same_room r room ≡ b → (b || out) ≡ true → has_place documents r.doc ≡ true → (out ≡ true → has_place documents room.doc ≡ true) → has_place documents room.doc ≡ true
of_one documents r room true out e h here rest = same_place documents r.doc room.doc (and_parts (same_doc r.doc room.doc) (nat_eq r.bytes room.bytes) e).0 here
of_one documents r room false out e h here rest = rest h

-- a room that is outstanding has the place of its document
pub outstanding_has_place : (documents : Documents) (room : RoomFor) (rooms : List RoomFor) → list_all (λ r. has_place documents r.doc) rooms ≡ true → is_outstanding rooms room ≡ true → has_place documents room.doc ≡ true
outstanding_has_place documents room [] all h = absurd (false≢true h)
outstanding_has_place documents room (r ∷ rooms) all h =
    let parts = and_parts (has_place documents r.doc) (list_all (λ x. has_place documents x.doc) rooms) all in
    of_one documents r room (same_room r room) (is_outstanding rooms room) refl h parts.0 (outstanding_has_place documents room rooms parts.1)

-- a place that was there stays where one is set
place_stays : (before after : Documents) (doc : List ℕ) (d : Document) → ((name : List ℕ) → get_by_text after name ≡ (if bytes_eq doc name then Some d else get_by_text before name)) → (o : Option (List ℕ)) → has_place before o ≡ true → has_place after o ≡ true
place_stays before after doc d set None h = refl
place_stays before after doc d set (Some name) h = ap (λ (o : Option Document). is_some o) (set name) ∙ go (bytes_eq doc name)
  where
    go : (b : Bool) → is_some (if b then Some d else get_by_text before name) ≡ true
    go true = refl
    go false = h

pub places_stay : (before after : Documents) (doc : List ℕ) (d : Document) → ((name : List ℕ) → get_by_text after name ≡ (if bytes_eq doc name then Some d else get_by_text before name)) → (rooms : List RoomFor) → list_all (λ r. has_place before r.doc) rooms ≡ true → list_all (λ r. has_place after r.doc) rooms ≡ true
places_stay before after doc d set [] h = refl
places_stay before after doc d set (r ∷ rooms) h =
    let parts = and_parts (has_place before r.doc) (list_all (λ x. has_place before x.doc) rooms) h in
    and_from (has_place after r.doc) _ (place_stays before after doc d set r.doc parts.0) (places_stay before after doc d set rooms parts.1)

-- the place that is set is there
pub place_set : (before after : Documents) (doc : List ℕ) (d : Document) → ((name : List ℕ) → get_by_text after name ≡ (if bytes_eq doc name then Some d else get_by_text before name)) → has_place after (Some doc) ≡ true
place_set before after doc d set = ap (λ (o : Option Document). is_some o) (set doc) ∙ ap (λ (b : Bool). is_some (if b then Some d else get_by_text before doc)) (text_itself doc)

same_places : (before after : Documents) → ((name : List ℕ) → get_by_text after name ≡ get_by_text before name) → (o : Option (List ℕ)) → has_place before o ≡ true → has_place after o ≡ true
same_places before after same None h = refl
same_places before after same (Some name) h = ap (λ (o : Option Document). is_some o) (same name) ∙ h

pub all_same : (before after : Documents) → ((name : List ℕ) → get_by_text after name ≡ get_by_text before name) → (rooms : List RoomFor) → list_all (λ r. has_place before r.doc) rooms ≡ true → list_all (λ r. has_place after r.doc) rooms ≡ true
all_same before after same [] h = refl
all_same before after same (r ∷ rooms) h =
    let parts = and_parts (has_place before r.doc) (list_all (λ x. has_place before x.doc) rooms) h in
    and_from (has_place after r.doc) _ (same_places before after same r.doc parts.0) (all_same before after same rooms parts.1)

-- places stay where one is made
pub all_placed : (before after : Documents) (doc : Option (List ℕ)) → ((name : List ℕ) → get_by_text after name ≡ placed doc before name) → (rooms : List RoomFor) → list_all (λ r. has_place before r.doc) rooms ≡ true → list_all (λ r. has_place after r.doc) rooms ≡ true
all_placed before after None made rooms h = all_same before after made rooms h
all_placed before after (Some doc) made rooms h = places_stay before after doc (or_blank (get_by_text before doc)) made rooms h

-- the place that is made is there
pub made_place : (before after : Documents) (doc : Option (List ℕ)) → ((name : List ℕ) → get_by_text after name ≡ placed doc before name) → has_place after doc ≡ true
made_place before after None made = refl
made_place before after (Some doc) made = place_set before after doc (or_blank (get_by_text before doc)) made

one_more : (p : RoomFor → Bool) (room : RoomFor) (rooms : List RoomFor) → p room ≡ true → list_all p rooms ≡ true → list_all p (rooms ++ room ∷ []) ≡ true
one_more p room [] here all = and_from (p room) true here refl
one_more p room (r ∷ rooms) here all =
    let parts = and_parts (p r) (list_all p rooms) all in
    and_from (p r) (list_all p (rooms ++ room ∷ [])) parts.0 (one_more p room rooms here parts.1)

-- all rooms have the places of their documents, with one room more, for which a place was made
pub all_with : (before after : Documents) (room : RoomFor) (rooms : List RoomFor) → ((name : List ℕ) → get_by_text after name ≡ placed room.doc before name) → list_all (λ r. has_place before r.doc) rooms ≡ true → list_all (λ r. has_place after r.doc) (rooms ++ room ∷ []) ≡ true
all_with before after room rooms made all =
    one_more (λ r. has_place after r.doc) room rooms (made_place before after room.doc made) (all_placed before after room.doc made rooms all)

-- ---- a room more

doc_itself : (doc : Option (List ℕ)) → same_doc doc doc ≡ true
doc_itself None = refl
doc_itself (Some doc) = text_itself doc

room_itself : (room : RoomFor) → same_room room room ≡ true
room_itself room = and_from (same_doc room.doc room.doc) (nat_eq room.bytes room.bytes) (doc_itself room.doc) (eq-eqb room.bytes room.bytes refl)

-- the room that is made is outstanding
pub made_outstanding : (room : RoomFor) (rooms : List RoomFor) → is_outstanding (rooms ++ room ∷ []) room ≡ true
made_outstanding room rooms =
    list_any-append (λ (r : RoomFor). same_room r room) rooms (room ∷ []) ∙ or_right (is_outstanding rooms room) _ (or_left (same_room room room) false (room_itself room))
