-- how often rooms stand among others
use Rattle.std.proofs.Common.{◌≡◌, ◌≤◌, ◌+◌, ◌∙◌, ℕ, Bool, true, false, ◌&&◌, ◌||◌, List, [], ◌∷◌, ◌++◌, refl, sym, ap, subst, arith, if◌then◌else◌, Option, Some, None}
use Rattle.std.proofs.lemmas.Bool.{and_parts}
use Rattle.std.proofs.lemmas.Slice.Eq.{bytes_eq-Decides}
use Rattle.std.specs.Cmp.{unsigned_Decides}
use Rattle.std.specs.Prelude.{nat_eq}
use Rattle.sg_history.specs.declared.room.RoomFor.{RoomFor}
use Rattle.sg_history.specs.Rooms.{same_doc, same_room, room_times, without_room}
use Rattle.seq_gate.specs.Counts.{without_rooms}
use Rattle.doc_board.specs.Rooms.{is_outstanding}

same_doc_itself : (doc : Option (List ℕ)) → same_doc doc doc ≡ true
same_doc_itself None = refl
same_doc_itself (Some a) = (bytes_eq-Decides a a).1 refl

pub same_room_itself : (room : RoomFor) → same_room room room ≡ true
same_room_itself room = λ i. same_doc_itself room.doc i && (unsigned_Decides room.bytes room.bytes).1 refl i

same_doc_is : (a b : Option (List ℕ)) → same_doc a b ≡ true → a ≡ b
same_doc_is None None h = refl
same_doc_is None (Some b) h = cc h
same_doc_is (Some a) None h = cc h
same_doc_is (Some a) (Some b) h = ap (λ (d : List ℕ). Some d) ((bytes_eq-Decides a b).0 h)

same_room_is : (a b : RoomFor) → same_room a b ≡ true → a ≡ b
same_room_is a b h =
    let parts = and_parts (same_doc a.doc b.doc) (nat_eq a.bytes b.bytes) h in
    λ i. record { doc = same_doc_is a.doc b.doc parts.0 i; bytes = (unsigned_Decides a.bytes b.bytes).0 parts.1 i }

abbrev one : Bool → ℕ
one b = if b then 1 else 0

-- all rooms taken out of themselves leave the others
pub all_gone : (rooms more : List RoomFor) → without_rooms rooms (rooms ++ more) ≡ more
all_gone [] more = refl
all_gone (room ∷ rooms) more =
    ap (λ (b : Bool). without_rooms rooms (if b then rooms ++ more else room ∷ without_room room (rooms ++ more))) (same_room_itself room)
    ∙ all_gone rooms more

pub times_append : (r : RoomFor) (xs ys : List RoomFor) → room_times r (xs ++ ys) ≡ room_times r xs + room_times r ys
times_append r [] ys = omega arith
times_append r (x ∷ xs) ys = omega (arith, times_append r xs ys)

-- a room that is outstanding stands there at least once
pub times_outstanding : (room : RoomFor) (rooms : List RoomFor) → is_outstanding rooms room ≡ true → 1 ≤ room_times room rooms
times_outstanding room [] h = cc h
times_outstanding room (f ∷ fs) h = go (λ k. times_outstanding room fs k) (same_room f room) refl h
  where
    go : (is_outstanding fs room ≡ true → 1 ≤ room_times room fs) → (b : Bool) → same_room f room ≡ b → (b || is_outstanding fs room) ≡ true → 1 ≤ room_times room (f ∷ fs)
    go rest true is h = subst (λ (b : Bool). 1 ≤ one b + room_times room fs) (sym is) (omega arith)
    go rest false is h = let more : 1 ≤ room_times room fs = rest h in omega (arith, more)

pub outstanding_times : (room : RoomFor) (rooms : List RoomFor) → 1 ≤ room_times room rooms → is_outstanding rooms room ≡ true
outstanding_times room [] h = absurd (omega (arith, h))
outstanding_times room (f ∷ fs) h = go (λ k. outstanding_times room fs k) (same_room f room) h
  where
    go : (1 ≤ room_times room fs → is_outstanding fs room ≡ true) → (b : Bool) → 1 ≤ one b + room_times room fs → (b || is_outstanding fs room) ≡ true
    go rest true h = refl
    go rest false h = rest (omega (arith, h))

-- a room less
pub times_less : (room r : RoomFor) (rooms : List RoomFor) → 1 ≤ room_times room rooms → room_times r (without_room room rooms) + one (same_room room r) ≡ room_times r rooms
times_less room r [] h = absurd (omega (arith, h))
times_less room r (f ∷ fs) h = go (λ k. times_less room r fs k) (same_room f room) refl h
  where
    go : (1 ≤ room_times room fs → room_times r (without_room room fs) + one (same_room room r) ≡ room_times r fs)
        → (b : Bool) → same_room f room ≡ b → 1 ≤ one b + room_times room fs → room_times r (if b then fs else f ∷ without_room room fs) + one (same_room room r) ≡ one (same_room f r) + room_times r fs
    go rest true is h =
        let same : one (same_room f r) ≡ one (same_room room r) = ap (λ (x : RoomFor). one (same_room x r)) (same_room_is f room is) in
        omega (arith, same)
    go rest false is h = omega (arith, rest (omega (arith, h)))

nothing_in : (rooms : List RoomFor) → ((r : RoomFor) → room_times r rooms ≡ 0) → rooms ≡ []
nothing_in [] none = refl
nothing_in (f ∷ fs) none =
    let one_is : one (same_room f f) ≡ 1 = ap one (same_room_itself f) in
    absurd (omega (arith, none f, one_is))

-- rooms that stand equally often among others are all of these
pub none_left : (xs ys : List RoomFor) → ((r : RoomFor) → room_times r xs ≡ room_times r ys) → without_rooms xs ys ≡ []
none_left [] ys same = nothing_in ys (λ r. sym (same r))
none_left (x ∷ xs) ys same =
    let own : one (same_room x x) ≡ 1 = ap one (same_room_itself x) in
    let there : 1 ≤ room_times x ys = omega (arith, same x, own) in
    none_left xs (without_room x ys) (λ r. omega (arith, same r, times_less x r ys there))

-- a room that is taken out and put back
pub put_back : (room : RoomFor) (rooms : List RoomFor) → is_outstanding rooms room ≡ true → without_rooms rooms (without_room room rooms ++ room ∷ []) ≡ []
put_back room rooms out =
    none_left rooms (without_room room rooms ++ room ∷ [])
    (λ r. omega (arith, times_append r (without_room room rooms) (room ∷ []), times_less room r rooms (times_outstanding room rooms out)))
