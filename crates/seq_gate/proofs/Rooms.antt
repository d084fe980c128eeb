-- Lemmas on how often rooms stand in lists.
use Rattle.std.proofs.Common.{◌≡◌, ◌≤◌, ◌<◌, ◌+◌, ℕ, refl, sym, ap, arith, Bool, true, false, true≢false, nat_eq, List, [], ◌∷◌, ◌++◌, Option, Some, None, if◌then◌else◌}
use Rattle.std.proofs.lemmas.Bool.{and_parts, and_from, eqb-true, eq-eqb}
use Rattle.std.proofs.lemmas.Slice.Eq.{bytes_eq-Decides}
use Rattle.sg_history.specs.declared.room.RoomFor.{RoomFor}
use Rattle.sg_history.specs.Rooms.{same_doc, same_room, room_times, without_room}
use Rattle.seq_gate.specs.Counts.{count_once, without_rooms}

same_text : (a b : Option (List ℕ)) → same_doc a b ≡ true → a ≡ b
same_text None None e = refl
same_text None (Some b) e = absurd (true≢false (sym e))
same_text (Some a) None e = absurd (true≢false (sym e))
same_text (Some a) (Some b) e = ap (λ (d : List ℕ). Some d) ((bytes_eq-Decides a b).0 e)

text_itself : (a : Option (List ℕ)) → same_doc a a ≡ true
text_itself None = refl
text_itself (Some a) = (bytes_eq-Decides a a).1 refl

room_is : (a b : RoomFor) → same_room a b ≡ true → a ≡ b
room_is a b e =
    let parts = and_parts (same_doc a.doc b.doc) (nat_eq a.bytes b.bytes) e in
    let docs = same_text a.doc b.doc parts.0 in
    let bytes = eqb-true a.bytes b.bytes parts.1 in
    λ i. record { doc = docs i; bytes = bytes i }

room_itself : (room : RoomFor) → same_room room room ≡ true
room_itself room = and_from (same_doc room.doc room.doc) (nat_eq room.bytes room.bytes) (text_itself room.doc) (eq-eqb room.bytes room.bytes refl)

pub room_times-append : (room : RoomFor) (xs ys : List RoomFor) → room_times room (xs ++ ys) ≡ room_times room xs + room_times room ys
room_times-append room [] ys = omega arith
room_times-append room (x ∷ xs) ys = let rest = room_times-append room xs ys in omega (arith, rest)

-- where no room stands, there is none
pub no_rooms : (rooms : List RoomFor) → ((room : RoomFor) → room_times room rooms ≡ 0) → rooms ≡ []
no_rooms [] none = refl
no_rooms (first ∷ others) none =
    let one : count_once (same_room first first) ≡ 1 = ap count_once (room_itself first) in
    let zero = none first in absurd (omega (arith, one, zero))

without_one : (gone : RoomFor) (rooms : List RoomFor) → 0 < room_times gone rooms → (room : RoomFor)
    → room_times room (without_room gone rooms) + count_once (same_room gone room) ≡ room_times room rooms
without_one gone [] some room = absurd (omega (arith, some))
without_one gone (first ∷ others) some room = go (same_room first gone) refl (λ more. without_one gone others more room)
  where
    go : (b : Bool) → same_room first gone ≡ b → (0 < room_times gone others → room_times room (without_room gone others) + count_once (same_room gone room) ≡ room_times room others)
        → room_times room (if b then others else first ∷ without_room gone others) + count_once (same_room gone room) ≡ count_once (same_room first room) + room_times room others
    go true is rest =
        let same : count_once (same_room first room) ≡ count_once (same_room gone room) = ap (λ (r : RoomFor). count_once (same_room r room)) (room_is first gone is) in
        omega (arith, same)
    go false is rest =
        let none : count_once (same_room first gone) ≡ 0 = ap count_once is in
        let more = rest (omega (arith, none, some)) in omega (arith, more)

pub without_all : (gone rooms : List RoomFor) → ((room : RoomFor) → room_times room gone ≤ room_times room rooms) → (room : RoomFor)
    → room_times room (without_rooms gone rooms) + room_times room gone ≡ room_times room rooms
without_all [] rooms within room = omega arith
without_all (first ∷ others) rooms within room =
    let one : count_once (same_room first first) ≡ 1 = ap count_once (room_itself first) in
    let some = within first in
    let left = without_one first rooms (omega (arith, one, some)) in
    let rest = without_all others (without_room first rooms) (λ r. let w = within r in let l = left r in omega (arith, w, l)) room in
    let here = left room in
    omega (arith, rest, here)
