-- what is the same from the last change on
use Rattle.std.proofs.Common.{◌≡◌, ◌≤◌, ℕ, refl, sym, ◌∙◌, ap, arith, Bool, false, ◌&&◌, ◌||◌, List, [], ◌∷◌, Option, Some, None}
use Rattle.std.specs.BTreeMap.{get_by_text}
use Rattle.std.specs.Str.{bytes_eq}
use Rattle.sg_history.specs.Principals.{everyone}
use Rattle.grant_tracks.specs.declared.things.What.{What}
use Rattle.grant_tracks.specs.declared.things.What.TheVariants as what
use Rattle.grant_tracks.specs.declared.held.Held.{Held}
use Rattle.grant_tracks.specs.declared.track.Track.{Track}
use Rattle.grant_tracks.specs.Changed.{AreSettled, IsSettled, changed_by, role_changed, roles_changed, user_changed}
use Rattle.grant_tracks.specs.Holdings.{Holders, held_in, AreUpTo, AreAllUpTo}
use Rattle.grant_tracks.specs.Reads.{by_roles, channel_among, channel_by, gives_channel, is_channel, list_channel}
use Rattle.grant_tracks.specs.Things.{Things}
use Rattle.grant_tracks.specs.Tracks.{IsTrack, held_at}
use Rattle.grant_tracks.proofs.HeldBy.{settled_list, settled_track}
use Rattle.grant_tracks.proofs.Tracked.{later_list, later_track}

pub settled_later : (n m : ℕ) (test : ℕ → Bool) → n ≤ m → IsSettled n test → IsSettled m test
settled_later n m test low is j k le more = is j k (omega (arith, low, le)) more

pub all_later : (roles : Holders) (list : List Held) (n m : ℕ) → n ≤ m → AreSettled roles list n → AreSettled roles list m
all_later roles [] n m low are = tt
all_later roles (h ∷ hs) n m low are = (λ x. settled_later n m (λ k. gives_channel roles h.what k x) low (are.0 x), all_later roles hs n m low are.1)

track_settled : (t : Track) (n : ℕ) → IsTrack t n → IsSettled n (held_at t)
track_settled t n is j k le more = settled_track t j (later_track t n j le is) ∙ sym (settled_track t k (later_track t n k (omega (arith, le, more)) is))

held_settled : (list : List Held) (n : ℕ) (w : What) → AreUpTo list n → IsSettled n (held_in list w)
held_settled list n w up j k le more =
    settled_list list j w (later_list list n j le up) ∙ sym (settled_list list k w (later_list list n k (omega (arith, le, more)) up))

own_settled : (list : List Held) (n : ℕ) (x : List ℕ) → AreUpTo list n → IsSettled n (λ k. channel_among list k x)
own_settled [] n x up j k le more = refl
own_settled (h ∷ hs) n x up j k le more =
    ap (λ (b : Bool). (b && is_channel h.what x) || channel_among hs j x) (track_settled h.track n up.0 j k le more)
    ∙ ap (λ (b : Bool). (held_at h.track k && is_channel h.what x) || b) (own_settled hs n x up.2 j k le more)

given_settled : (roles : Holders) (list : List Held) (n : ℕ) (x : List ℕ) → AreUpTo list n → AreSettled roles list n → IsSettled n (λ k. by_roles roles list k x)
given_settled roles [] n x up are j k le more = refl
given_settled roles (h ∷ hs) n x up are j k le more =
    ap (λ (b : Bool). (b && gives_channel roles h.what j x) || by_roles roles hs j x) (track_settled h.track n up.0 j k le more)
    ∙ ap (λ (b : Bool). (held_at h.track k && b) || by_roles roles hs j x) (are.0 x j k le more)
    ∙ ap (λ (b : Bool). (held_at h.track k && gives_channel roles h.what k x) || b) (given_settled roles hs n x up.2 are.1 j k le more)

-- the channels of a role
pub role_settled : (list : Things) (n : ℕ) (x : List ℕ) → AreUpTo list.items n → IsSettled n (λ k. channel_by (Some list) k x)
role_settled list n x up j k le more =
    ap (λ (b : Bool). b && channel_among list.items j x) (held_settled list.items n what.Exists up j k le more)
    ∙ ap (λ (b : Bool). held_in list.items what.Exists k && b) (own_settled list.items n x up j k le more)

-- those of a user
pub list_settled : (roles : Holders) (list : List Held) (n : ℕ) (x : List ℕ) → AreUpTo list n → AreSettled roles list n → IsSettled n (λ k. list_channel roles list k x)
list_settled roles list n x up are j k le more =
    ap (λ (b : Bool). b && (by_roles roles list j x || (channel_among list j x || (bytes_eq everyone x || false)))) (held_settled list n what.Exists up j k le more)
    ∙ ap (λ (b : Bool). held_in list what.Exists k && (b || (channel_among list j x || (bytes_eq everyone x || false)))) (given_settled roles list n x up are j k le more)
    ∙ ap (λ (b : Bool). held_in list what.Exists k && (by_roles roles list k x || (b || (bytes_eq everyone x || false)))) (own_settled list n x up j k le more)

-- no change is behind what nothing is behind
role_within : (roles : Holders) (n : ℕ) → AreAllUpTo roles n → (w : What) → role_changed roles w ≤ n
role_within roles n up what.Exists = omega arith
role_within roles n up (what.Channel c) = omega arith
role_within roles n up (what.Role r) = by (get_by_text roles r) refl
  where
    by : (o : Option Things) → get_by_text roles r ≡ o → changed_by o ≤ n
    by None is = omega arith
    by (Some list) is = (up r list is).2

roles_within : (roles : Holders) (n : ℕ) → AreAllUpTo roles n → (list : List Held) → roles_changed roles list ≤ n
roles_within roles n up [] = omega arith
roles_within roles n up (h ∷ hs) = omega (arith, role_within roles n up h.what, roles_within roles n up hs)

pub changed_within : (users roles : Holders) (n : ℕ) → AreAllUpTo users n → AreAllUpTo roles n → (user : List ℕ) → user_changed roles (get_by_text users user) ≤ n
changed_within users roles n up rest user = by (get_by_text users user) refl
  where
    by : (o : Option Things) → get_by_text users user ≡ o → user_changed roles o ≤ n
    by None is = omega arith
    by (Some list) is = omega (arith, (up user list is).2, roles_within roles n rest list.items)
