-- The last change of what a user has, by what is kept of it and of its roles, and what is the same from there on.
use Rattle.std.specs.Prelude.{◌≡◌, ◌≤◌, ℕ, Bool, max, List, [], ◌∷◌, String, Option, Some, None}
use Rattle.std.specs.BTreeMap.{get_by_text}
use Rattle.std.specs.Global.{Global}
use Rattle.std.specs.String.{string_bytes}
use Rattle.grant_tracks.specs.declared.things.What.{What}
use Rattle.grant_tracks.specs.declared.things.What.TheVariants as what
use Rattle.grant_tracks.specs.declared.held.Held.{Held}
use Rattle.grant_tracks.specs.Holdings.{Holders}
use Rattle.grant_tracks.specs.Reads.{gives_channel, role_channel}
use Rattle.grant_tracks.specs.Things.{Things}

-- a test is the same from a place on
abbrev pub IsSettled : ℕ → (ℕ → Bool) → Type 0
IsSettled n test = (j k : ℕ) → n ≤ j → j ≤ k → test j ≡ test k

-- the place at which a source gave or took something last, 0 where nothing is kept
abbrev pub changed_by : Option Things → ℕ
changed_by None = 0
changed_by (Some list) = list.changed

-- that of the role that something is
abbrev pub role_changed : Holders → What → ℕ
role_changed roles what.Exists = 0
role_changed roles (what.Channel c) = 0
role_changed roles (what.Role r) = changed_by (get_by_text roles r)

-- the greatest of the roles among these
abbrev pub roles_changed : Holders → List Held → ℕ
roles_changed roles [] = 0
roles_changed roles (h ∷ hs) = max (role_changed roles h.what) (roles_changed roles hs)

-- the greatest of a user's and of those of the roles that it has or had
abbrev pub user_changed : Holders → Option Things → ℕ
user_changed roles None = 0
user_changed roles (Some list) = max list.changed (roles_changed roles list.items)

-- the channels of each role among these are the same from a place on
abbrev pub AreSettled : Holders → List Held → ℕ → Type 0
AreSettled roles [] n = Unit {0}
AreSettled roles (h ∷ hs) n = ((x : List ℕ) → IsSettled n (λ k. gives_channel roles h.what k x)) × AreSettled roles hs n

-- the greatest of the roles of these names
abbrev pub names_changed : Holders → List (String Global × ℕ) → ℕ
names_changed roles [] = 0
names_changed roles (e ∷ es) = max (changed_by (get_by_text roles (string_bytes e.0))) (names_changed roles es)

-- what holds of each of these names
abbrev pub EachName : (List ℕ → Type 0) → List (String Global × ℕ) → Type 0
EachName P [] = Unit {0}
EachName P (e ∷ es) = P (string_bytes e.0) × EachName P es

-- the channels of each role of these names are the same from a place on
abbrev pub AreNamesSettled : Holders → List (String Global × ℕ) → ℕ → Type 0
AreNamesSettled roles es n = EachName (λ r. (x : List ℕ) → IsSettled n (λ k. role_channel roles r k x)) es
