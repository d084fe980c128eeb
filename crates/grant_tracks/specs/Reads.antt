-- What is read of a store: the channels and roles of a user at a place.
use Rattle.std.specs.Prelude.{ℕ, Bool, false, ◌&&◌, ◌||◌, List, Option, Some, None}
use Rattle.std.specs.BTreeMap.{get_by_text}
use Rattle.std.specs.List.{list_any}
use Rattle.std.specs.Str.{bytes_eq}
use Rattle.sg_history.specs.Principals.{everyone}
use Rattle.grant_tracks.specs.declared.things.What.{What}
use Rattle.grant_tracks.specs.declared.things.What.TheVariants as what
use Rattle.grant_tracks.specs.declared.held.Held.{Held}
use Rattle.grant_tracks.specs.Tracks.{held_at}
use Rattle.grant_tracks.specs.Holdings.{Holders, held_in, held_of}
use Rattle.grant_tracks.specs.Things.{Things}

-- whether something is the channel
abbrev pub is_channel : What → List ℕ → Bool
is_channel what.Exists x = false
is_channel (what.Channel c) x = bytes_eq c x
is_channel (what.Role r) x = false

-- whether one of these that are held at a place is the channel
abbrev pub channel_among : List Held → ℕ → List ℕ → Bool
channel_among list k x = list_any (λ h. held_at h.track k && is_channel h.what x) list

-- whether a list of what is held has the channel
abbrev pub channel_by : Option Things → ℕ → List ℕ → Bool
channel_by None k x = false
channel_by (Some list) k x = held_in list.items what.Exists k && channel_among list.items k x

-- whether a role that exists has the channel
abbrev pub role_channel : Holders → List ℕ → ℕ → List ℕ → Bool
role_channel roles role k x = channel_by (get_by_text roles role) k x

-- whether something is a role that has the channel
abbrev pub gives_channel : Holders → What → ℕ → List ℕ → Bool
gives_channel roles what.Exists k x = false
gives_channel roles (what.Channel c) k x = false
gives_channel roles (what.Role r) k x = role_channel roles r k x

-- whether one of these that are held at a place is a role that has the channel
abbrev pub by_roles : Holders → List Held → ℕ → List ℕ → Bool
by_roles roles list k x = list_any (λ h. held_at h.track k && gives_channel roles h.what k x) list

-- whether a user that has or had these has the channel at a place
abbrev pub list_channel : Holders → List Held → ℕ → List ℕ → Bool
list_channel roles list k x =
    held_in list what.Exists k && (by_roles roles list k x || (channel_among list k x || (bytes_eq everyone x || false)))

abbrev pub user_channel : Holders → Option Things → ℕ → List ℕ → Bool
user_channel roles None k x = false
user_channel roles (Some list) k x = list_channel roles list.items k x

-- whether something is a role that exists, and this one
abbrev pub is_existing : Holders → What → ℕ → List ℕ → Bool
is_existing roles what.Exists k x = false
is_existing roles (what.Channel c) k x = false
is_existing roles (what.Role r) k x = held_of roles (r, what.Exists) k && bytes_eq r x

-- whether one of these that are held at a place is this role, and exists
abbrev pub role_among : Holders → List Held → ℕ → List ℕ → Bool
role_among roles list k x = list_any (λ h. held_at h.track k && is_existing roles h.what k x) list

-- whether a user that has or had these has the role at a place
abbrev pub list_role : Holders → List Held → ℕ → List ℕ → Bool
list_role roles list k x = held_in list what.Exists k && (role_among roles list k x || false)

abbrev pub user_role : Holders → Option Things → ℕ → List ℕ → Bool
user_role roles None k x = false
user_role roles (Some list) k x = list_role roles list.items k x

-- whether a user that has or had these things has a channel at a place, given whether a role gives it there
abbrev pub has_by : List Held → List ℕ → ℕ → Bool → Bool
has_by list x k given = held_in list what.Exists k && (given || (channel_among list k x || (bytes_eq everyone x || false)))
