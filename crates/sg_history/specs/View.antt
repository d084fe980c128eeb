-- What is shown of a document to a user, given the entries up to a place, the newest first.
use Rattle.std.specs.Prelude.{ℕ, Bool, true, false, ◌&&◌, nat_eq, List, [], ◌∷◌, Option, Some, None, if◌then◌else◌}
use Rattle.std.specs.Bool.{beq}
use Rattle.std.specs.List.{list_any}
use Rattle.sg_names.specs.declared.rev_id.RevId.{RevId}
use Rattle.sg_names.specs.RevId.{same_rev}
use Rattle.sg_history.specs.declared.entries.Entry.{Entry}
use Rattle.sg_history.specs.History.{among}
use Rattle.sg_history.specs.Current.{Current, current}
use Rattle.sg_history.specs.Principals.{has_channel}

-- the channel `*`, which has every document
abbrev pub every : List ℕ
every = 42 ∷ []

-- whether a filter lets channels through: there is none, or it names one of them
abbrev pub passes : Option (List (List ℕ)) → List (List ℕ) → Bool
passes None channels = true
passes (Some filter) channels = list_any (λ c. among filter c) channels

-- what is shown of a document: its sequence, its winner, and whether that is deleted
pub record Shown : Type 0 where
  pub seq : ℕ
  pub rev : RevId
  pub deleted : Bool

-- whether the user has one of the document's channels, `*` among them, and the filter names one
abbrev pub is_shown : List Entry → List ℕ → Option (List (List ℕ)) → Current → Bool
is_shown es user filter c =
    list_any (λ channel. has_channel es user channel) (every ∷ c.effects.channels) && passes filter (every ∷ c.effects.channels)

-- what is shown of a document by its current state, where it has one
abbrev pub view_of : List Entry → List ℕ → Option (List (List ℕ)) → Option Current → Option Shown
view_of es user filter None = None
view_of es user filter (Some c) =
    if is_shown es user filter c then Some (record { seq = c.seq; rev = c.rev; deleted = c.deleted }) else None

-- what is shown of the document to the user under the filter, or none
abbrev pub view : List Entry → List ℕ → Option (List (List ℕ)) → List ℕ → Option Shown
view es user filter doc = view_of es user filter (current es doc)

-- whether both show the same
abbrev pub same_view : Option Shown → Option Shown → Bool
same_view None None = true
same_view None (Some b) = false
same_view (Some a) None = false
same_view (Some a) (Some b) = nat_eq a.seq b.seq && same_rev a.rev b.rev && beq a.deleted b.deleted
