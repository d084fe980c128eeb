-- The faults of a program's names, and which of them is the first.
use Rattle.std.specs.Prelude.{◌≡◌, ◌==◌, nat_lt, Bool, true, false, not, ◌&&◌, if◌then◌else◌, List, [], ◌∷◌, Option, Some, None}
use Rattle.std.specs.List.{All, Contains}
use Rattle.sync_tokens.specs.Places.{first_place}
use Rattle.sync_tokens.specs.declared.place.Place.{Place}
use Rattle.sync_resolve.specs.declared.fault.ResolveFault.{ResolveFault}
use Rattle.sync_resolve.specs.declared.fault.ResolveFault.TheVariants.{UnknownName, WrongCount, Redeclared, ConstWritten, Memory}

-- where a fault stands
abbrev pub fault_place : ResolveFault → Place
fault_place (UnknownName p) = p
fault_place (WrongCount p) = p
fault_place (Redeclared p) = p
fault_place (ConstWritten p) = p
fault_place Memory = first_place

-- whether a call has another count of arguments than is taken
abbrev pub is_wrong_count : ResolveFault → Bool
is_wrong_count (WrongCount p) = true
is_wrong_count _ = false

-- whether a place stands before another, or where they are the same as it is said
abbrev pub stands_before : Bool → Place → Place → Bool
stands_before same p q = if p.line == q.line then (if p.column == q.column then same else nat_lt p.column q.column) else nat_lt p.line q.line

-- whether a fault comes before another: by their places, and at one place a wrong count comes last
abbrev pub fault_comes_before : ResolveFault → ResolveFault → Bool
fault_comes_before e f = stands_before (not (is_wrong_count e) && is_wrong_count f) (fault_place e) (fault_place f)

-- of all faults one that no other comes before
pub record IsFirstFault (e : ResolveFault) (faults : List ResolveFault) : Type 0 where
  pub is_one : Contains faults e
  pub first : All (λ f. fault_comes_before f e ≡ false) faults

-- ---- one after the other

-- the earlier of two faults, the one found before where neither comes before the other
unfoldable pub earlier : Option ResolveFault → ResolveFault → Option ResolveFault
earlier None f = Some f
earlier (Some e) f = if fault_comes_before f e then Some f else Some e

-- the earliest of faults and one found before
abbrev pub earliest : Option ResolveFault → List ResolveFault → Option ResolveFault
earliest found [] = found
earliest found (f ∷ fs) = earliest (earlier found f) fs
