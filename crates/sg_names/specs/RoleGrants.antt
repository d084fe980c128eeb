-- grants of roles, and lists of them
use Rattle.std.specs.Prelude.{ℕ, Bool, ◌&&◌, List, ◌∷◌, ◌++◌, map}
use Rattle.std.specs.List.{list_all}
use Rattle.std.specs.Ordering.{nat_cmp, ordering_then}
use Rattle.std.specs.Cmp.Lexicographic.{slice_cmp}
use Rattle.std.specs.declared.cmp.Ordering.{Ordering}
use Rattle.sg_names.specs.Grammar.{is_name}
use Rattle.sg_names.specs.ItemList.{list_text, rises}
use Rattle.sg_names.specs.declared.role_grants.RoleGrant.{RoleGrant}

-- the text `USER=ROLE`
abbrev pub role_grant_text : RoleGrant → List ℕ
role_grant_text g = g.user ++ 61 ∷ g.role

abbrev pub is_role_grant : RoleGrant → Bool
is_role_grant g = is_name g.user && is_name g.role

-- by the user, then by the role
abbrev pub role_grant_cmp : RoleGrant → RoleGrant → Ordering
role_grant_cmp a b = ordering_then (slice_cmp nat_cmp a.user b.user) (slice_cmp nat_cmp a.role b.role)

abbrev pub role_grants_text : List RoleGrant → List ℕ
role_grants_text grants = list_text (map (λ g. role_grant_text g) grants)

-- grants of roles that rise strictly
abbrev pub is_role_grants : List RoleGrant → Bool
is_role_grants grants = list_all (λ g. is_role_grant g) grants && rises role_grant_cmp grants
