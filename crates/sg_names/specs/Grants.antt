-- grants of channels, and lists of them
use Rattle.std.specs.Prelude.{ℕ, Bool, ◌&&◌, List, ◌∷◌, ◌++◌, map, codes}
use Rattle.std.specs.List.{list_all}
use Rattle.std.specs.Ordering.{nat_cmp, ordering_then}
use Rattle.std.specs.Cmp.Lexicographic.{slice_cmp}
use Rattle.std.specs.declared.cmp.Ordering.{Ordering}
use Rattle.sg_names.specs.Grammar.{is_name, is_channel_name}
use Rattle.sg_names.specs.ItemList.{list_text, rises}
use Rattle.sg_names.specs.declared.grants.Grantee.{Grantee}
use Rattle.sg_names.specs.declared.grants.Grantee.TheVariants.{User, Role}
use Rattle.sg_names.specs.declared.grants.Grant.{Grant}

-- `NAME` of a user, `role:NAME` of a role
abbrev pub grantee_text : Grantee → List ℕ
grantee_text (User name) = name
grantee_text (Role name) = codes "role:" ++ name

abbrev pub is_grantee : Grantee → Bool
is_grantee (User name) = is_name name
is_grantee (Role name) = is_name name

-- the text `GRANTEE=CHANNEL`
abbrev pub grant_text : Grant → List ℕ
grant_text g = grantee_text g.to ++ 61 ∷ g.channel

abbrev pub is_grant : Grant → Bool
is_grant g = is_grantee g.to && is_channel_name g.channel

-- by the text before the first `=`, then by the channel
abbrev pub grant_cmp : Grant → Grant → Ordering
grant_cmp a b = ordering_then (slice_cmp nat_cmp (grantee_text a.to) (grantee_text b.to)) (slice_cmp nat_cmp a.channel b.channel)

abbrev pub grants_text : List Grant → List ℕ
grants_text grants = list_text (map (λ g. grant_text g) grants)

-- grants that rise strictly
abbrev pub is_grants : List Grant → Bool
is_grants grants = list_all (λ g. is_grant g) grants && rises grant_cmp grants
