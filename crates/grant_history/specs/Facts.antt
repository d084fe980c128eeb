-- What a user or a role has, and what puts and documents give.
use Rattle.std.specs.Prelude.{ℕ, ◌+◌, Bool, true, false, ◌&&◌, List, [], ◌∷◌, ◌++◌, map, Option, Some, None, if◌then◌else◌}
use Rattle.sg_names.specs.declared.grants.Grantee.{Grantee}
use Rattle.sg_names.specs.declared.grants.Grantee.TheVariants.{User}
use Rattle.sg_names.specs.declared.grants.Grant.{Grant}
use Rattle.sg_names.specs.declared.role_grants.RoleGrant.{RoleGrant}
use Rattle.sg_history.specs.declared.entries.Mark.{Mark}
use Rattle.sg_history.specs.Current.{Current, Effects}
use Rattle.sg_history.specs.Principals.{PrincipalState, same_grantee}
use Rattle.grant_tracks.specs.declared.things.What.{What}
use Rattle.grant_tracks.specs.declared.things.What.TheVariants as what
use Rattle.grant_tracks.specs.What.{same_what}
use Rattle.grant_history.specs.declared.facts.Fact.{Fact}

abbrev pub same_fact : Fact → Fact → Bool
same_fact a b = same_grantee a.of b.of && same_what a.what b.what

-- whether both have the same facts, in the same order
abbrev pub same_facts : List Fact → List Fact → Bool
same_facts [] [] = true
same_facts [] (g ∷ gs) = false
same_facts (f ∷ fs) [] = false
same_facts (f ∷ fs) (g ∷ gs) = same_fact f g && same_facts fs gs

-- how often a fact is among these
abbrev pub times : List Fact → Fact → ℕ
times [] f = 0
times (g ∷ gs) f = (if same_fact g f then 1 else 0) + times gs f

abbrev pub fact : Grantee → What → Fact
fact of w = record { of = of; what = w }

-- channels of a user or role
abbrev pub channel_facts : Grantee → List (List ℕ) → List Fact
channel_facts of channels = map (λ c. fact of (what.Channel c)) channels

-- roles of a user
abbrev pub role_facts : Grantee → List (List ℕ) → List Fact
role_facts of roles = map (λ r. fact of (what.Role r)) roles

-- what a put gives: that the user or role exists, its channels, and its roles
abbrev pub put_facts : Grantee → Option PrincipalState → List Fact
put_facts of None = []
put_facts of (Some s) = fact of what.Exists ∷ channel_facts of s.channels ++ role_facts of s.roles

-- channels that are granted
abbrev pub grant_facts : List Grant → List Fact
grant_facts grants = map (λ g. fact g.to (what.Channel g.channel)) grants

-- roles that are given
abbrev pub gift_facts : List RoleGrant → List Fact
gift_facts gifts = map (λ g. fact (User g.user) (what.Role g.role)) gifts

-- what a revision gives by its effects
abbrev pub effect_facts : Effects → List Fact
effect_facts effects = grant_facts effects.grants ++ gift_facts effects.roles

-- what a document gives as it is
abbrev pub document_facts : Option Current → List Fact
document_facts None = []
document_facts (Some c) = effect_facts c.effects

-- what a mark gives to its revision
abbrev pub mark_facts : Mark → List Fact
mark_facts mark = grant_facts mark.grants ++ gift_facts mark.roles
