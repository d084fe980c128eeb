-- what the code's references to puts, drops and replacements of the sync function stand for
use Rattle.std.specs.Prelude.{ℕ, List, [], Option, Some, None}
use Rattle.std.specs.Borrow.{Bor}
use Rattle.sg_names.specs.declared.grants.Grantee.{Grantee}
use Rattle.sg_names.specs.declared.grants.Grantee.TheVariants as grantee
use Rattle.sg_history.specs.declared.puts.Principal.{Principal}
use Rattle.sg_history.specs.declared.puts.Principal.TheVariants as principal
use Rattle.sg_history.specs.declared.puts.Given.{Given}
use Rattle.sg_history.specs.declared.puts.Put as puts
use Rattle.sg_history.specs.declared.replacement.Replacement.{Replacement}
use Rattle.sg_history.specs.History.{SyncEntry}
use Rattle.sg_history.specs.Principals as principals

-- whom a put is of
abbrev pub grantee_in : Principal → Grantee
grantee_in (principal.User name) = grantee.User name.now
grantee_in (principal.Role name) = grantee.Role name.now

-- the roles that a put names
abbrev pub roles_in : Option (Bor (List (List ℕ))) → List (List ℕ)
roles_in None = []
roles_in (Some roles) = roles.now

-- what a put gives
abbrev pub given_in : Given → principals.PrincipalState
given_in given = record { channels = given.channels.now; roles = roles_in given.roles }

-- what a user or role was given, or none where it was never put, or dropped since
abbrev pub principal_in : Option Given → Option principals.PrincipalState
principal_in None = None
principal_in (Some given) = Some (given_in given)

-- a put or a drop
abbrev pub put_in : puts.Put → principals.Put
put_in put = record { of = grantee_in put.of; state = principal_in put.given }

-- a replacement of the sync function
abbrev pub replacement_in : Replacement → SyncEntry
replacement_in replacement = record { text = replacement.text.now; marks = replacement.marks.now }
