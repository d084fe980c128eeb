-- What a user or a role may have.
use Rattle.std.specs.Prelude.{Bool, true, false}
use Rattle.std.specs.Str.{bytes_eq}
use Rattle.grant_tracks.specs.declared.things.What.{What}
use Rattle.grant_tracks.specs.declared.things.What.TheVariants as what

-- whether both are the same
abbrev pub same_what : What → What → Bool
same_what what.Exists what.Exists = true
same_what what.Exists (what.Channel d) = false
same_what what.Exists (what.Role s) = false
same_what (what.Channel c) what.Exists = false
same_what (what.Channel c) (what.Channel d) = bytes_eq c d
same_what (what.Channel c) (what.Role s) = false
same_what (what.Role r) what.Exists = false
same_what (what.Role r) (what.Channel d) = false
same_what (what.Role r) (what.Role s) = bytes_eq r s
