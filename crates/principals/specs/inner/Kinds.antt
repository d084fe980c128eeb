-- the kinds of a script's lines
use Rattle.std.specs.Prelude.{ℕ, List, codes}
use Rattle.principals.specs.declared.kind.Kind.{Kind}
use Rattle.principals.specs.declared.kind.Kind.TheVariants as kind

-- the first field of a line of this kind
abbrev pub kind_text : Kind → List ℕ
kind_text kind.User = codes "user"
kind_text kind.Role = codes "role"
kind_text kind.DropUser = codes "dropuser"
kind_text kind.DropRole = codes "droprole"
kind_text kind.Doc = codes "doc"
