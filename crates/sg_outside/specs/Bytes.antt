-- What the two ways to hold bytes stand for.
use Rattle.std.specs.Prelude.{ℕ, List, Bool, true, false}
use Rattle.sg_outside.specs.declared.bytes.Held.{Held}
use Rattle.sg_outside.specs.declared.bytes.Held.TheVariants as held

-- the bytes that are held
abbrev pub bytes_of : Held → List ℕ
bytes_of (held.Own items) = items.items
bytes_of (held.Shared part) = part

-- whether nobody else holds them
abbrev pub is_own : Held → Bool
is_own (held.Own items) = true
is_own (held.Shared part) = false
