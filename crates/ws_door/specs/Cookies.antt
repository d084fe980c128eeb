-- the session that a cookie header carries
use Rattle.std.specs.Prelude.{ℕ, List, Option, Some, None, if◌then◌else◌, codes}
use Rattle.std.specs.Str.{bytes_eq}
use Rattle.sg_history.specs.Pieces.{pieces}
use Rattle.ws_door.specs.Items.{trim_spaces, parted_at, first_given}

-- the value, if this is the cookie's name
abbrev pub value_if_named : List ℕ → Option (List ℕ × List ℕ) → Option (List ℕ)
value_if_named name None = None
value_if_named name (Some cookie) = if bytes_eq cookie.0 name then Some cookie.1 else None

-- the session in an item: a name and a value stand before and behind its first `=`, and spaces around it are dropped
abbrev pub session_in_item : List ℕ → Option (List ℕ)
session_in_item item = value_if_named (codes "SyncGatewaySession") (parted_at 61 (trim_spaces item))

-- the session in a header's value, whose items stand between `;`: that of the first item that has one
abbrev pub session_in_cookies : List ℕ → Option (List ℕ)
session_in_cookies value = first_given session_in_item (pieces 59 value)
