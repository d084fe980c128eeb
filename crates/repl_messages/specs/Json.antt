-- Bodies that are JSON.
use Rattle.std.specs.Prelude.{ℕ, List, Option, None, option_and_then, unwrap_or, if◌then◌else◌}
use Rattle.std.specs.Str.{is_utf8}
use Rattle.serde_json.specs.Data.{Data, Items, no_items}
use Rattle.serde_json.specs.Find.{as_array}
use Rattle.serde_json.specs.Read.{read}

-- what the bytes are read as, which are JSON in UTF-8
abbrev pub json_of : List ℕ → Option Data
json_of bytes = if is_utf8 bytes then read bytes else None

-- the items of a body that is a JSON array; of any other body none
abbrev pub body_items : List ℕ → Items
body_items body = unwrap_or (option_and_then as_array (json_of body)) no_items
