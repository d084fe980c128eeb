-- The reply of a device to `changes`: which rows it wants.
use Rattle.std.specs.Prelude.{ℕ, zero, suc, Bool, false, List, [], ◌∷◌, Option, is_some, option_and_then, unwrap_or}
use Rattle.blip_frame.specs.declared.frame.Kind.{Kind}
use Rattle.blip_frame.specs.declared.frame.Kind.TheVariants as kinds
use Rattle.serde_json.specs.Data.{Items, no_items, item}
use Rattle.serde_json.specs.Find.{as_array}
use Rattle.repl_messages.specs.Json.{body_items}
use Rattle.repl_messages.specs.Numbers.{number_up_to}

-- the items of a reply; an error has none
abbrev pub reply_items : Kind → List ℕ → Items
reply_items kinds.Err body = no_items
reply_items _ body = body_items body

-- whether there is a first item and it is an array
abbrev pub is_first_array : Items → Bool
is_first_array no_items = false
is_first_array (item d ds) = is_some (as_array d)

-- the items after the first
abbrev pub further : Items → Items
further no_items = no_items
further (item d ds) = ds

-- one flag for each of so many rows: whether the item at its place is an array
abbrev pub wanted_rows : ℕ → Items → List Bool
wanted_rows zero items = []
wanted_rows (suc n) items = is_first_array items ∷ wanted_rows n (further items)

-- how many ancestors are wanted: a number from 1 to 1,000, else 100
abbrev pub max_history_of : Option (List ℕ) → ℕ
max_history_of value = unwrap_or (option_and_then (number_up_to 1000) value) 100
