-- Recorded sessions: the text of what a device's wire gave. The first line is `sgsession 1`, the second says whose
-- session it is, and each further line is what one call of `recv` gave. Each line ends with a line feed.
use Rattle.std.specs.Prelude.{◌≡◌, ℕ, Bool, true, ◌&&◌, nat_lt, List, [], ◌∷◌, ◌++◌, length, map, codes, IsTrue, IsUtf8}
use Rattle.std.specs.List.{list_all}
use Rattle.sg_names.specs.Grammar.{is_name}
use Rattle.sg_names.specs.Hex.{hex_text, are_bytes}
use Rattle.sg_outside.specs.declared.mem_wire.Input.{Input}
use Rattle.sg_outside.specs.declared.mem_wire.Input.TheVariants as input
use Rattle.sg_outside.specs.declared.wire.Got.{Got}
use Rattle.sg_outside.specs.declared.wire.Got.TheVariants as got
use Rattle.repl_messages.specs.declared.request.Version.{Version}
use Rattle.repl_messages.specs.declared.request.Version.TheVariants as version
use Rattle.record_file.specs.declared.item.Item.{Item}
use Rattle.record_file.specs.declared.item.Item.TheVariants as item
use Rattle.record_file.specs.declared.record.Recorded.{Recorded}

-- the first line
abbrev pub record_header : List ℕ
record_header = codes "sgsession 1"

-- `2` or `3`
abbrev pub version_text : Version → List ℕ
version_text version.Two = codes "2"
version_text version.Three = codes "3"

-- the second line: whose session it is, and the version that its device speaks
abbrev pub owner_text : List ℕ → Version → List ℕ
owner_text user version = codes "user" ++ 9 ∷ user ++ 9 ∷ version_text version

-- the line of what one call gave
abbrev pub item_text : Item → List ℕ
item_text (item.Frame bytes) = hex_text bytes
item_text item.Idle = codes "idle"

-- the lines of what the wire gave
abbrev pub items_text : List Item → List ℕ
items_text [] = []
items_text (i ∷ items) = item_text i ++ 10 ∷ items_text items

-- the text of a recorded session
abbrev pub record_text : Recorded → List ℕ
record_text r = record_header ++ 10 ∷ owner_text r.user r.version ++ 10 ∷ items_text r.items

-- a frame is at least one byte
abbrev pub is_item : Item → Bool
is_item (item.Frame bytes) = nat_lt 0 (length bytes) && are_bytes bytes
is_item item.Idle = true

-- the bytes are the text of this session, whose parts are in their grammars
pub record SpellsRecord (bytes : List ℕ) (r : Recorded) : Type 0 where
  pub user : IsTrue (is_name r.user) × IsUtf8 r.user
  pub items : IsTrue (list_all (λ i. is_item i) r.items)
  pub text : bytes ≡ record_text r

-- what a wire in memory is given for it
abbrev pub input_of : Item → Input
input_of (item.Frame bytes) = input.Frame bytes
input_of item.Idle = input.Idle

-- what one call of `recv` gave
abbrev pub result_of : Item → Got
result_of (item.Frame bytes) = got.Frame bytes
result_of item.Idle = got.Idle

abbrev pub results_of : List Item → List Got
results_of items = map (λ i. result_of i) items
