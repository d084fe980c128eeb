-- The message `changes`, which offers rows to a device.
use Rattle.std.specs.Prelude.{ℕ, true, nat_eq, List, [], ◌∷◌, map, codes, if◌then◌else◌}
use Rattle.blip_frame.specs.declared.payload.Payload.{Payload}
use Rattle.serde_json.specs.Data.{Data, array, boolean, number, string, unsigned}
use Rattle.serde_json.specs.View.{items_of}
use Rattle.serde_json.specs.Written.{compact_text}
use Rattle.sg_names.specs.Key.{key_text}
use Rattle.sg_names.specs.RevId.{rev_text}
use Rattle.sg_names.specs.declared.key.Key.{Key}
use Rattle.sg_history.specs.Feed.{is_deleted}
use Rattle.sg_history.specs.declared.row.Row.{Row}
use Rattle.repl_messages.specs.declared.request.Version.{Version}
use Rattle.repl_messages.specs.declared.request.Version.TheVariants.{Two, Three}

-- a number where the key is plain, else the key's text
abbrev pub sequence_data : Key → Data
sequence_data key = if nat_eq key.by key.seq then number (unsigned key.seq) else string (key_text key)

-- what stands after the names: in version two `true` where the winner is deleted, in version three the bits where one is set
abbrev pub mark : Version → ℕ → List Data
mark Two bits = if is_deleted bits then boolean true ∷ [] else []
mark Three bits = if nat_eq bits 0 then [] else number (unsigned bits) ∷ []

-- sequence, document, revision, and the mark
abbrev pub row_data : Version → Row → Data
row_data version row =
    array (items_of (sequence_data row.key ∷ string row.doc ∷ string (rev_text row.rev) ∷ mark version row.bits))

-- the rows as JSON
abbrev pub changes_data : Version → List Row → Data
changes_data version rows = array (items_of (map (λ row. row_data version row) rows))

-- the message: its name, and the rows as JSON with no space
abbrev pub changes_payload : List Row → Version → Payload
changes_payload rows version =
    record { props = (codes "Profile", codes "changes") ∷ []; body = compact_text (changes_data version rows) }
