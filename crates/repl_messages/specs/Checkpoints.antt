-- The requests getCheckpoint and setCheckpoint, and what is answered.
use Rattle.std.specs.Prelude.{◌≡◌, ◌^◌, ℕ, Bool, nat_lt, List, [], ◌∷◌, ◌++◌, Option, Some, None, is_some, option_and_then, Result, Ok, codes, decimal, if◌then◌else◌}
use Rattle.blip_frame.specs.Props.{Pair, value_at}
use Rattle.blip_frame.specs.declared.payload.Payload.{Payload}
use Rattle.serde_json.specs.Find.{as_object}
use Rattle.sg_names.specs.Grammar.{is_client}
use Rattle.repl_messages.specs.declared.request.Field.TheVariants as fields
use Rattle.repl_messages.specs.declared.request.Request.{Request}
use Rattle.repl_messages.specs.declared.request.Request.TheVariants.{GetCheckpoint, SetCheckpoint}
use Rattle.repl_messages.specs.declared.request.RequestFault.{RequestFault}
use Rattle.repl_messages.specs.Fields.{◌>>=◌, or_bad, IsReadAs}
use Rattle.repl_messages.specs.Json.{json_of}

-- a text in the grammar of clients
abbrev pub client_of : List ℕ → Option (List ℕ)
client_of text = if is_client text then Some text else None

-- the revision of a checkpoint, `0-N`
abbrev pub checkpoint_rev : ℕ → List ℕ
checkpoint_rev n = codes "0-" ++ decimal n

abbrev pub fits_word : ℕ → Bool
fits_word n = nat_lt n (2 ^ 64)

-- the number of the property `rev`; absent it is 0
abbrev pub IsCheckpointNumber : Option (List ℕ) → Option ℕ → Type 0
IsCheckpointNumber None number = number ≡ Some 0
IsCheckpointNumber (Some text) number = IsReadAs checkpoint_rev fits_word text number

-- a body that is a JSON object
abbrev pub object_body : List ℕ → Option (List ℕ)
object_body body = if is_some (option_and_then as_object (json_of body)) then Some body else None

-- what a getCheckpoint with these properties is read as
abbrev pub get_checkpoint : List Pair → Result Request RequestFault
get_checkpoint props = do
  client ← or_bad fields.Client (option_and_then client_of (value_at props (codes "client")))
  Ok (GetCheckpoint client)

-- a setCheckpoint whose number is read so: the request, or the first that is bad of client, rev and body
abbrev pub set_checkpoint : Option ℕ → Payload → Result Request RequestFault
set_checkpoint number payload = do
  client ← or_bad fields.Client (option_and_then client_of (value_at payload.props (codes "client")))
  rev ← or_bad fields.Rev number
  body ← or_bad fields.Body (object_body payload.body)
  Ok (SetCheckpoint client rev body)

-- what such a setCheckpoint is read as
abbrev pub IsSetCheckpoint : Payload → Result Request RequestFault → Type 0
IsSetCheckpoint payload answer =
    (number : Option ℕ) × IsCheckpointNumber (value_at payload.props (codes "rev")) number × (answer ≡ set_checkpoint number payload)

-- the reply: the revision as a property, and the stored body where it was asked for
abbrev pub checkpoint_payload : ℕ → List ℕ → Payload
checkpoint_payload number body = record { props = (codes "rev", checkpoint_rev number) ∷ []; body = body }
