-- The request subChanges, which asks for the changes after a key.
use Rattle.std.specs.Prelude.{◌≡◌, ℕ, Bool, false, nat_eq, ◌==◌, List, [], ◌∷◌, Option, Some, None, option_map, unwrap_or, Result, Ok, Err, codes, if◌then◌else◌}
use Rattle.std.specs.List.{list_all, slice_split}
use Rattle.std.specs.Str.{bytes_eq}
use Rattle.blip_frame.specs.Props.{Pair, value_at}
use Rattle.sg_names.specs.Grammar.{is_channel_name}
use Rattle.sg_names.specs.Key.{ReadsKey, IsLowForm, IsBadKey}
use Rattle.sg_names.specs.declared.key.Key.{Key}
use Rattle.sg_names.specs.declared.key.KeyFault.{KeyFault}
use Rattle.sg_names.specs.declared.key.KeyFault.TheVariants as key_faults
use Rattle.sg_history.specs.declared.row.Options.{Options}
use Rattle.repl_messages.specs.declared.request.Version.{Version}
use Rattle.repl_messages.specs.declared.request.Version.TheVariants.{Two, Three}
use Rattle.repl_messages.specs.declared.request.Field.TheVariants as fields
use Rattle.repl_messages.specs.declared.request.Request.{Request}
use Rattle.repl_messages.specs.declared.request.Request.TheVariants.{SubChanges}
use Rattle.repl_messages.specs.declared.request.RequestFault.{RequestFault}
use Rattle.repl_messages.specs.declared.request.RequestFault.TheVariants.{Bad400, LowForm400}
use Rattle.repl_messages.specs.Fields.{◌>>=◌, or_bad}
use Rattle.repl_messages.specs.Numbers.{number_up_to}
use Rattle.repl_messages.specs.Properties.{is_property_set}

-- what stands before a double quote that ends the bytes
abbrev pub before_quote : List ℕ → Option (List ℕ)
before_quote [] = None
before_quote (b ∷ []) = if nat_eq b 34 then Some [] else None
before_quote (b ∷ c ∷ bs) = option_map (λ front. b ∷ front) (before_quote (c ∷ bs))

-- what stands between two double quotes, or without them the text itself
abbrev pub unquoted : List ℕ → List ℕ
unquoted [] = []
unquoted (b ∷ bs) = if nat_eq b 34 then unwrap_or (before_quote bs) (b ∷ bs) else b ∷ bs

-- what a text is read as: a key, a low form, or neither
abbrev pub IsReading : List ℕ → Result Key KeyFault → Type 0
IsReading text (Ok key) = ReadsKey text key
IsReading text (Err key_faults.LowForm) = IsLowForm text
IsReading text (Err key_faults.BadKey) = IsBadKey text

-- what the property `since` is read as; absent it is the start
abbrev pub IsSince : Option (List ℕ) → Result Key KeyFault → Type 0
IsSince None since = since ≡ Ok (record { by = 0; seq = 0 })
IsSince (Some value) since = IsReading (unquoted value) since

-- the key, or the refusal of the property
abbrev pub since_of : Result Key KeyFault → Result Key RequestFault
since_of (Ok key) = Ok key
since_of (Err key_faults.LowForm) = Err LowForm400
since_of (Err key_faults.BadKey) = Err (Bad400 fields.Since)

-- a number from 1 to 10,000; absent it is 200
abbrev pub batch_of : Option (List ℕ) → Result ℕ RequestFault
batch_of None = Ok 200
batch_of (Some value) = or_bad fields.Batch (number_up_to 10000 value)

-- channels' names with a comma between each two, in any order, of which one may stand twice
abbrev pub channel_list : List ℕ → Option (List (List ℕ))
channel_list text =
    let names : List (List ℕ) = slice_split (λ b. b == 44) text in
    if list_all (λ n. is_channel_name n) names then Some names else None

-- the filter by channels needs their list
abbrev pub channels_of : Option (List ℕ) → Result (List (List ℕ)) RequestFault
channels_of None = Err (Bad400 fields.Channels)
channels_of (Some value) = or_bad fields.Channels (channel_list value)

-- no filter, in which case the channels are passed over, or the filter by channels
abbrev pub filter_of : Option (List ℕ) → Option (List ℕ) → Result (Option (List (List ℕ))) RequestFault
filter_of None channels = Ok None
filter_of (Some name) channels =
    if bytes_eq name (codes "sync_gateway/bychannel")
    then (do
      names ← channels_of channels
      Ok (Some names))
    else Err (Bad400 fields.Filter)

-- version two has no revocations
abbrev pub revocations_of : Version → List Pair → Bool
revocations_of Two props = false
revocations_of Three props = is_property_set (codes "revocations") props

abbrev pub options_of : Option (List (List ℕ)) → Version → List Pair → Options
options_of filter version props =
    record { filter = filter; active_only = is_property_set (codes "activeOnly") props; revocations = revocations_of version props }

-- a subChanges whose since is read so: the request, or the first bad property of since, batch, filter and channels
abbrev pub sub_changes : Result Key KeyFault → Version → List Pair → Result Request RequestFault
sub_changes since version props = do
  key ← since_of since
  batch ← batch_of (value_at props (codes "batch"))
  filter ← filter_of (value_at props (codes "filter")) (value_at props (codes "channels"))
  Ok (SubChanges key (is_property_set (codes "continuous") props) batch (options_of filter version props))

-- what a subChanges with these properties is read as
abbrev pub IsSubChanges : List Pair → Version → Result Request RequestFault → Type 0
IsSubChanges props version answer =
    (since : Result Key KeyFault) × IsSince (value_at props (codes "since")) since × (answer ≡ sub_changes since version props)
