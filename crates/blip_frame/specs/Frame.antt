-- The grammar of a frame, where it stands in a direction.
use Rattle.std.specs.Prelude.{◌≡◌, ℕ, ◌+◌, ◌-◌, ◌%◌, ◌^◌, ◌<◌, ◌≤◌, Bool, true, false, List, [], ◌∷◌, ◌++◌, length, take, drop, Option, Some, None, Result, Ok, Err, nat_lt, ◌==◌, if◌then◌else◌}
use Rattle.std.specs.Bool.{OnFalse}
use Rattle.std.specs.Int.{w32, bit_at, to_be_bytes, from_be_bytes}
use Rattle.blip_frame.specs.declared.frame.Frame.{Frame}
use Rattle.blip_frame.specs.declared.frame.Kind.{Kind}
use Rattle.blip_frame.specs.declared.frame.Kind.TheVariants as kinds
use Rattle.blip_frame.specs.declared.frame.FrameFault.{FrameFault}
use Rattle.blip_frame.specs.declared.frame.FrameFault.TheVariants as faults
use Rattle.blip_frame.specs.declared.varint.VarintFault.{VarintFault}
use Rattle.blip_frame.specs.declared.varint.VarintFault.TheVariants as varint_faults
use Rattle.blip_frame.specs.Checksum.{checksum, checksum_after}
use Rattle.blip_frame.specs.Varint.{IsRead, IsShortest, number_at, varint}

-- a frame without where its payload lies in memory
pub record FrameParts : Type 0 where
  pub number : ℕ
  pub kind : Kind
  pub urgent : Bool
  pub no_reply : Bool
  pub more : Bool
  pub payload : List ℕ

abbrev pub parts_of : Frame → FrameParts
parts_of f = record { number = f.number; kind = f.kind; urgent = f.urgent; no_reply = f.no_reply; more = f.more; payload = f.payload.now }

-- the frame whose payload goes on with these bytes
abbrev pub with_rest : FrameParts → List ℕ → FrameParts
with_rest f rest = record f { payload = f.payload ++ rest }

-- the low three bits of the flags
abbrev pub kind_number : Kind → ℕ
kind_number kinds.Msg = 0
kind_number kinds.Rpy = 1
kind_number kinds.Err = 2
kind_number kinds.AckMsg = 4
kind_number kinds.AckRpy = 5

-- messages, replies and errors end in a checksum, acknowledgements in none
abbrev pub has_checksum : Kind → Bool
has_checksum kinds.Msg = true
has_checksum kinds.Rpy = true
has_checksum kinds.Err = true
has_checksum kinds.AckMsg = false
has_checksum kinds.AckRpy = false

-- the kind, and a bit for each mark; the bit of compression is never set
abbrev pub flags_of : FrameParts → ℕ
flags_of f = kind_number f.kind + (if f.urgent then 16 else 0) + (if f.no_reply then 32 else 0) + (if f.more then 64 else 0)

-- what stands after the payload, where the checksum is this
abbrev pub trailer : Kind → ℕ → List ℕ
trailer kind kept = if has_checksum kind then to_be_bytes w32 kept else []

-- the most bytes of a payload that is read, and of one that is written
abbrev pub largest_read : ℕ
largest_read = 1048576

abbrev pub largest_written : ℕ
largest_written = 16384

-- an acknowledgement is urgent, wants no reply and has no more to come
abbrev pub IsMarkedAsKind : FrameParts → Type 0
IsMarkedAsKind f = OnFalse (has_checksum f.kind) ((f.urgent ≡ true) × (f.no_reply ≡ true) × (f.more ≡ false))

-- The bytes are this frame, where this is the checksum of the direction up to its end: its number, its flags, its payload, and the checksum where the kind has one.
pub record IsFrame (kept : ℕ) (bytes : List ℕ) (f : FrameParts) : Type 0 where
  pub number : List ℕ
  pub flags : List ℕ
  pub number_read : IsRead number f.number
  pub flags_read : IsRead flags (flags_of f)
  pub size : length f.payload ≤ largest_read
  pub spelled : bytes ≡ number ++ (flags ++ (f.payload ++ trailer f.kind kept))

-- a frame as it is written: in shortest varints, of a bounded size, and an acknowledgement with its marks
pub record IsWritten (kept : ℕ) (bytes : List ℕ) (f : FrameParts) : Type 0 where
  pub number : List ℕ
  pub flags : List ℕ
  pub number_shortest : IsShortest number f.number
  pub number_below : f.number < 2 ^ 64
  pub flags_shortest : IsShortest flags (flags_of f)
  pub size : length f.payload ≤ largest_written
  pub marked : IsMarkedAsKind f
  pub spelled : bytes ≡ number ++ (flags ++ (f.payload ++ trailer f.kind kept))

-- the payload bytes of a direction once the frame has gone, those of acknowledgements left out
abbrev pub payload_sent_after : List ℕ → FrameParts → List ℕ
payload_sent_after sent f = if has_checksum f.kind then sent ++ f.payload else sent

-- the checksum of a direction once the frame has gone
abbrev pub value_after : ℕ → FrameParts → ℕ
value_after value f = if has_checksum f.kind then checksum_after value f.payload else value

-- the bytes are this frame in a direction in which these payload bytes were sent so far
abbrev pub IsFrameAfter : List ℕ → List ℕ → FrameParts → Type 0
IsFrameAfter sent bytes f = IsFrame (checksum (payload_sent_after sent f)) bytes f

abbrev pub IsWrittenAfter : List ℕ → List ℕ → FrameParts → Type 0
IsWrittenAfter sent bytes f = IsWritten (checksum (payload_sent_after sent f)) bytes f

-- the bytes are this frame in a direction whose checksum so far is this
abbrev pub IsFrameFrom : ℕ → List ℕ → FrameParts → Type 0
IsFrameFrom value bytes f = IsFrame (value_after value f) bytes f

-- ---- reading, with the first fault

infixl 10 ◌>>=◌
abbrev pub ◌>>=◌ : {A B : Type 0} → Result A FrameFault → (A → Result B FrameFault) → Result B FrameFault
(Ok x) >>= f = f x
(Err e) >>= f = Err e

-- a fault in a varint, as a fault of the frame
abbrev pub fault_of : VarintFault → FrameFault
fault_of varint_faults.Short = faults.Short
fault_of varint_faults.BadVarint = faults.BadVarint

abbrev pub header : Result (ℕ × List ℕ) VarintFault → Result (ℕ × List ℕ) FrameFault
header (Ok x) = Ok x
header (Err fault) = Err (fault_of fault)

-- the kind that the flags name, where they are at most 127
abbrev pub kind_at : ℕ → Result Kind FrameFault
kind_at flags =
    if nat_lt 127 flags then Err (faults.BadType flags)
    else if flags % 8 == 0 then Ok kinds.Msg
    else if flags % 8 == 1 then Ok kinds.Rpy
    else if flags % 8 == 2 then Ok kinds.Err
    else if flags % 8 == 4 then Ok kinds.AckMsg
    else if flags % 8 == 5 then Ok kinds.AckRpy
    else Err (faults.BadType flags)

-- whether a bit of the flags is set
abbrev pub is_set : ℕ → ℕ → Bool
is_set flags place = bit_at flags place == 1

-- the payload, and the checksum that is kept behind it
abbrev pub content_at : Kind → List ℕ → Result (List ℕ × Option ℕ) FrameFault
content_at kind rest =
    if has_checksum kind
    then (if nat_lt (length rest) 4 then Err faults.Short else Ok (take (length rest - 4) rest, Some (from_be_bytes w32 (drop (length rest - 4) rest))))
    else Ok (rest, None)

-- the checksum after a payload whose own one is kept, or that has none
abbrev pub checksum_at : ℕ → List ℕ → Option ℕ → Result ℕ FrameFault
checksum_at value payload None = Ok value
checksum_at value payload (Some kept) = if kept == checksum_after value payload then Ok kept else Err (faults.BadChecksum kept (checksum_after value payload))

unfoldable pub checked_at : ℕ → List ℕ → Option ℕ → Result ℕ FrameFault
checked_at value payload kept = if nat_lt largest_read (length payload) then Err (faults.TooLong (length payload)) else checksum_at value payload kept

-- the frame that the bytes are, and the checksum after it, or the first fault
unfoldable pub frame_at : ℕ → List ℕ → Result (FrameParts × ℕ) FrameFault
frame_at value bytes = do
  number ← header (number_at bytes)
  flags ← header (number_at number.1)
  kind ← kind_at flags.0
  content ← (if is_set flags.0 3 then Err faults.Compressed else content_at kind flags.1)
  after ← checked_at value content.0 content.1
  Ok (record { number = number.0; kind = kind; urgent = is_set flags.0 4; no_reply = is_set flags.0 5; more = is_set flags.0 6; payload = content.0 }, after)

-- ---- writing

-- the one spelling of a frame, where the checksum is this
abbrev pub spelling : ℕ → FrameParts → List ℕ
spelling kept f = varint f.number ++ (varint (flags_of f) ++ (f.payload ++ trailer f.kind kept))

-- the written frame is put at the end, in a direction in which these payload bytes were sent so far
abbrev pub WritesAfter : List ℕ → List ℕ → List ℕ → FrameParts → Type 0
WritesAfter sent old new f = (bytes : List ℕ) × IsWrittenAfter sent bytes f × (new ≡ old ++ bytes)

-- ---- a direction, frame by frame

-- these frames are written one after another, after these payload bytes
abbrev pub AreWrittenAfter : List ℕ → List (List ℕ) → List FrameParts → Type 0
AreWrittenAfter sent [] [] = Unit {0}
AreWrittenAfter sent (bytes ∷ texts) (f ∷ frames) = IsWrittenAfter sent bytes f × AreWrittenAfter (payload_sent_after sent f) texts frames
AreWrittenAfter sent [] (f ∷ frames) = ⊥
AreWrittenAfter sent (bytes ∷ texts) [] = ⊥

-- the payload bytes of a direction once all frames have gone
abbrev pub all_sent : List ℕ → List FrameParts → List ℕ
all_sent sent [] = sent
all_sent sent (f ∷ frames) = all_sent (payload_sent_after sent f) frames

-- a frame before those that were read after it
abbrev pub with_first : FrameParts → Result (List FrameParts) FrameFault → Result (List FrameParts) FrameFault
with_first f (Ok frames) = Ok (f ∷ frames)
with_first f (Err fault) = Err fault

-- the frames of a direction whose checksum so far is this, or the first fault
abbrev pub frames_at : ℕ → List (List ℕ) → Result (List FrameParts) FrameFault
frames_at value [] = Ok []
frames_at value (bytes ∷ texts) = frame_at value bytes >>= λ found. with_first found.0 (frames_at found.1 texts)

-- frames before those that were read after them
abbrev pub with_front : List FrameParts → Result (List FrameParts) FrameFault → Result (List FrameParts) FrameFault
with_front [] read = read
with_front (f ∷ frames) read = with_first f (with_front frames read)
