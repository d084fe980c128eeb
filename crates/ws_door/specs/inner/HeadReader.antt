-- a head, as far as it was read; only proofs need this
use Rattle.std.specs.Prelude.{◌≡◌, ℕ, ◌+◌, ◌<◌, ◌≤◌, Bool, true, false, List, [], ◌∷◌, ◌++◌, length, count_by, vec_capacity, IsTrue, Option, Some, None, Result, Ok, Err}
use Rattle.std.specs.List.{list_all}
use Rattle.sg_outside.specs.Wire.{LineRead, LinkRecord}
use Rattle.sg_lines.specs.Link.{ReadsIfRecorded}
use Rattle.ws_door.specs.declared.heads.HeadFault.{HeadFault}
use Rattle.ws_door.specs.declared.head_reader.ByteRead.{ByteRead}
use Rattle.ws_door.specs.declared.head_reader.ByteRead.TheVariants as byte
use Rattle.ws_door.specs.declared.head_reader.HeadReader.{HeadReader}
use Rattle.ws_door.specs.Heads.{read_bytes, is_idle, is_single, ending, head_in, head_behind, bytes_in, idle_in}

-- the result of reading one byte
abbrev pub line_read : ByteRead → LineRead
line_read (byte.Byte b) = LineRead.Bytes (b ∷ [])
line_read byte.Idle = LineRead.Idle
line_read byte.End = LineRead.End
line_read byte.Failed = LineRead.Failed

abbrev pub IsAtFirst : HeadReader → Type 0
IsAtFirst head = (head.bytes.items ≡ []) × (head.idle ≡ 0)

-- there is room for what may come
abbrev pub HasRoom : HeadReader → Type 0
HasRoom head = (8192 ≤ vec_capacity head.bytes) × (length head.bytes.items < 8192) × (head.idle < 1000)

-- the answer that reading ended with, if it did
abbrev pub answer_of : Result Bool HeadFault → List ℕ → Option (Result (List ℕ) HeadFault)
answer_of (Ok true) bytes = Some (Ok bytes)
answer_of (Ok false) bytes = None
answer_of (Err fault) bytes = Some (Err fault)

-- there is still room, and less than before
abbrev pub Continues : HeadReader → Result Bool HeadFault → HeadReader → Type 0
Continues before (Ok true) after = Unit {0}
Continues before (Ok false) after = HasRoom after × (length before.bytes.items + before.idle < length after.bytes.items + after.idle)
Continues before (Err fault) after = Unit {0}

-- this result was added
pub record Adds (before : HeadReader) (read : LineRead) (answer : Result Bool HeadFault) (after : HeadReader) : Type 0 where
  pub bytes : after.bytes.items ≡ before.bytes.items ++ read_bytes read
  pub idle : after.idle ≡ before.idle + count_by is_idle (read ∷ [])
  pub ending_is : answer_of answer after.bytes.items ≡ ending before.bytes.items before.idle read
  pub continues : Continues before answer after

-- one result was read and added
abbrev pub ReadsOn : Option LinkRecord → HeadReader → Result Bool HeadFault → Option LinkRecord → HeadReader → Type 0
ReadsOn from before answer to after = (read : LineRead) × ReadsIfRecorded from read to × Adds before read answer after × IsTrue (is_single read)

-- what was read since the link had recorded this, and led to this head
pub record Reaches (from : LinkRecord) (head : HeadReader) (to : Option LinkRecord) (results : List LineRead) : Type 0 where
  pub read : to ≡ Some (record from { read = from.read ++ results })
  pub bytes : head.bytes.items ≡ bytes_in results
  pub idle : head.idle ≡ idle_in results
  pub single : IsTrue (list_all is_single results)
  pub goes_on : (later : List LineRead) → head_in (results ++ later) ≡ head_behind results later

-- the same where the link records
abbrev pub Follows : Option LinkRecord → HeadReader → Option LinkRecord → Type 0
Follows None head to = to ≡ None
Follows (Some from) head to = (results : List LineRead) × Reaches from head to results
