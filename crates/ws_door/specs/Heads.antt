-- how the head of a request is read from a link, as a function of what reading gave
use Rattle.std.specs.Prelude.{◌≡◌, ℕ, ◌+◌, ◌==◌, ◌||◌, Bool, true, false, List, [], ◌∷◌, ◌++◌, length, count_by, Option, Some, None, Result, Ok, Err, if◌then◌else◌, codes, IsTrue}
use Rattle.std.specs.List.{flat_map, list_all, ends_with}
use Rattle.sg_outside.specs.Wire.{LineRead, LinkRecord}
use Rattle.ws_door.specs.declared.heads.HeadFault.{HeadFault}
use Rattle.ws_door.specs.declared.heads.HeadFault.TheVariants as fault

-- the last byte is a line feed directly behind a line feed, or behind a line feed and a carriage return
abbrev pub ends_empty_line : List ℕ → Bool
ends_empty_line bytes = ends_with (λ a b. a == b) bytes (codes "\n\n") || ends_with (λ a b. a == b) bytes (codes "\n\r\n")

-- bytes with which a head ends, if no beginning of them is such
abbrev pub is_whole : List ℕ → Bool
is_whole bytes = ends_empty_line bytes || length bytes == 8192

-- the bytes that reading gave
abbrev pub read_bytes : LineRead → List ℕ
read_bytes (LineRead.Bytes bytes) = bytes
read_bytes LineRead.Idle = []
read_bytes LineRead.End = []
read_bytes LineRead.Failed = []

abbrev pub is_idle : LineRead → Bool
is_idle (LineRead.Bytes bytes) = false
is_idle LineRead.Idle = true
is_idle LineRead.End = false
is_idle LineRead.Failed = false

-- no more than one byte was read
abbrev pub is_single : LineRead → Bool
is_single (LineRead.Bytes bytes) = length bytes == 1
is_single LineRead.Idle = true
is_single LineRead.End = true
is_single LineRead.Failed = true

-- all bytes that these results gave, and how many of them were idle
abbrev pub bytes_in : List LineRead → List ℕ
bytes_in results = flat_map read_bytes results

abbrev pub idle_in : List LineRead → ℕ
idle_in results = count_by is_idle results

-- how reading ends with this result, where these bytes and so many idle results came before: with the whole head, at the thousandth idle result, at the end and at a fault; else not
abbrev pub ending : List ℕ → ℕ → LineRead → Option (Result (List ℕ) HeadFault)
ending bytes idle (LineRead.Bytes more) = if is_whole (bytes ++ more) then Some (Ok (bytes ++ more)) else None
ending bytes idle LineRead.Idle = if idle + 1 == 1000 then Some (Err fault.Slow) else None
ending bytes idle LineRead.End = Some (Err fault.Ended)
ending bytes idle LineRead.Failed = Some (Err fault.LinkFault)

-- the first ending, if the last of the results makes it
abbrev pub last_ending : Option (Result (List ℕ) HeadFault) → List LineRead → Option (Result (List ℕ) HeadFault) → Option (Result (List ℕ) HeadFault)
last_ending None later further = further
last_ending (Some answer) [] further = Some answer
last_ending (Some answer) (result ∷ later) further = None

-- the same, where these results came before
abbrev pub head_behind : List LineRead → List LineRead → Option (Result (List ℕ) HeadFault)
head_behind before [] = None
head_behind before (result ∷ later) = last_ending (ending (bytes_in before) (idle_in before) result) later (head_behind (before ++ result ∷ []) later)

-- how reading ended with the last of these results, and with none before
abbrev pub head_in : List LineRead → Option (Result (List ℕ) HeadFault)
head_in results = head_behind [] results

-- reading goes on after each of these results but the last, and this is how it ends with that
pub record EndsReading (results : List LineRead) (answer : Result (List ℕ) HeadFault) : Type 0 where
  pub before : List LineRead
  pub last : LineRead
  pub are : results ≡ before ++ last ∷ []
  pub so : ending (bytes_in before) (idle_in before) last ≡ Some answer
  pub goes_on : (front back : List LineRead) (result : LineRead) → before ≡ front ++ result ∷ back → ending (bytes_in front) (idle_in front) result ≡ None

-- these results and no more were read, one byte at a time, and nothing was written
abbrev pub EndsReadingWith : LinkRecord → Result (List ℕ) HeadFault → LinkRecord → Type 0
EndsReadingWith before answer after = (results : List LineRead) × (head_in results ≡ Some answer) × IsTrue (list_all is_single results) × (after ≡ record before { read = before.read ++ results })

-- the same; out of memory nothing was read
abbrev pub ReadsHead : LinkRecord → Result (List ℕ) HeadFault → LinkRecord → Type 0
ReadsHead before (Ok head) after = EndsReadingWith before (Ok head) after
ReadsHead before (Err fault.Ended) after = EndsReadingWith before (Err fault.Ended) after
ReadsHead before (Err fault.Slow) after = EndsReadingWith before (Err fault.Slow) after
ReadsHead before (Err fault.LinkFault) after = EndsReadingWith before (Err fault.LinkFault) after
ReadsHead before (Err fault.Memory) after = after ≡ before

-- the same where the link records
abbrev pub ReadsHeadIfRecorded : Option LinkRecord → Result (List ℕ) HeadFault → Option LinkRecord → Type 0
ReadsHeadIfRecorded None answer after = after ≡ None
ReadsHeadIfRecorded (Some before) answer after = (link : LinkRecord) × (after ≡ Some link) × ReadsHead before answer link
