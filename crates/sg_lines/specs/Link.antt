-- what a link answers, and what it records
use Rattle.std.specs.Prelude.{◌≡◌, ℕ, ◌<◌, ◌≤◌, List, [], ◌∷◌, ◌++◌, take, Option, Some, None}
use Rattle.sg_outside.specs.declared.sink.Gave.{Gave}
use Rattle.sg_outside.specs.declared.sink.Gave.TheVariants as gave
use Rattle.sg_outside.specs.Sink.{Takes}
use Rattle.sg_outside.specs.Wire.{LineRead, LinkRecord}
use Rattle.sg_lines.specs.declared.link.Took.{Took}
use Rattle.sg_lines.specs.declared.link.Took.TheVariants as took

-- a fault is counted, and the count never falls
abbrev pub CountsTook : ℕ → Took → ℕ → Type 0
CountsTook before (took.Read count) after = before ≤ after
CountsTook before took.Idle after = before ≤ after
CountsTook before took.End after = before ≤ after
CountsTook before took.Failed after = before < after

-- of the bytes that were read there is at least one, and room for all
abbrev pub Fits : Took → ℕ → Type 0
Fits (took.Read count) room = (1 ≤ count) × (count ≤ room)
Fits took.Idle room = Unit {0}
Fits took.End room = Unit {0}
Fits took.Failed room = Unit {0}

-- the result of a reading that left this in the buffer
abbrev pub read_of : Took → List ℕ → LineRead
read_of (took.Read count) buffer = LineRead.Bytes (take count buffer)
read_of took.Idle buffer = LineRead.Idle
read_of took.End buffer = LineRead.End
read_of took.Failed buffer = LineRead.Failed

-- what a link records once reading gave this result
abbrev pub read_after : LinkRecord → LineRead → LinkRecord
read_after before result = record before { read = before.read ++ result ∷ [] }

-- the same where the link records
abbrev pub ReadsIfRecorded : Option LinkRecord → LineRead → Option LinkRecord → Type 0
ReadsIfRecorded None result after = after ≡ None
ReadsIfRecorded (Some before) result after = after ≡ Some (read_after before result)

-- the answer to a write that is recorded: none where memory ran out
abbrev pub answered : Gave → List Gave
answered gave.Done = gave.Done ∷ []
answered gave.Failed = gave.Failed ∷ []
answered gave.Memory = []

-- the bytes are taken as by a sink, the answer is recorded, and nothing is read
abbrev pub Writes : LinkRecord → List ℕ → Gave → LinkRecord → Type 0
Writes before bytes answer after =
    Takes before.taken bytes answer after.taken × (after.gave ≡ before.gave ++ answered answer) × (after.read ≡ before.read)

-- the same where the link records
abbrev pub WritesIfRecorded : Option LinkRecord → List ℕ → Gave → Option LinkRecord → Type 0
WritesIfRecorded None bytes answer after = after ≡ None
WritesIfRecorded (Some before) bytes answer after = (link : LinkRecord) × (after ≡ Some link) × Writes before bytes answer link
