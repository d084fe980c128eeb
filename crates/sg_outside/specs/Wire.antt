-- what a wire answers, and what it records
use Rattle.std.specs.Prelude.{◌≡◌, ℕ, ◌<◌, ◌≤◌, List, [], ◌∷◌, ◌++◌, Option, Some, None}
use Rattle.sg_outside.specs.declared.sink.Gave.{Gave}
use Rattle.sg_outside.specs.declared.sink.Gave.TheVariants as gave
use Rattle.sg_outside.specs.declared.wire.Got.{Got}
use Rattle.sg_outside.specs.declared.wire.Got.TheVariants as got

-- a result of reading from a line: bytes, that nothing is there yet, its end, or a fault
pub data LineRead : Type 0 where
  Bytes : List ℕ → LineRead
  Idle : LineRead
  End : LineRead
  Failed : LineRead

-- what a line records before its socket is made: the results of reading, in order, the bytes that it took, and what each write answered
pub record LinkRecord : Type 0 where
  pub read : List LineRead
  pub taken : List ℕ
  pub gave : List Gave

-- what stands for the line of a wire that no line gave
abbrev pub no_line : LinkRecord
no_line = record { read = []; taken = []; gave = [] }

-- what a wire records: the results of receiving so far, the frames that were sent, what each sending answered, and the results still to come, all in order; and what its line recorded
pub record Traffic : Type 0 where
  pub got : List Got
  pub sent : List (List ℕ)
  pub gave : List Gave
  pub coming : List Got
  pub line : LinkRecord

-- a fault is counted, and the count never falls
abbrev pub CountsGot : ℕ → Got → ℕ → Type 0
CountsGot before (got.Frame frame) after = before ≤ after
CountsGot before got.Text after = before ≤ after
CountsGot before got.Idle after = before ≤ after
CountsGot before got.End after = before ≤ after
CountsGot before got.Failed after = before < after
CountsGot before got.Memory after = before ≤ after

-- the next result: the end, where nothing is still to come
abbrev pub next_of : List Got → Got
next_of [] = got.End
next_of (first ∷ later) = first

-- what is still to come after the next result
abbrev pub after_next : List Got → List Got
after_next [] = []
after_next (first ∷ later) = later

-- what a wire records once this was received
abbrev pub received : Traffic → Got → Traffic
received before result = record before { got = before.got ++ result ∷ []; coming = after_next before.coming }

-- the result is the next one
abbrev pub ReceivesNext : Traffic → Got → Traffic → Type 0
ReceivesNext before result after = (result ≡ next_of before.coming) × (after ≡ received before result)

-- the next result is received, out of memory none
abbrev pub Receives : Traffic → Got → Traffic → Type 0
Receives before (got.Frame frame) after = ReceivesNext before (got.Frame frame) after
Receives before got.Text after = ReceivesNext before got.Text after
Receives before got.Idle after = ReceivesNext before got.Idle after
Receives before got.End after = ReceivesNext before got.End after
Receives before got.Failed after = ReceivesNext before got.Failed after
Receives before got.Memory after = after ≡ before

-- the same where the wire records
abbrev pub ReceivesIfRecorded : Option Traffic → Got → Option Traffic → Type 0
ReceivesIfRecorded None result after = after ≡ None
ReceivesIfRecorded (Some before) result after = (traffic : Traffic) × (after ≡ Some traffic) × Receives before result traffic

-- the frame is sent, at a fault it is not; out of memory nothing happened
abbrev pub sent_after : Traffic → List ℕ → Gave → Traffic
sent_after before frame gave.Done = record before { sent = before.sent ++ frame ∷ []; gave = before.gave ++ gave.Done ∷ [] }
sent_after before frame gave.Failed = record before { gave = before.gave ++ gave.Failed ∷ [] }
sent_after before frame gave.Memory = before

-- the same where the wire records
abbrev pub SendsIfRecorded : Option Traffic → List ℕ → Gave → Option Traffic → Type 0
SendsIfRecorded None frame answer after = after ≡ None
SendsIfRecorded (Some before) frame answer after = after ≡ Some (sent_after before frame answer)
