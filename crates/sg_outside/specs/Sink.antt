-- what a sink or a link answers to bytes that it is given, and what it took
use Rattle.std.specs.Prelude.{◌≡◌, ℕ, ◌<◌, ◌≤◌, List, ◌++◌, Option, Some, None}
use Rattle.sg_outside.specs.declared.sink.Gave.{Gave}
use Rattle.sg_outside.specs.declared.sink.Gave.TheVariants.{Done, Failed, Memory}

-- a fault is counted, and the count never falls
abbrev pub Counts : ℕ → Gave → ℕ → Type 0
Counts before Done after = before ≤ after
Counts before Failed after = before < after
Counts before Memory after = before ≤ after

-- all bytes are taken, at a fault a beginning of them, out of memory none
abbrev pub Takes : List ℕ → List ℕ → Gave → List ℕ → Type 0
Takes before bytes Done after = after ≡ before ++ bytes
Takes before bytes Failed after = (part : List ℕ) × (rest : List ℕ) × (bytes ≡ part ++ rest) × (after ≡ before ++ part)
Takes before bytes Memory after = after ≡ before

-- the same where the object records what it took
abbrev pub TakesIfRecorded : Option (List ℕ) → List ℕ → Gave → Option (List ℕ) → Type 0
TakesIfRecorded None bytes gave after = after ≡ None
TakesIfRecorded (Some before) bytes gave after = (taken : List ℕ) × (after ≡ Some taken) × Takes before bytes gave taken
