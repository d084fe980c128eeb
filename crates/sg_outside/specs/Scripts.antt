-- scripts of the calls that fail; calls are counted from 0, and none fails past the script's end
use Rattle.std.specs.Prelude.{◌≡◌, ◌≢◌, ◌⊎◌, ℕ, ◌+◌, ◌++◌, min, Bool, true, false, List, take, Option, Some, None, slice_get, unwrap_or}
use Rattle.sg_outside.specs.declared.files.Loaded.{Loaded}
use Rattle.sg_outside.specs.declared.files.Loaded.TheVariants as load
use Rattle.sg_outside.specs.declared.sink.Gave.{Gave}
use Rattle.sg_outside.specs.declared.sink.Gave.TheVariants as gave
use Rattle.sg_outside.specs.declared.mem_files.ScriptedFiles.{ScriptedFiles}
use Rattle.sg_outside.specs.declared.scripted_sink.ScriptedSink.{ScriptedSink}
use Rattle.sg_outside.specs.declared.scripted_wire.ScriptedWire.{ScriptedWire}

-- the calls so far
abbrev pub loads_of : ScriptedFiles → ℕ
loads_of files = files.calls

abbrev pub gives_of : ScriptedSink → ℕ
gives_of sink = sink.calls

abbrev pub sendings_of : ScriptedWire → ℕ
sendings_of wire = wire.sendings

-- one call more; the count stands still at its type's end
abbrev pub one_more : ℕ → ℕ
one_more calls = min (calls + 1) 18446744073709551615

-- whether a call fails
abbrev pub fails_at : List Bool → ℕ → Bool
fails_at fails call = unwrap_or (slice_get fails call) false

-- after how many bytes a call fails, if it does
abbrev pub fault_at : List (Option ℕ) → ℕ → Option ℕ
fault_at script call = unwrap_or (slice_get script call) None

-- a load fails exactly where the script says so, or where there is no such file; that memory ran out may come instead
abbrev pub LoadsByScript : Bool → Option (List ℕ) → Loaded → Type 0
LoadsByScript true file loaded = (loaded ≡ load.Failed) ⊎ (loaded ≡ load.Memory)
LoadsByScript false None loaded = (loaded ≡ load.Failed) ⊎ (loaded ≡ load.Memory)
LoadsByScript false (Some bytes) loaded = loaded ≢ load.Failed

-- giving fails exactly where the script says so, and so many of the bytes are then taken; that memory ran out may come instead
abbrev pub GivesByScript : Option ℕ → List ℕ → List ℕ → Gave → List ℕ → Type 0
GivesByScript None before bytes answer after = answer ≢ gave.Failed
GivesByScript (Some most) before bytes answer after = (answer ≢ gave.Done) × (answer ≡ gave.Failed → after ≡ before ++ take most bytes)

-- a sending fails exactly where the script says so; that memory ran out may come instead
abbrev pub SendsByScript : Bool → Gave → Type 0
SendsByScript true answer = answer ≢ gave.Done
SendsByScript false answer = answer ≢ gave.Failed
