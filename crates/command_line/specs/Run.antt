-- what a run of a command answers and does
use Rattle.std.specs.Prelude.{◌≡◌, ℕ, ◌≤◌, ◌<◌, List, ◌++◌, length, Option, Some, None, Result, Ok, Err}
use Rattle.sg_outside.specs.Files.{largest_file}
use Rattle.sg_history.specs.declared.fault.Why.TheVariants.{Long}
use Rattle.command_line.specs.declared.status.Status.{Status}
use Rattle.command_line.specs.declared.status.Status.TheVariants as status

-- files that record what they hold have these bytes under the name
abbrev pub HasFile : Option (List ℕ → Option (List ℕ)) → List ℕ → List ℕ → Type 0
HasFile recorded name bytes = (files : List ℕ → Option (List ℕ)) × (recorded ≡ Some files) × (files name ≡ Some bytes)

-- files that record what they hold have none under the name
abbrev pub HasNoFile : Option (List ℕ → Option (List ℕ)) → List ℕ → Type 0
HasNoFile recorded name = (files : List ℕ → Option (List ℕ)) × (recorded ≡ Some files) × (files name ≡ None)

-- the two statuses that a run may end with where no command takes the words
abbrev pub IsRefusal : Status → Type 0
IsRefusal status.BadWords = Unit {0}
IsRefusal status.Memory = Unit {0}
IsRefusal status.Ok = ⊥
IsRefusal (status.BadInput file place why) = ⊥
IsRefusal status.ReadFault = ⊥
IsRefusal status.WriteFault = ⊥
IsRefusal status.DoorFault = ⊥

-- a sink that records what it took has taken this text besides
abbrev pub Took : Option (List ℕ) → Option (List ℕ) → List ℕ → Type 0
Took before after text = (taken : List ℕ) → before ≡ Some taken → after ≡ Some (taken ++ text)

-- a sink that records what it took has taken a beginning of this text besides
abbrev pub TookPart : Option (List ℕ) → Option (List ℕ) → List ℕ → Type 0
TookPart before after text =
    (taken : List ℕ) → before ≡ Some taken → (part : List ℕ) × (rest : List ℕ) × (text ≡ part ++ rest) × (after ≡ Some (taken ++ part))

-- the two statuses that a run may end with where there is no file
abbrev pub EndsAbsent : Status → Type 0
EndsAbsent status.ReadFault = Unit {0}
EndsAbsent status.Memory = Unit {0}
EndsAbsent status.Ok = ⊥
EndsAbsent status.BadWords = ⊥
EndsAbsent (status.BadInput file place why) = ⊥
EndsAbsent status.WriteFault = ⊥
EndsAbsent status.DoorFault = ⊥

-- a fault that is answered was counted, of a command that has no door
abbrev pub Counted : Status → ℕ → ℕ → ℕ → ℕ → Type 0
Counted status.ReadFault read read' wrote wrote' = read < read'
Counted status.WriteFault read read' wrote wrote' = wrote < wrote'
Counted status.Ok read read' wrote wrote' = Unit {0}
Counted status.BadWords read read' wrote wrote' = Unit {0}
Counted (status.BadInput file place why) read read' wrote wrote' = Unit {0}
Counted status.DoorFault read read' wrote wrote' = ⊥
Counted status.Memory read read' wrote wrote' = Unit {0}

-- nothing was written but at the two statuses that follow the writing
abbrev pub Silent : Status → Option (List ℕ) → Option (List ℕ) → Type 0
Silent status.Ok before after = Unit {0}
Silent status.WriteFault before after = Unit {0}
Silent status.BadWords before after = after ≡ before
Silent (status.BadInput file place why) before after = after ≡ before
Silent status.ReadFault before after = after ≡ before
Silent status.DoorFault before after = after ≡ before
Silent status.Memory before after = after ≡ before

-- a file that was loaded whole, or how the run ends without it, where its bytes are recorded; it has this number among the command's files
abbrev pub IsLoaded : ℕ → List ℕ → Result (List ℕ) Status → Type 0
IsLoaded number bytes (Ok loaded) = (length bytes ≤ largest_file) × (loaded ≡ bytes)
IsLoaded number bytes (Err status.Ok) = ⊥
IsLoaded number bytes (Err status.BadWords) = ⊥
IsLoaded number bytes (Err (status.BadInput file place why)) = (file ≡ number) × (largest_file < length bytes) × (place ≡ 0) × (why ≡ Long)
IsLoaded number bytes (Err status.ReadFault) = Unit {0}
IsLoaded number bytes (Err status.WriteFault) = ⊥
IsLoaded number bytes (Err status.DoorFault) = ⊥
IsLoaded number bytes (Err status.Memory) = Unit {0}

-- how a run may end at the loading, with the count of the files' faults, which never falls
abbrev pub EndsLoaded : {X : Type 0} → Result X Status → ℕ → ℕ → Type 0
EndsLoaded (Ok loaded) before after = before ≤ after
EndsLoaded (Err status.Ok) before after = ⊥
EndsLoaded (Err status.BadWords) before after = ⊥
EndsLoaded (Err (status.BadInput file place why)) before after = before ≤ after
EndsLoaded (Err status.ReadFault) before after = before < after
EndsLoaded (Err status.WriteFault) before after = ⊥
EndsLoaded (Err status.DoorFault) before after = ⊥
EndsLoaded (Err status.Memory) before after = before ≤ after

-- how a run may end at the writing, with the count of the sink's faults and what it took of the text
abbrev pub Prints : Status → List ℕ → ℕ → ℕ → Option (List ℕ) → Option (List ℕ) → Type 0
Prints status.Ok text faults faults' before after = Took before after text
Prints status.BadWords text faults faults' before after = ⊥
Prints (status.BadInput file place why) text faults faults' before after = ⊥
Prints status.ReadFault text faults faults' before after = ⊥
Prints status.WriteFault text faults faults' before after = (faults < faults') × TookPart before after text
Prints status.DoorFault text faults faults' before after = ⊥
Prints status.Memory text faults faults' before after = after ≡ before
