-- what a load of a file answers, and what it leaves
use Rattle.std.specs.Prelude.{◌≡◌, ℕ, ◌<◌, ◌≤◌, List, ◌++◌, length, Option, Some, None}
use Rattle.sg_outside.specs.declared.files.Loaded.{Loaded}
use Rattle.sg_outside.specs.declared.files.Loaded.TheVariants.{Whole, Longer, Failed, Memory}

-- the bytes that a loaded file may have
abbrev pub largest_file : ℕ
largest_file = 1073741824

-- a load: the name, and the answer
pub record Load : Type 0 where
  pub name : List ℕ
  pub answer : Loaded

-- a failure is counted, and the count never falls
abbrev pub CountsLoad : ℕ → Loaded → ℕ → Type 0
CountsLoad before Whole after = before ≤ after
CountsLoad before Longer after = before ≤ after
CountsLoad before Failed after = before < after
CountsLoad before Memory after = before ≤ after

-- a whole file is appended, and every other answer leaves the buffer as it was
abbrev pub Appends : Loaded → List ℕ → List ℕ → Type 0
Appends Whole before after = (file : List ℕ) × (after ≡ before ++ file)
Appends Longer before after = after ≡ before
Appends Failed before after = after ≡ before
Appends Memory before after = after ≡ before

-- the answer to a load of a file with these bytes, or of none; that memory ran out, or a failure, may come instead
abbrev pub Loads : Option (List ℕ) → Loaded → List ℕ → List ℕ → Type 0
Loads (Some file) Whole before after = (length file ≤ largest_file) × (after ≡ before ++ file)
Loads (Some file) Longer before after = (largest_file < length file) × (after ≡ before)
Loads None Whole before after = ⊥
Loads None Longer before after = ⊥
Loads file Failed before after = after ≡ before
Loads file Memory before after = after ≡ before

-- the same where the object records what is under each name
abbrev pub LoadsIfRecorded : Option (List ℕ → Option (List ℕ)) → List ℕ → Loaded → List ℕ → List ℕ → Type 0
LoadsIfRecorded None name loaded before after = Appends loaded before after
LoadsIfRecorded (Some files) name loaded before after = Loads (files name) loaded before after
