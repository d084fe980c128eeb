-- what a load says of the file
use Rattle.std.proofs.Common.{◌≡◌, ℕ, List, Option, Some, None, sym, subst}
use Rattle.sg_outside.specs.Files.{Loads, LoadsIfRecorded}
use Rattle.sg_outside.specs.declared.files.Loaded.{Loaded}
use Rattle.sg_outside.specs.declared.files.Loaded.TheVariants as loaded
use Rattle.command_line.specs.Loads.{NeedsFile}

abbrev Recorded : Type 0
Recorded = Option (List ℕ → Option (List ℕ))

abbrev of_recorded : Recorded → List ℕ → Option (List ℕ)
of_recorded None path = None
of_recorded (Some files) path = files path

none_is_some : (files : List ℕ → Option (List ℕ)) → ◌≡◌ {A = Recorded} None (Some files) → ⊥
none_is_some files e = cc

there_is_none : (files others : List ℕ → Option (List ℕ)) (path : List ℕ) → ◌≡◌ {A = Recorded} (Some files) (Some others) → others path ≡ None → files path ≡ None
there_is_none files others path same none =
    let P : Recorded → Type 0 = λ recorded. of_recorded recorded path ≡ None in
    subst P (sym same) none

-- a file that is answered as whole or too long is there
pub needs_file : (recorded : Recorded) (path : List ℕ) (answer : Loaded) (before after : List ℕ) → LoadsIfRecorded recorded path answer before after → NeedsFile recorded path answer
needs_file recorded path loaded.Failed before after h = tt
needs_file recorded path loaded.Memory before after h = tt
needs_file None path loaded.Whole before after h = λ absent. absurd (none_is_some absent.0 absent.1)
needs_file None path loaded.Longer before after h = λ absent. absurd (none_is_some absent.0 absent.1)
needs_file (Some files) path loaded.Whole before after h = λ absent.
    let P : Option (List ℕ) → Type 0 = λ file. Loads file loaded.Whole before after in
    subst P (there_is_none files absent.0 path absent.1 absent.2) h
needs_file (Some files) path loaded.Longer before after h = λ absent.
    let P : Option (List ℕ) → Type 0 = λ file. Loads file loaded.Longer before after in
    subst P (there_is_none files absent.0 path absent.1 absent.2) h
