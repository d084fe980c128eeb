-- what is known of a reader that was read whole, and of a writer that was given bytes
use Rattle.std.specs.Prelude.{◌≡◌, ℕ, List, Option, Some, None}
use Rattle.sg_outside.specs.declared.files.Loaded.{Loaded}
use Rattle.sg_outside.specs.declared.sink.Gave.{Gave}
use Rattle.sg_outside.specs.Files.{Appends, Loads}
use Rattle.sg_outside.specs.Sink.{Takes}

-- the answer to loading what a reader has left, where that is known, and elsewhere some bytes
abbrev pub LoadsRest : Option (List ℕ) → Loaded → List ℕ → List ℕ → Type 0
LoadsRest None loaded before after = Appends loaded before after
LoadsRest (Some rest) loaded before after = Loads (Some rest) loaded before after

-- what a writer holds once it was given bytes, where that is known: all of them, at a fault a beginning, out of memory none
abbrev pub Writes : Option (List ℕ) → List ℕ → Gave → Option (List ℕ) → Type 0
Writes None bytes gave after = Unit {0}
Writes (Some before) bytes gave after = (held : List ℕ) × (after ≡ Some held) × Takes before bytes gave held
