-- what a command line takes
use Rattle.std.specs.Prelude.{◌≡◌, ℕ, Bool, false, List, [], ◌∷◌, IsTrue}
use Rattle.std.specs.Str.{bytes_eq}
use Rattle.clap.specs.Words.{App, fault_of}

-- the first word is this
abbrev pub begins_with : List ℕ → List (List ℕ) → Bool
begins_with name [] = false
begins_with name (word ∷ words) = bytes_eq word name

-- the first word is the command's name, and the words have no fault
abbrev pub TakesWords : App → List (List ℕ) → Type 0
TakesWords app words = IsTrue (begins_with app.top.name words) × (fault_of app words ≡ [])
