-- tests of bytes
use Rattle.std.proofs.Common.{◌≡◌, ◌≢◌, ℕ, Bool, true, false, List, sym, ◌∙◌}
use Rattle.std.specs.Str.{bytes_eq}
use Rattle.std.specs.Cmp.Lexicographic.{bytes_decides}
use Rattle.std.proofs.lemmas.Bool.{false≢true}

pub same : (r : Bool) (a b : List ℕ) → r ≡ bytes_eq a b → r ≡ true → a ≡ b
same r a b is holds = (bytes_decides a b).0 (sym is ∙ holds)

pub other : (r : Bool) (a b : List ℕ) → r ≡ bytes_eq a b → r ≡ false → a ≢ b
other r a b is fails e = false≢true (sym fails ∙ is ∙ (bytes_decides a b).1 e)
