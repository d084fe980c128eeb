-- Code is made of a tree.
use Rattle.std.specs.Prelude.{◌≡◌, Bool, IsTrue, List, ℕ, Option, Some, None}
use Rattle.sync_syntax.specs.declared.tree.Named.{Named}
use Rattle.sync_syntax.specs.declared.tree.Program.{Program}
use Rattle.sync_meaning.specs.declared.variables.Slot.{Slot}
use Rattle.sync_meaning.specs.Variables.{top}
use Rattle.sync_code.specs.declared.program.ProgramCode.{ProgramCode}
use Rattle.sync_code.specs.Steps.{step_sources, steps_fit}

-- the code of something: this is what it is the code of, and it fits what is seen
pub record IsCode {A : Type 0} (of tree : A) (fitting : Bool) : Type 0 where
  pub same : of ≡ tree
  pub fits : IsTrue fitting

-- a variable that is one of the function's own, by its name
pub record IsOwn (slot : Slot) (of : List ℕ) : Type 0 where
  pub name : slot.name ≡ of
  pub number : slot.number ≡ 0

-- the second parameter, which may be absent
abbrev pub IsSecond : Option Slot → Option Named → Type 0
IsSecond None None = Unit {0}
IsSecond (Some slot) (Some named) = IsOwn slot named.name
IsSecond None (Some named) = ⊥
IsSecond (Some slot) None = ⊥

-- the code of a program: its parameters, and its body, which sees nothing but the function's own variables
pub record IsCodeOf (code : ProgramCode) (program : Program) : Type 0 where
  pub first : IsOwn code.first program.first.name
  pub second : IsSecond code.second program.second
  pub place : code.place ≡ program.place
  pub body : step_sources code.body ≡ program.body
  pub fits : IsTrue (steps_fit code.body top)
