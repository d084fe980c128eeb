-- The parameters of a program are written by its code.
use Rattle.std.proofs.Common.{◌≡◌, ℕ, List, Option, Some, None, refl, sym, ap, ◌∙◌}
use Rattle.sync_syntax.specs.declared.tree.Named.{Named}
use Rattle.sync_values.specs.declared.value.Value.{Value}
use Rattle.sync_meaning.specs.declared.variables.Slot.{Slot}
use Rattle.sync_meaning.specs.declared.variables.Variable.{Variable}
use Rattle.sync_meaning.specs.Meaning.{with_second}
use Rattle.sync_meaning.specs.Variables.{variables_with}
use Rattle.sync_code.specs.Made.{IsOwn, IsSecond}

pub first_written : (slot : Slot) (name : List ℕ) (x : Value) (xs : List Variable) → IsOwn slot name → variables_with slot.name slot.number x xs ≡ variables_with name 0 x xs
first_written slot name x xs own = ap (λ n. variables_with n slot.number x xs) own.name ∙ ap (λ k. variables_with name k x xs) own.number

-- what is written of the second parameter, which may be absent
abbrev pub written_second : Option Slot → Value → List Variable → List Variable
written_second None x xs = xs
written_second (Some slot) x xs = variables_with slot.name slot.number x xs

pub second_written : (slot : Option Slot) (named : Option Named) (x : Value) (xs : List Variable) → IsSecond slot named
    → with_second named x xs ≡ written_second slot x xs
second_written None None x xs i = refl
second_written (Some slot) (Some named) x xs i = sym (first_written slot named.name x xs i)
second_written None (Some named) x xs i = absurd i
second_written (Some slot) None x xs i = absurd i
