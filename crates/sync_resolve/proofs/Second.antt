-- A program has a second parameter where its code has one.
use Rattle.std.proofs.Common.{◌≡◌, Option, Some, None, is_some, refl}
use Rattle.sync_syntax.specs.declared.tree.Named.{Named}
use Rattle.sync_meaning.specs.declared.variables.Slot.{Slot}
use Rattle.sync_code.specs.Made.{IsSecond}

pub both_or_none : (slot : Option Slot) (named : Option Named) → IsSecond slot named → is_some slot ≡ is_some named
both_or_none None None i = refl
both_or_none (Some slot) (Some named) i = refl
both_or_none None (Some named) i = absurd i
both_or_none (Some slot) None i = absurd i
