-- Passes between their turns.
use Rattle.std.specs.Prelude.{◌≡◌, ℕ, []}
use Rattle.seq_gate.specs.Passes.{share}
use Rattle.seq_gate.specs.declared.known.Known.{Known}

-- a pass that holds neither a number nor a room, and has so many draws, made ones included
pub record HoldsNothing (p : Known) (draws : ℕ) : Type 0 where
  pub held : p.held ≡ []
  pub rooms : p.rooms ≡ []
  pub share : share p ≡ draws
