-- A message that is not whole.
use Rattle.std.specs.Prelude.{ℕ, Bool, List}
use Rattle.blip_frame.specs.declared.frame.Kind.{Kind}

-- the kind and the marks of a message, the bytes of it that have come, and how many of them came since the last acknowledgement
pub record Begun : Type 0 where
  pub kind : Kind
  pub urgent : Bool
  pub no_reply : Bool
  pub bytes : List ℕ
  pub unacknowledged : ℕ
