-- texts of sync functions
use Rattle.std.specs.Prelude.{ℕ, Bool, ◌&&◌, nat_le, nat_lt, List, length}
use Rattle.sg_names.specs.Hex.{are_bytes}

-- the text of a sync function has from 1 to 65,536 bytes
abbrev pub is_sync_text : List ℕ → Bool
is_sync_text text = nat_lt 0 (length text) && nat_le (length text) 65536 && are_bytes text
