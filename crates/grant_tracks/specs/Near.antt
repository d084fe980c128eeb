-- When the lists of what may be held miss nothing that is held.
use Rattle.std.specs.Prelude.{◌≡◌, ℕ, true, List, Some, slice_get}
use Rattle.grant_tracks.specs.declared.held.Held.{Held}
use Rattle.grant_tracks.specs.declared.blocks.Blocks.{Blocks}
use Rattle.grant_tracks.specs.Tracks.{held_at}
use Rattle.grant_tracks.specs.Listed.{is_in}
use Rattle.grant_tracks.specs.Blocks.{near}

-- each thing is, for each place at which it is held, in the list of what may be held there
abbrev pub MissNothing : List Held → Blocks → Type 0
MissNothing list blocks = (i k : ℕ) (h : Held) → slice_get list i ≡ Some h → held_at h.track k ≡ true → is_in (near blocks k) i ≡ true
