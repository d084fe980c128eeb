-- Lists of what may be held, each for the places up to before the next one's.
use Rattle.std.specs.Prelude.{ℕ, nat_lt, List, [], ◌∷◌, if◌then◌else◌}
use Rattle.grant_tracks.specs.declared.blocks.Block.{Block}
use Rattle.grant_tracks.specs.declared.blocks.Blocks.{Blocks}

-- the list of the first block that ends after a place, or the last one
abbrev pub covering : List Block → List ℕ → ℕ → List ℕ
covering [] last k = last
covering (b ∷ bs) last k = if nat_lt k b.to then b.list.items else covering bs last k

-- the things that may be held at a place
abbrev pub near : Blocks → ℕ → List ℕ
near blocks k = covering blocks.past.items blocks.last.items k
