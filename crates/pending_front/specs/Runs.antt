-- Lists of steps of a world.
use Rattle.std.specs.Prelude.{List, [], ◌∷◌, length}
use Rattle.sg_history.specs.declared.entries.Entry.{Entry}
use Rattle.sg_history.specs.World.{World, Step, MayStep, world_after}

-- the world of a log: a number was drawn for each of its places, none is held, and no entry waits
abbrev pub world_of : List Entry → World
world_of log = record { count = length log; held = []; pending = []; log = log }

-- what steps make of a world, one after another
abbrev pub world_after_all : World → List Step → World
world_after_all world [] = world
world_after_all world (first ∷ others) = world_after_all (world_after world first) others

-- each of these steps may be made in the world that those before it led to
abbrev pub MayRun : World → List Step → Type 0
MayRun world [] = Unit {0}
MayRun world (first ∷ others) = MayStep world first × MayRun (world_after world first) others
