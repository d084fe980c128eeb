use Rattle.std.proofs.Common.{refl}
use Rattle.sg_outside.specs.declared.files.Loaded.TheVariants as loaded
use Rattle.command_line.proofs.Loads.{needs_file}
use Rattle.command_line.proofs.files.load.Goals as goal

pub returns-in-Whole-clause-loads : goal.returns-in-Whole-clause-loads
returns-in-Whole-clause-loads g c = (loaded.Whole, c.in-Whole.ensures.loads, tt, needs_file _ c.args.path.now loaded.Whole _ _ c.in-Whole.ensures.loaded)

pub returns-in-Longer-clause-loads : goal.returns-in-Longer-clause-loads
returns-in-Longer-clause-loads g c = (loaded.Longer, c.in-Longer.ensures.loads, refl, needs_file _ c.args.path.now loaded.Longer _ _ c.in-Longer.ensures.loaded)

pub returns-in-Failed-clause-loads : goal.returns-in-Failed-clause-loads
returns-in-Failed-clause-loads g c = (loaded.Failed, c.in-Failed.ensures.loads, refl, needs_file _ c.args.path.now loaded.Failed _ _ c.in-Failed.ensures.loaded)

pub returns-in-Memory-clause-loads : goal.returns-in-Memory-clause-loads
returns-in-Memory-clause-loads g c = (loaded.Memory, c.in-Memory.ensures.loads, refl, needs_file _ c.args.path.now loaded.Memory _ _ c.in-Memory.ensures.loaded)
