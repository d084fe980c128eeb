use Rattle.std.proofs.Common.{◌≡◌, ◌≤◌, ◌++◌, List, ℕ, map, take}
use Rattle.sg_outside.specs.Files.{Load}
use Rattle.command_line.specs.Loads.{AreAcceptedLoads}
use Rattle.replay_command.specs.Inputs.{AreSessionsIn, HaveFiles, IsBadFileAt, IsGoodFile}
use Rattle.replay_command.proofs.inputs.load_sessions.Given as goal

abbrev pub invariant-loop-i : goal.invariant-loop-i
invariant-loop-i g l = record {
  kept : g.F.Files.recorded l.files ≡ g.F.Files.recorded l.fn.files;
  rises : g.F.Files.faults l.fn.files ≤ g.F.Files.faults l.files;
  read : (contents : List (List ℕ)) → HaveFiles (g.F.Files.recorded l.fn.files) (map (λ p. p.now) l.paths) contents → AreSessionsIn (take l.i contents) l.sessions.items;
  loads : (done : List Load) × (g.F.Files.loads l.files ≡ g.F.Files.loads l.fn.files ++ done) × AreAcceptedLoads (g.F.Files.recorded l.fn.files) IsGoodFile IsBadFileAt 3 (take l.i (map (λ p. p.now) l.paths)) done;
}
