use Rattle.std.proofs.Common.{◌≡◌, ◌≤◌, ◌+◌, ◌*◌, ◌++◌, length, vec_capacity}
use Rattle.principals.specs.Script.{AreLines}
use Rattle.session_run.specs.Answered.{moment}
use Rattle.session_threads.specs.inner.Runs.{AreLinesRun}
use Rattle.session_threads.proofs.line.run_lines.Given as goal

abbrev pub invariant-loop-line : goal.invariant-loop-line
invariant-loop-line g l = record {
  all : l.fn.lines.items ≡ l.yielded ++ l.line-iterator.rest.items;
  len : l.line-iterator.rest.len ≡ length l.line-iterator.rest.items;
  lawful : AreLines l.line-iterator.rest.items;
  draws : 2 * length l.line-iterator.rest.items ≤ g.G.Ground.left l.ground;
  room : length l.outcomes.items + length l.line-iterator.rest.items ≤ vec_capacity l.outcomes;
  run : AreLinesRun l.fn.program l.fn.strict
      (moment (g.G.Ground.read l.initial.ground) (g.G.Ground.lowest_front l.initial.ground) (g.G.Ground.recorded l.initial.ground) (g.G.Ground.checkpoints l.initial.ground) (g.G.Ground.own l.initial.ground)) l.yielded l.outcomes.items
      (moment (g.G.Ground.read l.ground) (g.G.Ground.lowest_front l.ground) (g.G.Ground.recorded l.ground) (g.G.Ground.checkpoints l.ground) (g.G.Ground.own l.ground));
  origin : g.G.Ground.origin l.ground ≡ g.G.Ground.origin l.initial.ground;
}
