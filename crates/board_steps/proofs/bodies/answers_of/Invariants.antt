use Rattle.std.proofs.Common.{◌≡◌, ◌++◌, drop, map}
use Rattle.board_steps.specs.inner.ByLook.{looked}
use Rattle.board_steps.proofs.bodies.answers_of.Given as goal

-- the answers so far and those to what is left are those to all
abbrev pub invariant-loop-row : goal.invariant-loop-row
invariant-loop-row l =
    l.list ++ map (looked l.look l.most) (drop l.row-index l.rows) ≡ map (looked l.look l.most) l.rows
