use Rattle.std.proofs.Common.{◌≡◌, ◌≤◌, ◌+◌, ◌-◌, ◌++◌, drop, map}
use Rattle.sg_history.specs.History.{past}
use Rattle.channel_cache.specs.inner.Moves.{move_in, moves_of}
use Rattle.channel_cache.proofs.moved.moved_by_all.Given as goal

-- those so far, and those of the rest
abbrev pub invariant-loop-i : goal.invariant-loop-i
invariant-loop-i l = record {
  moved : map move_in l.moved.items ++ moves_of (past l.initial.log.entries (l.at - 1)) (past l.initial.log.entries l.at) (drop l.i l.marks) l.i
      ≡ moves_of (past l.initial.log.entries (l.at - 1)) (past l.initial.log.entries l.at) l.marks 0;
  log : l.log.entries ≡ l.initial.log.entries;
  reads : l.log.reads ≤ l.initial.log.reads + l.i;
}
