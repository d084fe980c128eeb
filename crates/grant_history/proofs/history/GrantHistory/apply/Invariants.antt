use Rattle.std.proofs.Common.{◌≡◌, ◌<◌, ◌≤◌, ℕ, ◌+◌, ◌*◌, ◌-◌, max, min}
use Rattle.sg_history.specs.History.{past}
use Rattle.grant_history.specs.Ledger.{GiveSame}
use Rattle.grant_history.specs.Stands.{StandsFor}
use Rattle.grant_history.proofs.history.GrantHistory.apply.Given as goal

-- the log is applied up to here
abbrev pub invariant-loop-self : goal.invariant-loop-self
invariant-loop-self l = record {
  stands : StandsFor l.self l.initial.log.entries;
  log : l.log.entries ≡ l.initial.log.entries;
  from : l.initial.self.applied ≤ l.self.applied;
  up_to : l.self.applied ≤ max l.initial.self.applied l.to;
  counted : min (l.initial.log.reads + (l.self.applied - l.initial.self.applied)) 18446744073709551615 ≤ l.log.reads;
  reads : l.log.reads ≤ l.initial.log.reads + 2 * (l.self.applied - l.initial.self.applied);
  same : ((k : ℕ) → l.initial.self.applied ≤ k → k < l.to → GiveSame (past l.initial.log.entries (k + 1)) (past l.initial.log.entries k)) → l.self.changed ≡ l.initial.self.changed;
}

abbrev pub decreases-loop-self : goal.decreases-loop-self
decreases-loop-self l = l.to - l.self.applied
