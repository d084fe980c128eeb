use Rattle.session_run.proofs.Naming.{session_named}
use Rattle.session_run.proofs.Storing.{session_stored}
use Rattle.session_run.proofs.Whole.{all_lead, all_right, all_own, all_judged, all_looks, all_fronts, all_reads, all_recorded}
use Rattle.session_run.proofs.laws.sessions.Goals as goal

pub returns-clause-leads : goal.returns-clause-leads
returns-clause-leads c user version strict halted turns m = all_lead _ halted turns m

pub returns-clause-right : goal.returns-clause-right
returns-clause-right c = all_right c.answers.ensures.right c.reads.ensures.before

pub returns-clause-own_bodies : goal.returns-clause-own_bodies
returns-clause-own_bodies c = all_own c.own_bodies.ensures c.answers.ensures.right c.reads.ensures.before

pub returns-clause-own : goal.returns-clause-own
returns-clause-own c = all_judged c.answers.ensures.own

pub returns-clause-looks : goal.returns-clause-looks
returns-clause-looks c = all_looks c.answers.ensures.looks

pub returns-clause-fronts : goal.returns-clause-fronts
returns-clause-fronts c = all_fronts c.answers.ensures.fronts

pub returns-clause-reads : goal.returns-clause-reads
returns-clause-reads c = all_reads c.answers.ensures.reads c.reads.ensures.transitive

pub returns-clause-recorded : goal.returns-clause-recorded
returns-clause-recorded c = all_recorded c.answers.ensures.recorded

pub returns-clause-checkpoints : goal.returns-clause-checkpoints
returns-clause-checkpoints c = session_stored

pub returns-clause-numbers : goal.returns-clause-numbers
returns-clause-numbers c setup start final ended results sent failed session =
    (session_named c.was_read.ensures.before c.pairs.ensures.put setup start final ended results sent failed session).0

pub returns-clause-closing : goal.returns-clause-closing
returns-clause-closing c setup start final ended results sent failed board session all =
    (session_named c.was_read.ensures.before c.pairs.ensures.put setup start final ended results sent failed session).1 board all
