use Rattle.session_run.proofs.Answering.{laws_of, all_answers}
use Rattle.session_run.proofs.Naming.{all_named}
use Rattle.session_run.proofs.Storing.{all_stored}
use Rattle.session_run.proofs.Whole.{looks_within}
use Rattle.session_run.proofs.laws.answers.Goals as goal

pub returns-clause-right : goal.returns-clause-right
returns-clause-right c start now user program strict steps h a later =
    (all_answers (laws_of c.was_read.ensures.since c.later.ensures.log c.later.ensures.fronts c.later_boards.ensures.trees c.later_boards.ensures.least c.later-2.ensures.feed c.later-2.ensures.bodies c.reads.ensures.before c.reads.ensures.reflexive c.reads.ensures.transitive c.was_read.ensures.lowest c.was_read.ensures.front) start now user program strict steps a).right h later

pub returns-clause-reads : goal.returns-clause-reads
returns-clause-reads c start now user program strict steps a =
    (all_answers (laws_of c.was_read.ensures.since c.later.ensures.log c.later.ensures.fronts c.later_boards.ensures.trees c.later_boards.ensures.least c.later-2.ensures.feed c.later-2.ensures.bodies c.reads.ensures.before c.reads.ensures.reflexive c.reads.ensures.transitive c.was_read.ensures.lowest c.was_read.ensures.front) start now user program strict steps a).reads

pub returns-clause-rise : goal.returns-clause-rise
returns-clause-rise c start now user program strict steps a =
    (all_answers (laws_of c.was_read.ensures.since c.later.ensures.log c.later.ensures.fronts c.later_boards.ensures.trees c.later_boards.ensures.least c.later-2.ensures.feed c.later-2.ensures.bodies c.reads.ensures.before c.reads.ensures.reflexive c.reads.ensures.transitive c.was_read.ensures.lowest c.was_read.ensures.front) start now user program strict steps a).rise

pub returns-clause-recorded : goal.returns-clause-recorded
returns-clause-recorded c start now user program strict steps a =
    (all_answers (laws_of c.was_read.ensures.since c.later.ensures.log c.later.ensures.fronts c.later_boards.ensures.trees c.later_boards.ensures.least c.later-2.ensures.feed c.later-2.ensures.bodies c.reads.ensures.before c.reads.ensures.reflexive c.reads.ensures.transitive c.was_read.ensures.lowest c.was_read.ensures.front) start now user program strict steps a).recorded

pub returns-clause-at_length : goal.returns-clause-at_length
returns-clause-at_length c start now user program strict steps a =
    (all_answers (laws_of c.was_read.ensures.since c.later.ensures.log c.later.ensures.fronts c.later_boards.ensures.trees c.later_boards.ensures.least c.later-2.ensures.feed c.later-2.ensures.bodies c.reads.ensures.before c.reads.ensures.reflexive c.reads.ensures.transitive c.was_read.ensures.lowest c.was_read.ensures.front) start now user program strict steps a).at_length

pub returns-clause-own : goal.returns-clause-own
returns-clause-own c start now user program strict steps a =
    (all_answers (laws_of c.was_read.ensures.since c.later.ensures.log c.later.ensures.fronts c.later_boards.ensures.trees c.later_boards.ensures.least c.later-2.ensures.feed c.later-2.ensures.bodies c.reads.ensures.before c.reads.ensures.reflexive c.reads.ensures.transitive c.was_read.ensures.lowest c.was_read.ensures.front) start now user program strict steps a).own

pub returns-clause-looks : goal.returns-clause-looks
returns-clause-looks c start now user program strict steps a =
    (all_answers (laws_of c.was_read.ensures.since c.later.ensures.log c.later.ensures.fronts c.later_boards.ensures.trees c.later_boards.ensures.least c.later-2.ensures.feed c.later-2.ensures.bodies c.reads.ensures.before c.reads.ensures.reflexive c.reads.ensures.transitive c.was_read.ensures.lowest c.was_read.ensures.front) start now user program strict steps a).looks

pub returns-clause-fronts : goal.returns-clause-fronts
returns-clause-fronts c start now user program strict steps a =
    (all_answers (laws_of c.was_read.ensures.since c.later.ensures.log c.later.ensures.fronts c.later_boards.ensures.trees c.later_boards.ensures.least c.later-2.ensures.feed c.later-2.ensures.bodies c.reads.ensures.before c.reads.ensures.reflexive c.reads.ensures.transitive c.was_read.ensures.lowest c.was_read.ensures.front) start now user program strict steps a).looks_rise

pub returns-clause-within : goal.returns-clause-within
returns-clause-within c start now user program strict steps h a later =
    looks_within c.was_read.ensures.extended start.read _ now.read h (all_answers (laws_of c.was_read.ensures.since c.later.ensures.log c.later.ensures.fronts c.later_boards.ensures.trees c.later_boards.ensures.least c.later-2.ensures.feed c.later-2.ensures.bodies c.reads.ensures.before c.reads.ensures.reflexive c.reads.ensures.transitive c.was_read.ensures.lowest c.was_read.ensures.front) start now user program strict steps a).looks later

pub returns-clause-checkpoints : goal.returns-clause-checkpoints
returns-clause-checkpoints c start now user program strict steps side a is = all_stored start now user program strict side steps a is

pub returns-clause-numbers : goal.returns-clause-numbers
returns-clause-numbers c start now user program strict steps a = (all_named c.was_read.ensures.before c.pairs.ensures.put start now user program strict steps a).0

pub returns-clause-closing : goal.returns-clause-closing
returns-clause-closing c start now user program strict steps board a all = (all_named c.was_read.ensures.before c.pairs.ensures.put start now user program strict steps a).1 board all
