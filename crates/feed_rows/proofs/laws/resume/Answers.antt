use Rattle.std.proofs.Common.{◌≡◌, List, ◌++◌, length, length-append, arith, sym, subst, Some, ◌⊎◌}
use Rattle.sg_history.specs.declared.entries.Entry.{Entry}
use Rattle.sg_history.specs.History.{past}
use Rattle.sg_history.specs.Feed.{feed, row_of}
use Rattle.feed_rows.specs.Laws.{HasRow, WasSent, IsAhead}
use Rattle.feed_rows.proofs.AnyFeed.{resumed, none_lost}
use Rattle.feed_rows.proofs.Places.{past_extends}
use Rattle.feed_rows.proofs.ShownRows.{feed_facts}
use Rattle.feed_rows.proofs.laws.resume.Goals as goal

pub returns-clause-sent_or_ahead : goal.returns-clause-sent_or_ahead
returns-clause-sent_or_ahead c = λ entries more front user since options sent row within h k.
    let P : List Entry → Type 0 = λ later. HasRow (feed later user since options) row → WasSent (feed (past entries front) user since options) sent.key row ⊎ IsAhead (feed later user sent.key options) sent.key row in
    let on = past_extends entries more front (length (entries ++ more)) (omega (arith, length-append entries more)) within in
    subst P (sym on.1) (resumed _ _ (feed_facts user options.filter) on.0 (past entries front) since options sent row h) k

pub returns-clause-none_lost : goal.returns-clause-none_lost
returns-clause-none_lost c = λ entries more front user since options sent row doc within h e b asked.
    let P : List Entry → Type 0 = λ later. row_of later user options.filter doc ≡ Some row → HasRow (feed later user sent.key options) row in
    let on = past_extends entries more front (length (entries ++ more)) (omega (arith, length-append entries more)) within in
    subst P (sym on.1) (λ there. none_lost _ _ (feed_facts user options.filter) on.0 (past entries front) since options sent row doc h there b asked) e
