use Rattle.std.proofs.Common.{filter}
use Rattle.sg_history.specs.History.{documents}
use Rattle.sg_history.specs.Feed.{keeps, rows_of}
use Rattle.feed_rows.proofs.RowLists.{ordered_rises}
use Rattle.feed_rows.proofs.AnyFeed.{past_the_last, past_the_front}
use Rattle.feed_rows.proofs.ShownRows.{feed_facts}
use Rattle.feed_rows.proofs.laws.order.Goals as goal

pub returns-clause-rising : goal.returns-clause-rising
returns-clause-rising c = λ es user since options. ordered_rises (filter (λ row. keeps options since row) (rows_of es user options.filter (documents es)))

pub returns-clause-past_the_last : goal.returns-clause-past_the_last
returns-clause-past_the_last c = λ es user since options. past_the_last _ _ (feed_facts user options.filter) es since options

pub returns-clause-past_the_front : goal.returns-clause-past_the_front
returns-clause-past_the_front c = λ es user since options. past_the_front _ _ (feed_facts user options.filter) es since options
