use Rattle.feed_rows.proofs.AnyFeed.{feed_had, feed_has, one_each}
use Rattle.feed_rows.proofs.ShownRows.{feed_facts}
use Rattle.feed_rows.proofs.laws.members.Goals as goal

pub returns-clause-exact : goal.returns-clause-exact
returns-clause-exact c = λ es user since options row. (feed_had _ _ (feed_facts user options.filter) es since options row, feed_has _ _ (feed_facts user options.filter) es since options row)

pub returns-clause-one_each : goal.returns-clause-one_each
returns-clause-one_each c = λ es user since options row other. one_each _ _ (feed_facts user options.filter) es since options row other
