use Rattle.feed_rows.proofs.Ordered.{only_feed}
use Rattle.feed_rows.proofs.laws.only.Goals as goal

pub returns : goal.returns
returns c = λ es user since options rows rises are. only_feed es user since options rows rises (λ r. (are r).0) (λ r. (are r).1)
