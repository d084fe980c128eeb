use Rattle.std.proofs.Common.{List, ℕ, sym, subst}
use Rattle.changes_feed.specs.Switches.{AreSwitches}
use Rattle.changes_feed.proofs.Outcomes.{if_ok}
use Rattle.changes_feed.proofs.Turning.{none_when_steady}
use Rattle.changes_feed.proofs.switched.switched_since.Goals as goal

pub returns : goal.returns
returns c = if_ok c.switched.result _ _ (λ channels h entries user last behind is steady within same. h entries user last behind is) c.switched.ensures

pub returns-then-changed-start : goal.returns-then-changed-start
returns-then-changed-start c = λ entries user last behind is steady within same.
    subst (λ (l : List (List ℕ)). AreSwitches l entries user c.args.start c.args.front) (sym c.new.ensures.items)
    (none_when_steady entries user c.args.changed c.args.start c.args.front steady c.if-changed-start.true within same)
