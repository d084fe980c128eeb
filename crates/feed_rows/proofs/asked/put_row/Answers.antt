use Rattle.std.proofs.Common.{◌∙◌, ap}
use Rattle.std.specs.BTreeMap.{insert_entry}
use Rattle.std.specs.Ordering.{nat_cmp, ordering_then}
use Rattle.feed_rows.proofs.Ordered.{inserted}
use Rattle.feed_rows.proofs.asked.put_row.Goals as goal

pub returns : goal.returns
returns c = λ before h.
    c.in_ok-insert.ensures.entries
    ∙ ap (λ es. insert_entry (λ x y. ordering_then (nat_cmp x.0 y.0) (nat_cmp x.1 y.1)) es (c.args.row.key.by, c.args.row.key.seq) c.args.row) h
    ∙ inserted c.args.row before
