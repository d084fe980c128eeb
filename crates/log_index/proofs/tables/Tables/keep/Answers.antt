use Rattle.std.proofs.Common.{sym}
use Rattle.log_index.proofs.tables.Tables.keep.Goals as goal

pub returns-in_ok-keep_write-in-Some-clause-ok : goal.returns-in_ok-keep_write-in-Some-clause-ok
returns-in_ok-keep_write-in-Some-clause-ok c = λ es seq is.
    c.in_ok-keep_write-in-Some.ensures.ok es c.args.entry.now (c.in-Some.ensures.only c.in-Some.write.now (sym c.in-Some.ensures.write)) seq is

pub returns-in_ok-keep_sync-in-None-clause-ok : goal.returns-in_ok-keep_sync-in-None-clause-ok
returns-in_ok-keep_sync-in-None-clause-ok c = λ es seq is.
    c.in_ok-keep_sync-in-None.ensures.ok es c.args.entry.now (sym c.in-None.ensures.write) (sym c.as_sync.ensures) seq is
