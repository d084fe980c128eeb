use Rattle.std.proofs.Common.{sym, subst}
use Rattle.std.specs.Prelude.{String}
use Rattle.std.specs.Global.{Global}
use Rattle.std.specs.List.{All}
use Rattle.lru.specs.LruCache.{LruCache}
use Rattle.changes_feed.specs.Feeds.{ArePeriodsOf, of_users}
use Rattle.changes_feed.specs.declared.periods.TakenPeriods.{TakenPeriods}
use Rattle.changes_feed.proofs.UserPeriods.{put_all}
use Rattle.changes_feed.proofs.periods.put.Goals as goal

pub returns-in-Ok : goal.returns-in-Ok
returns-in-Ok c = λ entries is all.
    subst (λ (l : LruCache (String Global) TakenPeriods). All (ArePeriodsOf entries) (of_users l.entries)) (sym c.in-Ok.ensures.entries)
    (put_all entries c.args.kept.now c.args.name c.args.taken is all)
