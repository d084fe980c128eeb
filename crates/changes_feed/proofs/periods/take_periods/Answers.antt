use Rattle.std.proofs.Common.{◌≡◌, ◌∙◌, ℕ, List, sym, subst}
use Rattle.std.specs.Prelude.{String, string_bytes}
use Rattle.std.specs.Global.{Global}
use Rattle.std.specs.List.{All}
use Rattle.std.specs.Map.{remove_entry}
use Rattle.std.specs.Str.{bytes_eq}
use Rattle.lru.specs.LruCache.{LruCache, lru_cache}
use Rattle.sg_history.specs.declared.entries.Entry.{Entry}
use Rattle.changes_feed.specs.Feeds.{ArePeriodsOf, of_user, of_users}
use Rattle.changes_feed.specs.declared.periods.TakenPeriods.{TakenPeriods}
use Rattle.changes_feed.proofs.UserPeriods.{kept_of, without}
use Rattle.changes_feed.proofs.periods.take_periods.Goals as goal

-- what is left once periods are taken out
left : (entries : List Entry) (old new : LruCache (String Global) TakenPeriods) (name : List ℕ) → new ≡ lru_cache (remove_entry (λ k. bytes_eq name (string_bytes k)) old.entries) old.cap
    → All (ArePeriodsOf entries) (of_users old.entries) → All (ArePeriodsOf entries) (of_users new.entries)
left entries old new name is all =
    subst (λ (l : LruCache (String Global) TakenPeriods). All (ArePeriodsOf entries) (of_users l.entries)) (sym is) (without entries (λ k. bytes_eq name (string_bytes k)) old.entries all)

pub returns-in_default-clause-kept : goal.returns-in_default-clause-kept
returns-in_default-clause-kept c = λ entries all. left entries c.args.kept.now c.pop.new.self c.as_str.result.now c.pop.ensures.entries all

pub returns-in-None-clause-kept : goal.returns-in-None-clause-kept
returns-in-None-clause-kept c = λ entries all. left entries c.args.kept.now c.pop.new.self c.as_str.result.now c.pop.ensures.entries all

pub returns-in-Some-renewed-clause-kept : goal.returns-in-Some-renewed-clause-kept
returns-in-Some-renewed-clause-kept c = λ entries all. left entries c.args.kept.now c.pop.new.self c.as_str.result.now c.pop.ensures.entries all

pub returns-in-Some-renewed-clause-of : goal.returns-in-Some-renewed-clause-of
returns-in-Some-renewed-clause-of c = λ entries stands all.
    c.in-Some-renewed.ensures.of entries stands
    (subst (λ (u : List ℕ). ArePeriodsOf entries (of_user u c.in-Some.before)) c.as_str.ensures.value
    (kept_of entries c.as_str.result.now c.args.kept.now.entries c.in-Some.before (sym c.pop.ensures.value ∙ c.in-Some.is) all))
