use Rattle.std.proofs.Common.{◌≡◌, ℕ, List, Some, arith, if◌then◌else◌}
use Rattle.std.specs.BTreeMap.{get_by_text}
use Rattle.std.specs.Str.{bytes_eq}
use Rattle.std.proofs.lemmas.Map.Text.{text_keys}
use Rattle.grant_tracks.specs.Holdings.{count_in, one_more}
use Rattle.grant_tracks.proofs.Tracked.{on_ok, on_err}
use Rattle.grant_tracks.proofs.HeldBy.{holder_dated, recounted_of, more_counts_of, kept_counts}
use Rattle.grant_tracks.proofs.holders.give.Goals as goal

pub give-requires : goal.give-requires
give-requires c =
    let had = c.requires c.args.name.now c.in-Some.holding.now (grind (arith, text_keys)) in
    record { up_to = had.0; since = had.1 }

pub returns-in-Some-clause-ok : goal.returns-in-Some-clause-ok
returns-in-Some-clause-ok c =
    let old = c.args.holders.now in
    let new = c.get_mut.follows.lender c.give.new.self in
    let name = c.args.name.now in
    let sets : (other : List ℕ) → get_by_text new other ≡ (if bytes_eq name other then Some c.give.new.self else get_by_text old other) = λ other. grind (arith, text_keys) in
    let there : get_by_text old name ≡ Some c.in-Some.holding.now = grind (arith, text_keys) in
    on_ok c.give.result _ _ (λ d. recounted_of old new c.args.at _ _ (holder_dated old new name c.give.new.self sets (Some c.in-Some.holding.now) c.args.at (one_more (count_in c.in-Some.holding.now.items) c.args.what.now) there c.give.ensures.since (omega (arith, c.give.ensures.changed)) d)
    (more_counts_of old name (Some c.in-Some.holding.now) there c.args.what.now)) c.give.ensures.ok

pub returns-in-Some-clause-err : goal.returns-in-Some-clause-err
returns-in-Some-clause-err c =
    let old = c.args.holders.now in
    let new = c.get_mut.follows.lender c.give.new.self in
    let name = c.args.name.now in
    let sets : (other : List ℕ) → get_by_text new other ≡ (if bytes_eq name other then Some c.give.new.self else get_by_text old other) = λ other. grind (arith, text_keys) in
    let there : get_by_text old name ≡ Some c.in-Some.holding.now = grind (arith, text_keys) in
    on_err c.give.result _ _ (λ d. recounted_of old new c.args.at _ _ (holder_dated old new name c.give.new.self sets (Some c.in-Some.holding.now) c.args.at (count_in c.in-Some.holding.now.items) there c.give.ensures.since (omega (arith, c.give.ensures.changed)) d)
    (kept_counts old name (Some c.in-Some.holding.now) there)) c.give.ensures.err
