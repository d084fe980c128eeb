use Rattle.std.proofs.Common.{◌≡◌, ℕ, List, Some, arith, if◌then◌else◌}
use Rattle.std.specs.BTreeMap.{get_by_text}
use Rattle.std.specs.Str.{bytes_eq}
use Rattle.std.proofs.lemmas.Map.Text.{text_keys}
use Rattle.grant_tracks.specs.Holdings.{count_in, one_less}
use Rattle.grant_tracks.proofs.HeldBy.{holder_dated, recounted_of, less_counts_of}
use Rattle.grant_tracks.proofs.holders.take.Goals as goal

pub take-requires-clause-up_to : goal.take-requires-clause-up_to
take-requires-clause-up_to c = (c.requires.up_to c.args.name.now c.in-Some.holding.now (grind (arith, text_keys))).0

pub take-requires-clause-since : goal.take-requires-clause-since
take-requires-clause-since c = (c.requires.up_to c.args.name.now c.in-Some.holding.now (grind (arith, text_keys))).1

pub returns-in-Some : goal.returns-in-Some
returns-in-Some c =
    let old = c.args.holders.now in
    let new = c.get_mut.follows.lender c.take.new.self in
    let name = c.args.name.now in
    let sets : (other : List ℕ) → get_by_text new other ≡ (if bytes_eq name other then Some c.take.new.self else get_by_text old other) = λ other. grind (arith, text_keys) in
    let there : get_by_text old name ≡ Some c.in-Some.holding.now = grind (arith, text_keys) in
    recounted_of old new c.args.at _ _ (holder_dated old new name c.take.new.self sets (Some c.in-Some.holding.now) c.args.at (one_less (count_in c.in-Some.holding.now.items) c.args.what.now) there c.take.ensures.since (omega (arith, c.take.ensures.changed)) c.take.ensures.dated)
    (less_counts_of old name (Some c.in-Some.holding.now) there c.args.what.now)
