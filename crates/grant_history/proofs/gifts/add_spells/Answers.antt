use Rattle.std.proofs.Common.{◌≡◌, arith, List, ℕ, Some, if◌then◌else◌}
use Rattle.std.specs.BTreeMap.{get_by_text}
use Rattle.std.specs.Str.{bytes_eq}
use Rattle.std.proofs.lemmas.Map.Text.{text_keys}
use Rattle.grant_history.proofs.Gifting.{one_more, list_more}
use Rattle.grant_tracks.proofs.Tracked.{on_ok}
use Rattle.grant_history.proofs.gifts.add_spells.Goals as goal

pub returns-in-Some : goal.returns-in-Some
returns-in-Some c =
    let old = c.args.gifts.now in
    let new = c.get_mut.follows.lender c.add_to.new.gifts in
    let name = c.args.channel.now in
    let sets : (x : List ℕ) → get_by_text new x ≡ (if bytes_eq name x then Some c.add_to.new.gifts else get_by_text old x) = λ x. grind (arith, text_keys) in
    let there : get_by_text old name ≡ Some c.in-Some.kept.now = grind (arith, text_keys) in
    on_ok c.add_to.result _ _ (λ more. one_more old new name c.add_to.new.gifts c.args.spells.now (Some c.in-Some.kept.now) there (list_more c.in-Some.kept.now.list.items c.add_to.new.gifts.list.items c.args.spells.now more) sets) c.add_to.ensures
