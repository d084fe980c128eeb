use Rattle.std.proofs.Common.{◌≡◌, ◌∙◌, sym, ap, subst, arith, ◌+◌, ◌<◌, ℕ, List, [], ◌∷◌, ◌++◌, take, drop, length, get_or, Bor}
use Rattle.std.proofs.lemmas.List.{take_more, take_all, length-map, get_or-map}
use Rattle.log_views.specs.Sorted.{AreSorted}
use Rattle.grant_history.specs.inner.Gifts.{has_at_by}
use Rattle.grant_history.specs.Periods.{AreSoFar, names_of}
use Rattle.grant_history.proofs.Dividing.{none_so_far, more_so_far, parted}
use Rattle.grant_history.proofs.periods.add_periods.Goals as goal

pub loop-channel-init : goal.loop-channel-init
loop-channel-init c = none_so_far _ _ c.requires.none

pub loop-channel-preserved : goal.loop-channel-preserved
loop-channel-preserved c =
    let i = c.loop-channel.channel-index in
    let channels = c.args.channels.now in
    let one = c.channel-item.result in
    let x = one.now in
    let names = names_of channels in
    let long : length names ≡ length channels = length-map channels (λ (n : Bor (List ℕ)). n.now) in
    let low : i < length channels = omega arith in
    let within : i < length names = omega (arith, long, low) in
    let is : x ≡ get_or names i x = ap (λ (n : Bor (List ℕ)). n.now) c.channel-item.is ∙ sym (get_or-map (λ (n : Bor (List ℕ)). n.now) channels i one x low) in
    let split : take i names ++ x ∷ [] ≡ take (i + 1) names = ap (λ (y : List ℕ). take i names ++ y ∷ []) is ∙ sym (take_more names i x within) in
    let sorted : AreSorted (take i names ++ x ∷ drop (i + 1) names) = subst (λ (l : List (List ℕ)). AreSorted l) (parted names i x within is) c.requires.sorted in
    subst (λ (l : List (List ℕ)). AreSoFar l c.add_channel.new.periods.items (has_at_by c.args.gifts.now c.args.all.now.items)) split
    (more_so_far (take i names) c.loop-channel.periods.items c.add_channel.new.periods.items x (drop (i + 1) names) (has_at_by c.args.gifts.now c.args.all.now.items) c.loop-channel.invariant sorted c.in_ok-add_channel.ensures)

pub returns : goal.returns
returns c =
    let channels = c.args.channels.now in
    let names = names_of channels in
    let long : length names ≡ length channels = length-map channels (λ (n : Bor (List ℕ)). n.now) in
    subst (λ (l : List (List ℕ)). AreSoFar l c.loop-channel.periods.items (has_at_by c.args.gifts.now c.args.all.now.items))
    (take_all c.loop-channel.channel-index names (omega (arith, long, c.loop-channel-test.false))) c.loop-channel.invariant
