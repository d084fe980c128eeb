use Rattle.std.proofs.Common.{◌≡◌, ◌∙◌, ◌<◌, ◌≤◌, ◌||◌, ℕ, false, List, sym, ap, take, length, arith}
use Rattle.std.specs.List.{list_any}
use Rattle.std.proofs.lemmas.Bool.{or_from}
use Rattle.grant_history.specs.Periods.{periods_have}
use Rattle.feed_rows.proofs.Lastings.{lasts_same, any_more, take_all}
use Rattle.feed_rows.proofs.shown.lasting_of.Goals as goal

pub loop-channel-preserved : goal.loop-channel-preserved
loop-channel-preserved c =
    let periods = c.args.periods.now in
    let channels = c.args.channels.now in
    let i = c.loop-channel.channel-index in
    let item = c.channel-item.result in
    let within : i < length channels = omega arith in
    let before = c.loop-channel.invariant in
    let one = c.channel_lasting-one.ensures in
    let both = c.either-none.ensures (λ j. list_any (λ x. periods_have periods x j) (take i channels)) (λ j. periods_have periods c.as_str.result.now j) c.args.k before.lasts one in
    let was : list_any (λ x. periods_have periods x c.args.k) (take i channels) ≡ false = sym before.lasts.now ∙ before.none in
    let is : periods_have periods c.as_str.result.now c.args.k ≡ false = sym one.now ∙ c.if-one.false in
    record {
      none = both.now ∙ or_from _ _ was is;
      lasts = lasts_same _ _ c.args.k c.either-none.result
          (λ j. ap (λ (x : List ℕ). list_any (λ y. periods_have periods y j) (take i channels) || periods_have periods x j) (c.as_str.ensures.value ∙ c.channel-item.is) ∙ sym (any_more (λ y. periods_have periods y j) channels i item within))
          both;
    }

pub returns : goal.returns
returns c =
    let periods = c.args.periods.now in
    let channels = c.args.channels.now in
    let i = c.loop-channel.channel-index in
    let all : length channels ≤ i = omega arith in
    lasts_same _ _ c.args.k c.loop-channel.none
    (λ j. ap (λ (l : List (List ℕ)). list_any (λ y. periods_have periods y j) l) (take_all channels i all)) c.loop-channel.invariant.lasts
