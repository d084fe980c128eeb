use Rattle.std.proofs.Common.{◌≡◌, ◌∙◌, ap, sym, refl, arith, Bool, true, false, ◌&&◌, ◌||◌, not, ℕ, List, take}
use Rattle.std.specs.Str.{bytes_eq}
use Rattle.std.proofs.lemmas.Bool.{false≢true}
use Rattle.std.proofs.lemmas.List.{take_all}
use Rattle.sg_history.specs.History.{among}
use Rattle.channel_cache.specs.Sequences.{is_kept}
use Rattle.channel_cache.proofs.AskedFor.{among_more, none_wanted}
use Rattle.channel_cache.proofs.Changing.{taken_more}
use Rattle.channel_cache.proofs.asking.take_each.Goals as goal

plain : (b : Bool) → b ≡ (b && not false)
plain true = refl
plain false = refl

neither : (a b d : Bool) → ((a && not b) && not d) ≡ (a && not (b || d))
neither false b d = refl
neither true true d = refl
neither true false d = refl

gone : (a b : Bool) → (a && not b) ≡ true → b ≡ false
gone true true h = absurd (false≢true h)
gone true false h = refl
gone false b h = absurd (false≢true h)

pub loop-channel-init : goal.loop-channel-init
loop-channel-init c = record {
  cap = refl;
  keys = refl;
  wanted = λ x. plain (is_kept c.args.wanted.now.entries x);
  asks = λ es full asks. (full, asks);
}

pub loop-channel-preserved : goal.loop-channel-preserved
loop-channel-preserved c =
    let channels = c.args.channels.now in
    let i = c.loop-channel.channel-index in
    let a = c.channel-item.result in
    record {
      cap = c.take_one.ensures.cap ∙ c.loop-channel.invariant.cap;
      keys = c.in_ok-take_one.ensures.keys ∙ c.loop-channel.invariant.keys;
      wanted = λ x.
          c.in_ok-take_one.ensures.wanted x
          ∙ ap (λ (b : Bool). b && not (bytes_eq a x)) (c.loop-channel.invariant.wanted x)
          ∙ neither (is_kept c.args.wanted.now.entries x) (among (take i channels) x) (bytes_eq a x)
          ∙ ap (λ (b : Bool). is_kept c.args.wanted.now.entries x && not b)
          (sym (among_more (take i channels) a x) ∙ ap (λ (l : List (List ℕ)). among l x) (taken_more channels i a (omega arith) c.channel-item.is));
      asks = λ es full asks.
          let before = c.loop-channel.invariant.asks es full asks in
          c.in_ok-take_one.ensures.asks es channels before.0 before.1;
    }

pub returns-clause-asks : goal.returns-clause-asks
returns-clause-asks c = λ es full asks.
    let all = take_all c.loop-channel.channel-index c.args.channels.now (omega (arith, c.loop-channel-test.false)) in
    none_wanted es c.loop-channel.lists.entries c.loop-channel.wanted.entries c.loop-channel.found.items c.args.channels.now
    (λ x kept. ap (λ (l : List (List ℕ)). among l x) (sym all) ∙ gone (is_kept c.args.wanted.now.entries x) (among (take c.loop-channel.channel-index c.args.channels.now) x) (sym (c.loop-channel.invariant.wanted x) ∙ kept))
    (c.loop-channel.invariant.asks es full asks).1
