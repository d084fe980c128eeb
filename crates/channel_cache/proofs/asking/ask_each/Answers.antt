use Rattle.std.proofs.Common.{◌≡◌, ◌∙◌, ◌+◌, ◌∷◌, ap, sym, subst, arith, refl, ℕ, List, drop, take}
use Rattle.std.proofs.lemmas.List.{drop_all, take_all}
use Rattle.sg_history.specs.History.{past}
use Rattle.channel_cache.specs.Asked.{asked_after, asked_after_all, refills_of}
use Rattle.channel_cache.specs.inner.Asking.{Asks, names_of}
use Rattle.channel_cache.proofs.Changing.{split, taken_more}
use Rattle.channel_cache.proofs.asking.ask_each.Goals as goal

pub loop-channel-init : goal.loop-channel-init
loop-channel-init c = record {
  cap = refl;
  room = refl;
  nothing = c.requires.nothing;
  idle = λ none. refl;
  bound = omega arith;
  refills = omega arith;
  names = refl;
  asks = λ entries indexed asks. asks;
}

pub ask_one-requires-clause-room : goal.ask_one-requires-clause-room
ask_one-requires-clause-room c = c.loop-channel.invariant.room ∙ c.requires.room

pub loop-channel-preserved : goal.loop-channel-preserved
loop-channel-preserved c =
    let most = c.args.lists.now.cap in
    let channels = c.args.channels.now in
    let i = c.loop-channel.channel-index in
    let a = c.channel-item.result in
    let old = c.loop-channel.lists.entries in
    let new = c.ask_one.new.lists.entries in
    let left : a ∷ drop (i + 1) channels ≡ drop i channels = split channels i a (omega arith) c.channel-item.is in
    let names : names_of new ≡ asked_after most a (names_of old) =
    c.in_ok-one.ensures.names ∙ ap (λ (m : ℕ). asked_after m a (names_of old)) c.loop-channel.invariant.cap in
    let refills : refills_of most (drop i channels) (names_of old) ≡ c.in_ok-one.one + refills_of most (drop (i + 1) channels) (names_of new) =
    ap (λ (l : List (List ℕ)). refills_of most l (names_of old)) (sym left)
    ∙ ap (λ (n : ℕ). n + refills_of most (drop (i + 1) channels) (asked_after most a (names_of old))) (sym c.in_ok-one.ensures.refills)
    ∙ ap (λ (l : List (List ℕ)). c.in_ok-one.one + refills_of most (drop (i + 1) channels) l) (sym names) in
    record {
      cap = c.ask_one.ensures.cap ∙ c.loop-channel.invariant.cap;
      room = c.ask_one.ensures.room ∙ c.loop-channel.invariant.room;
      nothing = c.in_ok-one.ensures.nothing;
      idle = λ none. c.in_ok-one.ensures.idle (omega (arith, none)) ∙ c.loop-channel.invariant.idle (omega (arith, none));
      bound = omega (arith, c.loop-channel.invariant.bound, c.in_ok-one.ensures.once);
      refills = omega (arith, refills, c.loop-channel.invariant.refills);
      names =
          ap (asked_after_all most (drop (i + 1) channels)) names
          ∙ ap (λ (l : List (List ℕ)). asked_after_all most l (names_of old)) left
          ∙ c.loop-channel.invariant.names;
      asks = λ entries indexed asks.
          subst (λ (l : List (List ℕ)). Asks (past entries c.args.to) new c.ask_one.new.wanted.entries c.ask_one.new.found.items l) (taken_more channels i a (omega arith) c.channel-item.is)
          (c.in_ok-one.ensures.asks entries (take i channels) indexed (c.loop-channel.invariant.asks entries indexed asks));
    }

pub returns-clause-refills : goal.returns-clause-refills
returns-clause-refills c =
    let most = c.args.lists.now.cap in
    let none = drop_all c.loop-channel.channel-index c.args.channels.now (omega (arith, c.loop-channel-test.false)) in
    omega (arith, c.loop-channel.invariant.refills, ap (λ (l : List (List ℕ)). refills_of most l (names_of c.loop-channel.lists.entries)) none)

pub returns-clause-names : goal.returns-clause-names
returns-clause-names c =
    let most = c.args.lists.now.cap in
    let none = drop_all c.loop-channel.channel-index c.args.channels.now (omega (arith, c.loop-channel-test.false)) in
    ap (λ (l : List (List ℕ)). asked_after_all most l (names_of c.loop-channel.lists.entries)) (sym none) ∙ c.loop-channel.invariant.names

pub returns-clause-asks : goal.returns-clause-asks
returns-clause-asks c = λ entries indexed asks.
    subst (λ (l : List (List ℕ)). Asks (past entries c.args.to) c.loop-channel.lists.entries c.loop-channel.wanted.entries c.loop-channel.found.items l)
    (take_all c.loop-channel.channel-index c.args.channels.now (omega (arith, c.loop-channel-test.false)))
    (c.loop-channel.invariant.asks entries indexed asks)
