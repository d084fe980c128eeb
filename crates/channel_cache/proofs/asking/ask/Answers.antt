use Rattle.std.proofs.Common.{◌∙◌, ap, sym, subst, ℕ, List, []}
use Rattle.std.specs.Prelude.{String}
use Rattle.std.specs.Global.{Global}
use Rattle.lru.specs.LruCache.{LruCache}
use Rattle.sg_history.specs.History.{past}
use Rattle.channel_cache.specs.inner.Asking.{Asks}
use Rattle.channel_cache.specs.Sequences.{Lists, holds_of}
use Rattle.channel_cache.specs.declared.sequences.Sequences.{Sequences}
use Rattle.channel_cache.proofs.AskedFor.{asks_done, asks_none, asks_same}
use Rattle.channel_cache.proofs.Listing.{are_sequences, found_all}
use Rattle.channel_cache.proofs.asking.ask.Goals as goal

abbrev entries_of : LruCache (String Global) Sequences → Lists
entries_of l = l.entries

pub ask_each-requires-clause-nothing : goal.ask_each-requires-clause-nothing
ask_each-requires-clause-nothing c = λ x s. ap (λ l. holds_of (entries_of l) x s) c.in_ok-wanted.ensures

pub ask_each-requires-clause-room : goal.ask_each-requires-clause-room
ask_each-requires-clause-room c = ap (λ (l : LruCache (String Global) Sequences). l.cap) c.in_ok-wanted.ensures

pub fill_wanted-requires-clause-none : goal.fill_wanted-requires-clause-none
fill_wanted-requires-clause-none c = λ none. c.in_ok-refills.ensures.idle none ∙ ap entries_of c.in_ok-wanted.ensures

pub returns-clause-sequences : goal.returns-clause-sequences
returns-clause-sequences c =
    let entries = c.args.log.now.entries in
    let es = past entries c.args.to in
    let channels = c.args.channels.now in
    let old = c.args.lists.now.entries in
    let wanted = c.ask_each.new.wanted.entries in
    let start : Asks es old (entries_of c.in_ok-wanted.wanted) c.new-sequences.result.items [] =
    subst (λ (l : List ℕ). Asks es old (entries_of c.in_ok-wanted.wanted) l []) (sym c.new-sequences.ensures.items)
    (subst (λ (l : Lists). Asks es old l [] []) (sym (ap entries_of c.in_ok-wanted.ensures)) (asks_none es old c.requires.lists)) in
    let asked = c.in_ok-refills.ensures.asks entries c.requires.index start in
    let filled = asks_same es c.ask_each.new.lists.entries wanted c.fill_wanted.new.wanted.entries c.ask_each.new.found.items channels c.in_ok-fill_wanted.ensures.keys asked in
    let taken = c.in_ok-take_each.ensures.asks es c.in_ok-fill_wanted.ensures.full filled in
    are_sequences es channels c.in_order.new.numbers.items c.in_order.ensures.rises
    (λ s. c.in_order.ensures.has s ∙ found_all es c.take_each.new.lists.entries c.take_each.new.found.items channels taken s)

pub returns-clause-lists : goal.returns-clause-lists
returns-clause-lists c =
    let entries = c.args.log.now.entries in
    let es = past entries c.args.to in
    let channels = c.args.channels.now in
    let old = c.args.lists.now.entries in
    let wanted = c.ask_each.new.wanted.entries in
    let start : Asks es old (entries_of c.in_ok-wanted.wanted) c.new-sequences.result.items [] =
    subst (λ (l : List ℕ). Asks es old (entries_of c.in_ok-wanted.wanted) l []) (sym c.new-sequences.ensures.items)
    (subst (λ (l : Lists). Asks es old l [] []) (sym (ap entries_of c.in_ok-wanted.ensures)) (asks_none es old c.requires.lists)) in
    let asked = c.in_ok-refills.ensures.asks entries c.requires.index start in
    let filled = asks_same es c.ask_each.new.lists.entries wanted c.fill_wanted.new.wanted.entries c.ask_each.new.found.items channels c.in_ok-fill_wanted.ensures.keys asked in
    asks_done es c.take_each.new.lists.entries c.take_each.new.found.items channels (c.in_ok-take_each.ensures.asks es c.in_ok-fill_wanted.ensures.full filled)
