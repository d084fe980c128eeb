use Rattle.std.proofs.Common.{◌∙◌, ap, sym, ◌∷◌, ℕ, List}
use Rattle.sg_history.specs.History.{among, past}
use Rattle.sg_history.specs.View.{every}
use Rattle.channel_cache.proofs.Changing.{on_ok}
use Rattle.channel_cache.proofs.Filled.{fill_nothing, fill_one, fills_by}
use Rattle.channel_cache.proofs.filling.fill_entry.Goals as goal

pub channels_of-channels-requires-clause-low : goal.channels_of-channels-requires-clause-low
channels_of-channels-requires-clause-low c =
    (fills_by c.args.index.now c.args.log.now.entries c.args.seq c.args.to c.requires.index c.requires.low c.requires.high c.in-Some.document (sym c.last_document.ensures ∙ c.in-Some.is)).won

pub channels_of-channels-requires-clause-high : goal.channels_of-channels-requires-clause-high
channels_of-channels-requires-clause-high c =
    (fills_by c.args.index.now c.args.log.now.entries c.args.seq c.args.to c.requires.index c.requires.low c.requires.high c.in-Some.document (sym c.last_document.ensures ∙ c.in-Some.is)).within

pub returns-in-None-clause-ok : goal.returns-in-None-clause-ok
returns-in-None-clause-ok c =
    fill_nothing c.args.index.now c.args.log.now.entries c.args.seq c.args.to c.requires.index c.requires.low c.requires.high (sym c.last_document.ensures ∙ c.in-None.is) c.args.lists.now.entries

pub returns-in-Some-clause-ok : goal.returns-in-Some-clause-ok
returns-in-Some-clause-ok c =
    let by = fills_by c.args.index.now c.args.log.now.entries c.args.seq c.args.to c.requires.index c.requires.low c.requires.high c.in-Some.document (sym c.last_document.ensures ∙ c.in-Some.is) in
    let old = c.args.lists.now.entries in
    let new = c.enter_all.new.lists.entries in
    on_ok c.enter_all.result _ _ (λ changed.
    fill_one (past c.args.log.now.entries c.args.to) c.args.seq old new (among (every ∷ c.channels_of-channels.result.now)) c.requires.low
    (λ x. by.listed x ∙ ap (λ (l : List (List ℕ)). among (every ∷ l) x) (sym c.channels_of-channels.ensures.channels)) changed) c.enter_all.ensures.ok
