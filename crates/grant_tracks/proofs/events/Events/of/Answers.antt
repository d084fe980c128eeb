use Rattle.std.proofs.Common.{◌∙◌, arith, get_or, None}
use Rattle.std.proofs.lemmas.List.{get_or_default}
use Rattle.grant_tracks.specs.declared.spells.Spell.{Spell}
use Rattle.grant_tracks.proofs.Counting.{counts_begin, counts_more, counts_end}
use Rattle.grant_tracks.proofs.events.Events.of.Goals as goal

pub loop-spell-init : goal.loop-spell-init
loop-spell-init c = counts_begin _ _ c.args.spells.now c.in_ok-begins.ensures.items c.in_ok-ends.ensures.items

pub loop-spell-preserved : goal.loop-spell-preserved
loop-spell-preserved c =
    let spells = c.args.spells.now in
    let i = c.loop-spell.spell-index in
    let s : Spell = get_or spells i (record { from = 0; to = None }) in
    counts_more spells i s c.loop-spell.begins.items c.loop-spell.ends.items c.add_spell.new.begins.items c.add_spell.new.ends.items (omega arith)
    (get_or_default spells i _ _ (omega arith)) c.loop-spell.invariant c.in_ok-add_spell.ensures

pub returns : goal.returns
returns c = λ k. c.new.ensures k ∙ counts_end c.loop-spell.begins.items c.loop-spell.ends.items c.args.spells.now c.loop-spell.spell-index (omega (arith, c.loop-spell-test.false)) c.loop-spell.invariant k
