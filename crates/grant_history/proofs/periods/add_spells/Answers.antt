use Rattle.std.proofs.Common.{◌∙◌, ap, arith, [], ◌∷◌, ◌++◌, get_or, None}
use Rattle.std.proofs.lemmas.List.{get_or_default}
use Rattle.grant_history.specs.declared.periods.Period.{Period}
use Rattle.grant_history.specs.Periods.{period_of}
use Rattle.grant_tracks.proofs.Gathered.{map_over, map_end}
use Rattle.grant_history.proofs.periods.add_spells.Goals as goal

pub loop-spell-preserved : goal.loop-spell-preserved
loop-spell-preserved c =
    let spells = c.args.spells.now in
    let i = c.loop-spell.spell-index in
    map_over (period_of c.args.channel.now) spells i (get_or spells i (record { from = 0; to = None })) _ _ (omega arith) (get_or_default spells i _ _ (omega arith))
    (c.in_ok-push.ensures.items ∙ ap (λ (one : Period). c.loop-spell.periods.items ++ one ∷ []) c.in_ok-make_period.ensures)
    ∙ c.loop-spell.invariant

pub returns : goal.returns
returns c = map_end (period_of c.args.channel.now) c.args.spells.now c.loop-spell.spell-index _ (omega (arith, c.loop-spell-test.false)) ∙ c.loop-spell.invariant
