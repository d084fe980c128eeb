use Rattle.std.proofs.Common.{◌≡◌, ◌<◌, true, false, arith}
use Rattle.std.specs.Str.{bytes_eq}
use Rattle.grant_history.specs.Periods.{periods_have}
use Rattle.feed_rows.proofs.Searching.{lasts_none, lasts_before, last_begun, last_placed, lasts_by}
use Rattle.feed_rows.proofs.lasting.channel_lasting.Goals as goal

pub returns-then-begun-eq0 : goal.returns-then-begun-eq0
returns-then-begun-eq0 c =
    lasts_none c.args.periods.now c.args.channel.now c.args.k (λ i d w. c.begun-begun.ensures.after i d (omega (arith, c.if-begun-eq0.true)) w)

pub returns-then-ne : goal.returns-then-ne
returns-then-ne c =
    let some : 0 < c.begun-begun.result = omega (arith, c.if-begun-eq0.false) in
    let other : bytes_eq c.index-periods-begun.result.channel c.args.channel.now ≡ false = grind arith in
    lasts_before c.args.periods.now c.args.channel.now c.begun-begun.result c.args.k c.index-periods-begun.result some c.begun-begun.ensures.within c.index-periods-begun.is
    c.begun-begun.ensures.before c.begun-begun.ensures.after c.requires.in_order other

pub lasting_by-requires-clause-began : goal.lasting_by-requires-clause-began
lasting_by-requires-clause-began c =
    let some : 0 < c.begun-begun.result = omega (arith, c.if-begun-eq0.false) in
    let own : bytes_eq c.index-periods-begun.result.channel c.args.channel.now ≡ true = grind arith in
    last_begun c.args.periods.now c.args.channel.now c.begun-begun.result c.args.k c.index-periods-begun.result some c.begun-begun.ensures.within c.index-periods-begun.is
    c.begun-begun.ensures.before c.begun-begun.ensures.after own

pub lasting_by-requires-clause-has_places : goal.lasting_by-requires-clause-has_places
lasting_by-requires-clause-has_places c =
    let some : 0 < c.begun-begun.result = omega (arith, c.if-begun-eq0.false) in
    last_placed c.args.periods.now c.args.channel.now c.begun-begun.result c.args.k c.index-periods-begun.result some c.begun-begun.ensures.within c.index-periods-begun.is
    c.begun-begun.ensures.before c.begun-begun.ensures.after c.requires.have_places

pub returns : goal.returns
returns c =
    let some : 0 < c.begun-begun.result = omega (arith, c.if-begun-eq0.false) in
    let own : bytes_eq c.index-periods-begun.result.channel c.args.channel.now ≡ true = grind arith in
    c.lasting_by.ensures (λ j. periods_have c.args.periods.now c.args.channel.now j)
    (lasts_by c.args.periods.now c.args.channel.now c.begun-begun.result c.args.k c.index-periods-begun.result some c.begun-begun.ensures.within c.index-periods-begun.is
    c.begun-begun.ensures.before c.begun-begun.ensures.after c.requires.apart own)
