use Rattle.std.proofs.Common.{◌∙◌, ◌+◌, arith, refl, get_or}
use Rattle.std.proofs.lemmas.Result.{IfOk-weaker}
use Rattle.grant_tracks.specs.Ways.{ways_have}
use Rattle.grant_tracks.proofs.Cutting.{none_left, rest_after, says_all, stays_before}
use Rattle.grant_tracks.proofs.sweeps.spells_by.Goals as goal

pub loop-k-init : goal.loop-k-init
loop-k-init c = record {
  swept = c.new-sweep.ensures (ways_have c.args.ways.now) c.has.ensures;
  rest = λ j le h. c.requires.steady j h;
}

pub loop-k-preserved : goal.loop-k-preserved
loop-k-preserved c =
    let test = ways_have c.args.ways.now in
    let cuts = c.args.cuts.now in
    let i = c.loop-k.k-index in
    let k = get_or cuts i 0 in
    let stays = stays_before test cuts i c.loop-k.at k c.requires.rise c.loop-k-test.true refl c.loop-k.invariant.rest in
    record {
      swept = c.in_ok-at.ensures.swept c.loop-k.invariant.swept stays;
      rest = rest_after test cuts i c.loop-k.at k c.requires.rise c.loop-k-test.true refl c.loop-k.invariant.rest c.in_ok-at.at (omega (arith, c.in_ok-at.ensures.place)) (omega (arith, c.in_ok-at.ensures.place));
    }

pub returns-clause-apart : goal.returns-clause-apart
returns-clause-apart c = IfOk-weaker c.finish.result _ _ (λ list is. (is _ _ c.loop-k.invariant.swept).0) c.finish.ensures

pub returns-clause-says : goal.returns-clause-says
returns-clause-says c = IfOk-weaker c.finish.result _ _ (λ list is k.
    (is _ _ c.loop-k.invariant.swept).1 k
    ∙ says_all c.loop-k.sweep (ways_have c.args.ways.now) c.loop-k.at c.loop-k.invariant.swept
    (λ j le. c.loop-k.invariant.rest j le (none_left c.args.cuts.now c.loop-k.k-index (j + 1) (omega (arith, c.loop-k-test.false)))) k) c.finish.ensures
