use Rattle.std.proofs.Common.{arith, length, take, ap, List, ℕ, Bor, length-append, ◌<◌, ◌≡◌, ◌∙◌}
use Rattle.std.proofs.lemmas.List.{length-map, length-set, length-take-le, take_more_set}
use Rattle.sg_history.proofs.PieceLemmas.{pieces-end, pieces-next, pieces-some}
use Rattle.sg_history.proofs.pieces.fields_of.Goals as goal

pub returns-in-None-clause-all : goal.returns-in-None-clause-all
returns-in-None-clause-all c =
    let into = c.loop-i.into in
    let inside : c.loop-i.i < length into = omega arith in
    pieces-end (λ (p : Bor (List ℕ)). p.now) 9 c.args.line.now (take c.loop-i.i into) _ c.loop-i.rest c.loop-i.invariant.all c.in-None.ensures.none
    (take_more_set into c.loop-i.i c.loop-i.rest inside)

pub loop-i-preserved : goal.loop-i-preserved
loop-i-preserved c =
    let into = c.loop-i.into in
    let cut = c.in-Some.ensures.some in
    let inside : c.loop-i.i < length into = omega arith in
    record {
      long = length-set into c.loop-i.i c.in-Some.front ∙ c.loop-i.invariant.long;
      all =
          pieces-next (λ (p : Bor (List ℕ)). p.now) 9 c.args.line.now (take c.loop-i.i into) _ c.in-Some.front c.loop-i.rest.now c.in-Some.back.now c.loop-i.invariant.all cut.0 cut.1
          (take_more_set into c.loop-i.i c.in-Some.front inside);
    }

pub returns-clause-more : goal.returns-clause-more
returns-clause-more c =
    let most = length c.args.into.now in
    let some = pieces-some 9 c.loop-i.rest.now in
    let long : length (take most c.loop-i.into) ≡ most = length-take-le most c.loop-i.into (omega arith) in
    let all = simp (length-append, length-map) at (ap length c.loop-i.invariant.all) in
    let i : c.loop-i.i ≡ most = omega arith in
    omega (arith, all, some, ap (λ n. length (take n c.loop-i.into)) i, long)
