use Rattle.std.proofs.Common.{◌∙◌, arith, get_or}
use Rattle.std.specs.Borrow.{Bor}
use Rattle.std.proofs.lemmas.List.{get_or_default}
use Rattle.grant_tracks.specs.declared.held.Held.{Held}
use Rattle.grant_tracks.specs.inner.Passing.{passes_at}
use Rattle.grant_tracks.proofs.Cutting.{moves_over, none_over}
use Rattle.grant_tracks.proofs.held.held_of.Goals as goal

pub loop-i-preserved : goal.loop-i-preserved
loop-i-preserved c = λ test.
    let list = c.args.list.now in
    let n = c.loop-i.i-index in
    moves_over (λ (h : Bor Held). test h.now) (passes_at c.args.all.now c.args.k test) list n (get_or list n 0) c.loop-i.held.items c.add_held.new.held.items (omega arith) (get_or_default list n 0 _ (omega arith)) (c.in_ok-add_held.ensures test)
    ∙ c.loop-i.invariant test

pub returns : goal.returns
returns c = λ test.
    none_over (λ (h : Bor Held). test h.now) (passes_at c.args.all.now c.args.k test) c.args.list.now c.loop-i.i-index c.loop-i.held.items (omega (arith, c.loop-i-test.false))
    ∙ c.loop-i.invariant test
