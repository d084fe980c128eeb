use Rattle.std.proofs.Common.{◌∙◌, ◌&&◌, arith, ℕ, get_or}
use Rattle.std.specs.Prelude.{nat_eq}
use Rattle.std.proofs.lemmas.List.{get_or_default}
use Rattle.grant_tracks.specs.inner.Passing.{is_given_at}
use Rattle.grant_tracks.proofs.Cutting.{moves_over, none_over}
use Rattle.grant_tracks.proofs.held.given_of.Goals as goal

pub loop-i-preserved : goal.loop-i-preserved
loop-i-preserved c = λ x.
    let list = c.args.list.now in
    let n = c.loop-i.i-index in
    moves_over (nat_eq x) (λ (i : ℕ). nat_eq x i && is_given_at c.args.all.now i) list n (get_or list n 0) c.loop-i.given.items c.add_given.new.given.items (omega arith) (get_or_default list n 0 _ (omega arith)) (c.in_ok-add_given.ensures x)
    ∙ c.loop-i.invariant x

pub returns : goal.returns
returns c = λ x.
    none_over (nat_eq x) (λ (i : ℕ). nat_eq x i && is_given_at c.args.all.now i) c.args.list.now c.loop-i.i-index c.loop-i.given.items (omega (arith, c.loop-i-test.false))
    ∙ c.loop-i.invariant x
