use Rattle.std.proofs.Common.{refl, arith, [], None}
use Rattle.grant_tracks.specs.Holdings.{count_in, one_more}
use Rattle.grant_tracks.proofs.Tracked.{any_err}
use Rattle.grant_tracks.proofs.HeldBy.{holder_dated, recounted_of, more_counts_of, unchanged}
use Rattle.grant_tracks.proofs.holders.add.Goals as goal

pub returns-clause-ok : goal.returns-clause-ok
returns-clause-ok c =
    let old = c.args.holders.now in
    let new = c.put.new.map in
    let name = c.args.name.now in
    let holding = c.in_ok-holding.holding in
    recounted_of old new c.args.at _ _ (holder_dated old new name holding c.in_ok-put.ensures.ok None c.args.at (one_more (count_in []) c.args.what.now) c.requires c.in_ok-holding.ensures.since (omega (arith, c.in_ok-holding.ensures.changed)) c.in_ok-holding.ensures.dated) (more_counts_of old name None c.requires c.args.what.now)

pub returns-in_err-holding-clause-err : goal.returns-in_err-holding-clause-err
returns-in_err-holding-clause-err c = any_err c.from_residual.result _ (unchanged c.args.holders.now c.args.holders.now c.args.at (λ other. refl))

pub returns-in_err-put-clause-err : goal.returns-in_err-put-clause-err
returns-in_err-put-clause-err c = any_err c.from_residual-in_err-put.result _ (unchanged c.args.holders.now c.put.new.map c.args.at c.in_err-put.ensures.err)
