use Rattle.std.proofs.Common.{sym, subst, arith, List}
use Rattle.grant_tracks.specs.declared.held.Held.{Held}
use Rattle.grant_tracks.specs.Dated.{Dated}
use Rattle.grant_tracks.specs.Holdings.{count_in, held_in, AreUpTo, one_more}
use Rattle.grant_tracks.proofs.holders.begun.Goals as goal

pub give-requires : goal.give-requires
give-requires c = record {
  up_to = subst (λ (l : List Held). AreUpTo l c.args.at) (sym c.new-holding.ensures.items) tt;
  since = omega (arith, c.new-holding.ensures.since);
}

pub returns-clause-dated : goal.returns-clause-dated
returns-clause-dated c = subst (λ (l : List Held). Dated count_in held_in AreUpTo l c.give.new.self.items c.args.at (one_more (count_in l) c.args.what.now)) c.new-holding.ensures.items c.in_ok-give.ensures.ok
