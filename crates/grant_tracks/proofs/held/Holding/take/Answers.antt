use Rattle.std.proofs.Common.{◌<◌, sym, subst, List}
use Rattle.grant_tracks.specs.declared.held.Held.{Held}
use Rattle.grant_tracks.specs.Dated.{Dated}
use Rattle.grant_tracks.specs.HeldLists.{count_in, held_in, AreUpTo}
use Rattle.grant_tracks.specs.Holdings.{one_less}
use Rattle.grant_tracks.proofs.held.Holding.take.Goals as goal

pub take_one-requires-clause-given : goal.take_one-requires-clause-given
take_one-requires-clause-given c = subst (λ (l : List Held). 0 < count_in l c.args.what.now) (sym c.change_at.ensures.items) c.requires.given

pub take_one-requires-clause-up_to : goal.take_one-requires-clause-up_to
take_one-requires-clause-up_to c = subst (λ (l : List Held). AreUpTo l c.args.at) (sym c.change_at.ensures.items) c.requires.up_to

pub returns-clause-dated : goal.returns-clause-dated
returns-clause-dated c = subst (λ (l : List Held). Dated count_in held_in AreUpTo l c.take_one.new.self.items c.args.at (one_less (count_in l) c.args.what.now)) c.change_at.ensures.items c.take_one.ensures.dated
