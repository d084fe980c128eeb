use Rattle.grant_tracks.proofs.Tracked.{begun, on_ok}
use Rattle.grant_tracks.proofs.held.Holding.add.Goals as goal

pub returns-clause-ok : goal.returns-clause-ok
returns-clause-ok c = on_ok c.keep.result _ _ (λ is. begun c.args.what.now c.in_ok-held.held c.args.at c.in_ok-held.ensures.what c.in_ok-held.ensures.track c.args.self.now.items c.keep.new.self.items is c.requires.place) c.keep.ensures.ok
