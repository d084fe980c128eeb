use Rattle.grant_tracks.proofs.Sweeping.{finished, finished_none}
use Rattle.grant_tracks.proofs.spells.Sweep.finish.Goals as goal

pub returns-in-None : goal.returns-in-None
returns-in-None c = λ test n s. finished_none c.args.self test n s c.in-None.is

pub returns-in_ok-push-in-Some : goal.returns-in_ok-push-in-Some
returns-in_ok-push-in-Some c = λ test n s. finished c.args.self test n c.in-Some.from c.push.new.self.items s c.in-Some.is c.in_ok-push-in-Some.ensures.items
