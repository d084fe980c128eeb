use Rattle.std.proofs.Common.{◌∙◌, ap, ◌++◌, ◌∷◌, [], ℕ}
use Rattle.grant_tracks.proofs.Counting.{adds_open, adds_ended}
use Rattle.grant_tracks.proofs.events.add_spell.Goals as goal

pub returns-in-None : goal.returns-in-None
returns-in-None c = adds_open c.args.begins.now.items c.push.new.self.items c.args.ends.now.items c.args.spell.now c.in-None.is c.in_ok-push.ensures.items

pub returns-in_ok-push-in-Some : goal.returns-in_ok-push-in-Some
returns-in_ok-push-in-Some c =
    adds_ended c.args.begins.now.items c.push.new.self.items c.args.ends.now.items c.push-in-Some.new.self.items c.args.spell.now c.in-Some.to c.in-Some.is c.in_ok-push.ensures.items
    (c.in_ok-push-in-Some.ensures.items ∙ ap (λ (n : ℕ). c.args.ends.now.items ++ n ∷ []) c.later.ensures)
