use Rattle.std.proofs.Common.{◌∙◌, ap, Bool, ◌&&◌, not}
use Rattle.std.specs.Prelude.{nat_eq}
use Rattle.channel_cache.proofs.Having.{left_one}
use Rattle.channel_cache.proofs.sequences.Sequences.leave.Goals as goal

pub returns : goal.returns
returns c = λ s.
    let l = c.gather_entered.new.self in
    left_one l.list.items l.left.items c.push.new.self.items l.entered.items c.args.seq s c.in_ok-gather_entered.ensures.entered c.in_ok-push.ensures.items
    ∙ ap (λ (b : Bool). b && not (nat_eq s c.args.seq)) (c.in_ok-gather_entered.ensures.same s)
