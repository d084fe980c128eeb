use Rattle.std.proofs.Common.{◌∙◌, sym, arith}
use Rattle.grant_tracks.proofs.Blocked.{covered_last}
use Rattle.grant_tracks.proofs.blocks.Blocks.last.Goals as goal

pub returns : goal.returns
returns c = λ k le.
    c.as_slice.ensures.value
    ∙ sym (covered_last c.args.self.now.past.items c.args.self.now.last.items k (λ i d w. omega (arith, le, c.args.self.now.ended i d w)))
