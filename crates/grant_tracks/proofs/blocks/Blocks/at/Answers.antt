use Rattle.std.proofs.Common.{◌∙◌, sym, ap, arith, List}
use Rattle.grant_tracks.specs.declared.blocks.Block.{Block}
use Rattle.grant_tracks.specs.Blocks.{covering}
use Rattle.grant_tracks.proofs.Blocked.{covered, covered_last}
use Rattle.grant_tracks.proofs.blocks.Blocks.at.Goals as goal

pub returns-then-next-past : goal.returns-then-next-past
returns-then-next-past c =
    let past = c.as_slice-past.result.now in
    let last = c.args.self.now.last.items in
    c.as_slice.ensures.value
    ∙ covered past last c.ended-next.result c.args.k c.index-past-next.result c.ended-next.ensures.before c.ended-next.ensures.after (omega (arith, c.if-next-past.true))
    ∙ ap (λ (l : List Block). covering l last c.args.k) c.as_slice-past.ensures.value

pub returns : goal.returns
returns c =
    let past = c.as_slice-past.result.now in
    let last = c.args.self.now.last.items in
    c.as_slice-2.ensures.value
    ∙ sym (covered_last past last c.args.k (λ i d w. c.ended-next.ensures.before i d (omega (arith, w, c.if-next-past.false))))
    ∙ ap (λ (l : List Block). covering l last c.args.k) c.as_slice-past.ensures.value
