use Rattle.std.proofs.Common.{◌∙◌, ap, arith, List, ℕ, [], ◌∷◌, ◌++◌}
use Rattle.grant_tracks.specs.Listed.{is_in}
use Rattle.grant_tracks.specs.Blocks.{covering}
use Rattle.grant_tracks.proofs.Blocked.{covered_last, in_end, kept_more}
use Rattle.grant_tracks.proofs.blocks.Blocks.add.Goals as goal

pub returns-clause-ok : goal.returns-clause-ok
returns-clause-ok c = λ k le.
    let past = c.args.self.now.past.items in
    let last = c.args.self.now.last.items in
    ap (λ (l : List ℕ). is_in (covering past l k) c.args.thing) c.in_ok-push.ensures.items
    ∙ ap (λ (l : List ℕ). is_in l c.args.thing) (covered_last past (last ++ c.args.thing ∷ []) k (λ i d w. omega (arith, le, c.args.self.now.ended i d w)))
    ∙ in_end last c.args.thing

pub returns-clause-kept : goal.returns-clause-kept
returns-clause-kept c = λ k x h.
    let past = c.args.self.now.past.items in
    ap (λ (l : List ℕ). is_in (covering past l k) x) c.in_ok-push.ensures.items
    ∙ kept_more past c.args.self.now.last.items c.args.thing k x h
