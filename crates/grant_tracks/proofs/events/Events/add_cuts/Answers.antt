use Rattle.std.proofs.Common.{◌∙◌, ap, List, ◌++◌, ℕ}
use Rattle.grant_tracks.proofs.Cutting.{events_cover}
use Rattle.grant_tracks.proofs.events.Events.add_cuts.Goals as goal

pub returns : goal.returns
returns c =
    let start = c.args.cuts.now.items in
    let middle = c.extend_from_slice.new.self.items in
    events_cover start middle c.extend_from_slice-2.new.self.items c.args.self.now.begins.items c.args.self.now.ends.items
    (c.in_ok-extend_from_slice.ensures.items ∙ ap (λ (l : List ℕ). start ++ l) c.as_slice.ensures.value)
    (c.in_ok-extend_from_slice-2.ensures.items ∙ ap (λ (l : List ℕ). middle ++ l) c.as_slice-2.ensures.value)
