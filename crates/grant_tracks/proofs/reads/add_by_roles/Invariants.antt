use Rattle.std.proofs.Common.{◌≡◌, ◌||◌, ℕ, List, drop}
use Rattle.std.specs.List.{list_any}
use Rattle.sg_history.specs.History.{among}
use Rattle.grant_tracks.specs.Reads.{gives_channel}
use Rattle.grant_tracks.proofs.reads.add_by_roles.Given as goal

-- what is there so far with what is left is all
abbrev pub invariant-loop-one : goal.invariant-loop-one
invariant-loop-one l = (x : List ℕ) → (list_any (λ h. gives_channel l.roles h.now.what l.k x) (drop l.one-index l.held) || among l.list.items x) ≡ (list_any (λ h. gives_channel l.roles h.now.what l.k x) l.held || among l.initial.list.items x)
