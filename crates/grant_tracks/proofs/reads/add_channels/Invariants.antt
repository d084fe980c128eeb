use Rattle.std.proofs.Common.{◌≡◌, ◌||◌, ℕ, List, drop}
use Rattle.std.specs.List.{list_any}
use Rattle.sg_history.specs.History.{among}
use Rattle.grant_tracks.specs.Reads.{is_channel}
use Rattle.grant_tracks.proofs.reads.add_channels.Given as goal

-- what is there so far with what is left is all
abbrev pub invariant-loop-one : goal.invariant-loop-one
invariant-loop-one l = (x : List ℕ) → (list_any (λ h. is_channel h.now.what x) (drop l.one-index l.held) || among l.list.items x) ≡ (list_any (λ h. is_channel h.now.what x) l.held || among l.initial.list.items x)
