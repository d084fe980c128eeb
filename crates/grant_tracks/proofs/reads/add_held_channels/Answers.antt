use Rattle.std.proofs.Common.{◌∙◌, ap, Bool, ◌||◌}
use Rattle.std.specs.List.{list_any}
use Rattle.sg_history.specs.History.{among}
use Rattle.grant_tracks.specs.Reads.{is_channel}
use Rattle.grant_tracks.proofs.Tracked.{on_ok}
use Rattle.grant_tracks.proofs.reads.add_held_channels.Goals as goal

pub returns : goal.returns
returns c = record {
  among = on_ok c.add_channels.result _ _ (λ is x.
      is x ∙ ap (λ (b : Bool). b || among c.args.list.now.items x)
      (ap (λ l. list_any (λ h. is_channel h.now.what x) l) c.as_slice.ensures.value ∙ c.in_ok-held.ensures (λ h. is_channel h.what x))) c.add_channels.ensures.among;
}
