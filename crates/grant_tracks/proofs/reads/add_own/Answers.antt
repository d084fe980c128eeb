use Rattle.std.proofs.Common.{◌∙◌, ap, Bool, ◌||◌}
use Rattle.std.specs.List.{list_any}
use Rattle.sg_history.specs.History.{among}
use Rattle.grant_tracks.specs.Reads.{is_channel, gives_channel, by_roles}
use Rattle.grant_tracks.proofs.Tracked.{on_ok}
use Rattle.grant_tracks.proofs.reads.add_own.Goals as goal

pub returns : goal.returns
returns c = record {
  among = on_ok c.add_held.result _ _ (λ is x.
      is x
      ∙ ap (λ (b : Bool). b || (list_any (λ h. is_channel h.now.what x) c.as_slice.result.now || among c.args.list.now.items x))
      (ap (λ l. list_any (λ h. gives_channel c.args.roles.now h.now.what c.args.k x) l) c.as_slice.ensures.value ∙ c.in_ok-held.ensures (λ h. gives_channel c.args.roles.now h.what c.args.k x))
      ∙ ap (λ (b : Bool). by_roles c.args.roles.now c.args.all.now.items c.args.k x || (b || among c.args.list.now.items x))
      (ap (λ l. list_any (λ h. is_channel h.now.what x) l) c.as_slice.ensures.value ∙ c.in_ok-held.ensures (λ h. is_channel h.what x))) c.add_held.ensures.among;
}
