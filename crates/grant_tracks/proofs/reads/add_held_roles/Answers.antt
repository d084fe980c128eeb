use Rattle.std.proofs.Common.{◌∙◌, ap, Bool, ◌||◌}
use Rattle.std.specs.List.{list_any}
use Rattle.sg_history.specs.History.{among}
use Rattle.grant_tracks.specs.Reads.{is_existing}
use Rattle.grant_tracks.proofs.Tracked.{on_ok}
use Rattle.grant_tracks.proofs.reads.add_held_roles.Goals as goal

pub returns : goal.returns
returns c = record {
  among = on_ok c.add_roles.result _ _ (λ is x.
      is x ∙ ap (λ (b : Bool). b || among c.args.list.now.items x)
      (ap (λ l. list_any (λ h. is_existing c.args.roles.now h.now.what c.args.k x) l) c.as_slice.ensures.value ∙ c.in_ok-held.ensures (λ h. is_existing c.args.roles.now h.what c.args.k x))) c.add_roles.ensures.among;
}
