use Rattle.std.proofs.Common.{◌∙◌, ap, Bool, List, ◌&&◌, ◌||◌}
use Rattle.std.specs.Str.{bytes_eq}
use Rattle.grant_tracks.specs.declared.spells.Spell.{Spell}
use Rattle.grant_history.specs.inner.Gifts.{gifts_have}
use Rattle.grant_tracks.specs.Spells.{spells_have}
use Rattle.grant_tracks.proofs.Tracked.{on_ok}
use Rattle.grant_history.proofs.gifts.add_way.Goals as goal

pub returns : goal.returns
returns c = on_ok c.add_spells.result _ _ (λ more x k.
    more x k
    ∙ ap (λ (b : Bool). (bytes_eq c.args.channel.now x && b) || gifts_have c.args.gifts.now x k)
    (ap (λ (l : List Spell). spells_have l k) c.as_slice.ensures.value ∙ c.in_ok-spells.ensures.says k)) c.add_spells.ensures
