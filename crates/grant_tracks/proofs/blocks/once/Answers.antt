use Rattle.std.proofs.Common.{◌∙◌, sym}
use Rattle.std.specs.Prelude.{nat_eq}
use Rattle.std.proofs.lemmas.List.Filters.{dedup_is}
use Rattle.std.proofs.lemmas.List.Sorted.{list_any-IsPermutation}
use Rattle.grant_tracks.proofs.Blocked.{in_dedup}
use Rattle.grant_tracks.proofs.blocks.once.Goals as goal

pub returns : goal.returns
returns c = λ x h.
    let is = dedup_is _ _ _ c.dedup.ensures.filtered in
    rw is (in_dedup _ x (sym (list_any-IsPermutation (nat_eq x) _ _ c.sort_unstable.ensures.permutation) ∙ h))
