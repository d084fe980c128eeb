-- lists of revisions
use Rattle.std.specs.Prelude.{ℕ, Bool, List, map}
use Rattle.std.specs.List.{list_all}
use Rattle.sg_names.specs.ItemList.{list_text}
use Rattle.sg_names.specs.RevId.{rev_text, is_rev}
use Rattle.sg_names.specs.declared.rev_id.RevId.{RevId}

abbrev pub revs_text : List RevId → List ℕ
revs_text revs = list_text (map (λ r. rev_text r) revs)

-- revisions in any order, in which one may stand twice
abbrev pub is_revs : List RevId → Bool
is_revs revs = list_all (λ r. is_rev r) revs
