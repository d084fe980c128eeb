-- what a set of texts has once one was put in
use Rattle.std.proofs.Common.{◌≡◌, ◌∙◌, ℕ, refl, ap, Bool, true, false, ◌||◌, not, List, Option, Some, None, if◌then◌else◌, Bor}
use Rattle.std.specs.Prelude.{is_none, is_some}
use Rattle.std.proofs.lemmas.Map.Text.{btree_map_updates_str}
use Rattle.std.specs.BTreeMap.{BTreeMap, UpdatesBy, get_by}
use Rattle.std.specs.Cmp.Lexicographic.{slice_cmp}
use Rattle.std.specs.Ordering.{nat_cmp}
use Rattle.std.specs.Str.{bytes_eq}
use Rattle.gateway_config.specs.inner.Seen.{has}

choice : (b : Bool) (v : Unit {0}) (o : Option (Unit {0})) → is_some (if b then Some v else o) ≡ (b || is_some o)
choice true v o = refl
choice false v o = refl

pub has-after : (m n : BTreeMap (Bor (List ℕ)) (Unit {0})) (key : List ℕ) (v : Unit {0}) → UpdatesBy (λ x y. slice_cmp nat_cmp x.now y.now) (λ k. slice_cmp nat_cmp key k.now) m n (Some v)
    → (t : List ℕ) → has n t ≡ (bytes_eq key t || has m t)
has-after m n key v h t = ap is_some (btree_map_updates_str key m n (Some v) h t) ∙ choice (bytes_eq key t) v (get_by (λ k. slice_cmp nat_cmp t k.now) m)

-- what was there before says whether it is new
pub is_new : (old found : Option (Unit {0})) → old ≡ found → is_none old ≡ not (is_some found)
is_new None None h = refl
is_new (Some x) (Some y) h = refl
is_new None (Some y) h = cc
is_new (Some x) None h = cc
