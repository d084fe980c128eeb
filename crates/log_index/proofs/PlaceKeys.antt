-- what is kept of marks once a place was put in or taken away
use Rattle.std.proofs.Common.{◌≡◌, ℕ, refl, sym, ◌∙◌, ap, Bool, true, false, ◌&&◌, cond, if◌then◌else◌, Option, None, nat_eq}
use Rattle.std.specs.BTreeMap.{BTreeMap, get, UpdatesBy}
use Rattle.std.specs.Ordering.{nat_cmp, ordering_then, is_eq}
use Rattle.std.specs.Cmp.{tied_then, unsigned_ties}
use Rattle.std.specs.declared.cmp.Ordering.{Ordering}
use Rattle.log_index.specs.Representation.{place_at, is_seq}

-- the order of keys
abbrev pub pair_cmp : ℕ × ℕ → ℕ × ℕ → Ordering
pair_cmp x y = ordering_then (nat_cmp x.0 y.0) (nat_cmp x.1 y.1)

at_pair : (first sync f s : ℕ) → is_eq (pair_cmp (first, sync) (f, s)) ≡ (nat_eq sync s && nat_eq first f)
at_pair first sync f s =
    sym (tied_then (nat_cmp first f) (nat_cmp sync s))
    ∙ ap (λ (b : Bool). b && is_eq (nat_cmp sync s)) (sym (unsigned_ties first f))
    ∙ ap (λ (b : Bool). nat_eq first f && b) (sym (unsigned_ties sync s))
    ∙ turned (nat_eq first f) (nat_eq sync s)
  where
    turned : (a b : Bool) → (a && b) ≡ (b && a)
    turned true true = refl
    turned true false = refl
    turned false true = refl
    turned false false = refl

-- places, with one put in or taken away
pub place_updated : (old new : BTreeMap (ℕ × ℕ) ℕ) (first sync : ℕ) (place : Option ℕ) → UpdatesBy pair_cmp (pair_cmp (first, sync)) old new place
    → (f s : ℕ) → place_at new f s ≡ (if nat_eq sync s && nat_eq first f then place else place_at old f s)
place_updated old new first sync place h f s =
    h.0 (f, s) ∙ ap (λ (b : Bool). cond b place (get pair_cmp old (f, s))) (at_pair first sync f s)

-- none there is none put in
pub no_seq : (sync s f : ℕ) → (nat_eq sync s && is_seq None f) ≡ false
no_seq sync s f = by (nat_eq sync s)
  where
    by : (b : Bool) → (b && false) ≡ false
    by true = refl
    by false = refl
