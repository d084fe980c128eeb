-- the ancestors that are kept
use Rattle.std.proofs.Common.{◌≡◌, ℕ, suc, ◌+◌, min, true, false, Bool, List, [], ◌∷◌, length, take, refl, ap, arith, inl, inr, add-one}
use Rattle.std.proofs.lemmas.Bool.{and_from, cases_Bool, not_from_false}
use Rattle.sg_names.specs.declared.rev_id.RevId.{RevId}
use Rattle.rev_tree.specs.declared.tree.Node.{Node}
use Rattle.rev_tree.specs.Tree.{knows}
use Rattle.rev_tree.specs.Extension.{falls, kept_ancestors, first_of, added, with_write}
use Rattle.rev_tree.specs.inner.Search.{known_place}
use Rattle.rev_tree.specs.Writes.{only_last_known, is_accepted}
use Rattle.rev_tree.proofs.Places.{falls_take}

-- how many are kept, by the place of the first known one
pub kept_place : (tree : List Node) (revs : List RevId) → min (known_place tree revs + 1) (length revs) ≡ kept_ancestors tree revs
kept_place tree [] = omega arith
kept_place tree (a ∷ more) =
    elim (cases_Bool (knows tree a)) [ inl e ↦ rw e (omega arith) | inr e ↦ rw e (omega (arith, kept_place tree more)) ]

-- at least one is kept, if there is one
kept_some : (tree : List Node) (a : RevId) (more : List RevId) → (k : ℕ) × (kept_ancestors tree (a ∷ more) ≡ suc k)
kept_some tree a more =
    elim (cases_Bool (knows tree a)) [ inl e ↦ (0, rw e refl) | inr e ↦ (kept_ancestors tree more, rw (e, add-one) refl) ]

first_kept : (tree : List Node) (revs : List RevId) → first_of (take (kept_ancestors tree revs) revs) ≡ first_of revs
first_kept tree [] = refl
first_kept tree (a ∷ more) = let k = kept_some tree a more in rw k.1 refl

-- what is kept adds the same
added_kept : (tree : List Node) (revs : List RevId) → added tree (take (kept_ancestors tree revs) revs) ≡ added tree revs
added_kept tree [] = refl
added_kept tree (a ∷ more) =
    elim (cases_Bool (knows tree a)) [
      | inl e ↦ rw e (rw e refl)
      | inr e ↦ rw (e, add-one) (rw (e, first_kept tree more) (ap (λ (ns : List Node). record { rev = a; parent = first_of more; deleted = false } ∷ ns) (added_kept tree more)))
    ]

-- the tree with what is kept is the tree with all
pub write_kept : (tree : List Node) (rev : RevId) (revs : List RevId) (deleted : Bool) → with_write tree (record { rev = rev; ancestors = revs; deleted = deleted }) ≡ with_write tree (record { rev = rev; ancestors = take (kept_ancestors tree revs) revs; deleted = deleted })
write_kept tree rev revs deleted = rw (first_kept tree revs, added_kept tree revs) refl

-- of what is kept only the last one is known
kept_known : (tree : List Node) (revs : List RevId) → only_last_known tree (take (kept_ancestors tree revs) revs) ≡ true
kept_known tree [] = refl
kept_known tree (a ∷ []) = elim (cases_Bool (knows tree a)) [ inl e ↦ rw e refl | inr e ↦ rw e refl ]
kept_known tree (a ∷ b ∷ more) =
    elim (cases_Bool (knows tree a)) [
      | inl e ↦ rw e refl
      | inr e ↦
          let k = kept_some tree b more in
          let rest : only_last_known tree (b ∷ take k.0 more) ≡ true = rw k.1 at (kept_known tree (b ∷ more)) in
          rw (e, add-one (kept_ancestors tree (b ∷ more)), k.1) (and_from _ _ (not_from_false _ e) rest)
    ]

-- a write with what is kept is an accepted extension
pub accepted_kept : (tree : List Node) (rev : RevId) (revs : List RevId) (deleted : Bool) → knows tree rev ≡ false → falls (rev ∷ revs) ≡ true → is_accepted tree (record { rev = rev; ancestors = take (kept_ancestors tree revs) revs; deleted = deleted }) ≡ true
accepted_kept tree rev revs deleted unknown h =
    and_from _ _ (and_from _ _ (not_from_false _ unknown) (falls_take (rev ∷ revs) (suc (kept_ancestors tree revs)) h)) (kept_known tree revs)
