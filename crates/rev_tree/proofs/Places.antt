-- places of revisions among ancestors
use Rattle.std.proofs.Common.{◌≡◌, ℕ, zero, suc, ◌+◌, ◌<◌, ◌≤◌, true, false, List, [], ◌∷◌, length, take, drop, get_or, refl, arith, inl, inr, add-one}
use Rattle.std.specs.Prelude.{nat_lt}
use Rattle.std.specs.List.{slice_get}
use Rattle.std.proofs.lemmas.Bool.{and_parts, and_from, cases_Bool}
use Rattle.sg_names.specs.declared.rev_id.RevId.{RevId}
use Rattle.rev_tree.specs.declared.tree.Node.{Node}
use Rattle.rev_tree.specs.Tree.{knows}
use Rattle.rev_tree.specs.Extension.{falls, added, first_known}
use Rattle.rev_tree.specs.inner.Search.{known_place}

-- a history falls on from its second revision
pub falls_on : (a : RevId) (more : List RevId) → falls (a ∷ more) ≡ true → falls more ≡ true
falls_on a [] h = refl
falls_on a (b ∷ more) h = (and_parts (nat_lt b.generation a.generation) (falls (b ∷ more)) h).1

-- the front of a history falls
pub falls_take : (revs : List RevId) (n : ℕ) → falls revs ≡ true → falls (take n revs) ≡ true
falls_take [] zero h = refl
falls_take [] (suc n) h = refl
falls_take (a ∷ more) zero h = refl
falls_take (a ∷ []) (suc zero) h = refl
falls_take (a ∷ []) (suc (suc n)) h = refl
falls_take (a ∷ b ∷ more) (suc zero) h = refl
falls_take (a ∷ b ∷ more) (suc (suc n)) h =
    let parts = and_parts (nat_lt b.generation a.generation) (falls (b ∷ more)) h in
    and_from _ _ parts.0 (falls_take (b ∷ more) (suc n) parts.1)

pub known_within : (nodes : List Node) (revs : List RevId) → known_place nodes revs ≤ length revs
known_within nodes [] = omega arith
known_within nodes (a ∷ more) =
    elim (cases_Bool (knows nodes a)) [ inl e ↦ rw e (omega arith) | inr e ↦ rw e (omega (arith, known_within nodes more)) ]

-- the first known ancestor is the one at its place
pub known_first : (tree : List Node) (revs : List RevId) → slice_get revs (known_place tree revs) ≡ first_known tree revs
known_first tree [] = refl
known_first tree (a ∷ more) =
    elim (cases_Bool (knows tree a)) [ inl e ↦ rw e refl | inr e ↦ rw (e, add-one) (known_first tree more) ]

pub falls_drop : (revs : List RevId) (n : ℕ) → falls revs ≡ true → falls (drop n revs) ≡ true
falls_drop [] zero h = refl
falls_drop [] (suc n) h = refl
falls_drop (a ∷ more) zero h = h
falls_drop (a ∷ more) (suc n) h = falls_drop more n (falls_on a more h)

-- before the first known ancestor none is known
pub unknown_at : (tree : List Node) (revs : List RevId) (i : ℕ) (a : RevId) → i < known_place tree revs → a ≡ get_or revs i a → knows tree a ≡ false
unknown_at tree [] i a before is = absurd (omega (arith, before))
unknown_at tree (b ∷ more) zero a before is =
    elim (cases_Bool (knows tree b)) [
      | inl e ↦ let none : 0 < 0 = rw e at before in absurd (omega (arith, none))
      | inr e ↦ rw is e
    ]
unknown_at tree (b ∷ more) (suc i) a before is =
    elim (cases_Bool (knows tree b)) [
      | inl e ↦ let none : suc i < 0 = rw e at before in absurd (omega (arith, none))
      | inr e ↦ let later : suc i < known_place tree more + 1 = rw e at before in unknown_at tree more i a (omega (arith, later)) is
    ]

-- from the first known ancestor on nothing is added
pub none_added : (tree : List Node) (revs : List RevId) → added tree (drop (known_place tree revs) revs) ≡ []
none_added tree [] = refl
none_added tree (a ∷ more) =
    elim (cases_Bool (knows tree a)) [ inl e ↦ rw e (rw e refl) | inr e ↦ rw (e, add-one) (none_added tree more) ]

-- where the nearest ancestor is known, or there is none, nothing is added
pub none_before : (tree : List Node) (revs : List RevId) → known_place tree revs ≡ 0 → added tree revs ≡ []
none_before tree [] h = refl
none_before tree (a ∷ more) h =
    elim (cases_Bool (knows tree a)) [
      | inl e ↦ rw e refl
      | inr e ↦ let later : known_place tree more + 1 ≡ 0 = rw e at h in absurd (omega (arith, later))
    ]
