-- One item more of a list that is gone over.
use Rattle.std.proofs.Common.{◌≡◌, ℕ, zero, suc, ◌+◌, ◌<◌, Bool, List, [], ◌∷◌, length, get_or, drop, refl, sym, ap, ◌∙◌, subst, arith}
use Rattle.std.proofs.lemmas.Bool.{lt-ltb}
use Rattle.sg_names.specs.declared.rev_id.RevId.{RevId}
use Rattle.rev_tree.specs.Extension.{falls}

falls_on : (last : RevId) (revs : List RevId) (i : ℕ) (rev : RevId) → i < length revs → rev ≡ get_or revs i rev → rev.generation < last.generation
    → falls (last ∷ drop i revs) ≡ falls (rev ∷ drop (suc i) revs)
falls_on last [] i rev low e less = absurd (omega (arith, low))
falls_on last (r ∷ rs) zero rev low e less =
    let below : r.generation < last.generation = subst (λ (s : RevId). s.generation < last.generation) e less in
    subst (λ (s : RevId). falls (last ∷ r ∷ rs) ≡ falls (s ∷ rs)) (sym e) (rw (lt-ltb r.generation last.generation below) refl)
falls_on last (r ∷ rs) (suc i) rev low e less = falls_on last rs i rev (omega (arith, low)) e less

-- generations that fall up to one item fall if those from there on do
pub falls_more : (all : Bool) (last : RevId) (revs : List RevId) (i : ℕ) (rev : RevId) → i < length revs → rev ≡ get_or revs i rev
    → rev.generation < last.generation → all ≡ falls (last ∷ drop i revs) → all ≡ falls (rev ∷ drop (i + 1) revs)
falls_more all last revs i rev low e less so_far =
    let next : suc i ≡ i + 1 = omega arith in
    so_far ∙ falls_on last revs i rev low e less ∙ ap (λ n. falls (rev ∷ drop n revs)) next
