-- revisions that are the same
use Rattle.std.proofs.Common.{◌≡◌, ℕ, true, false, List, refl, ap, ◌∙◌}
use Rattle.std.specs.Prelude.{nat_eq}
use Rattle.std.specs.Str.{bytes_eq}
use Rattle.std.proofs.lemmas.Bool.{and_parts, and_from, eqb-true, eq-eqb, false_from_ne_true}
use Rattle.std.proofs.lemmas.Slice.Eq.{bytes_eq-Decides}
use Rattle.sg_names.specs.declared.rev_id.RevId.{RevId}
use Rattle.sg_names.specs.RevId.{same_rev}
use Rattle.rev_tree.specs.declared.tree.Node.{Node}
use Rattle.rev_tree.specs.Tree.{knows}

-- the test is true of one revision alone
pub same_is_equal : (a b : RevId) → same_rev a b ≡ true → a ≡ b
same_is_equal a b h =
    let parts = and_parts (nat_eq a.generation b.generation) (bytes_eq a.digest b.digest) h in
    let generation : a.generation ≡ b.generation = eqb-true a.generation b.generation parts.0 in
    let digest : a.digest ≡ b.digest = (bytes_eq-Decides a.digest b.digest).0 parts.1 in
    let first : a ≡ record a { generation = b.generation } = ap (λ (g : ℕ). record a { generation = g }) generation in
    first ∙ ap (λ (d : List ℕ). record a { generation = b.generation; digest = d }) digest

pub same_itself : (a : RevId) → same_rev a a ≡ true
same_itself a = and_from _ _ (eq-eqb a.generation a.generation refl) ((bytes_eq-Decides a.digest a.digest).1 refl)

-- one that is known is not one that is unknown
pub known_differs : (tree : List Node) (a b : RevId) → knows tree a ≡ false → knows tree b ≡ true → same_rev a b ≡ false
known_differs tree a b unknown known = false_from_ne_true (same_rev a b) (λ same. let e = same_is_equal a b same in cc)
