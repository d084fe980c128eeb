-- a write that extends its document's tree is one that a board may have next
use Rattle.std.proofs.Common.{◌≡◌, ◌≤◌, ◌<◌, ◌⊎◌, ◌+◌, ◌∙◌, ℕ, IsTrue, Bool, true, false, ◌&&◌, ◌||◌, not, List, [], ◌∷◌, length, Some, refl, ap, subst, inl, inr, if◌then◌else◌, option_map, arith}
use Rattle.std.specs.Prelude.{nat_lt}
use Rattle.std.proofs.lemmas.Bool.{and_parts, cases_lt, not-true, both_ways, le-ltb, lt-ltb}
use Rattle.sg_names.specs.declared.rev_id.RevId.{RevId}
use Rattle.sg_history.specs.declared.entries.Write.{Write}
use Rattle.rev_tree.specs.declared.leaf.Leaf.{Leaf}
use Rattle.rev_tree.specs.declared.tree.Node.{Node}
use Rattle.rev_tree.specs.Tree.{knows, winner_of}
use Rattle.rev_tree.specs.Extension.{Verdict, is_known, has_bad_history, makes_conflict, extends_tree, falls, first_known, goes_on, kept_ancestors, verdict_of, with_write}
use Rattle.rev_tree.specs.Writes.{is_accepted, path_of, only_last_known}
use Rattle.rev_tree.specs.Documents.{recorded}
use Rattle.doc_board.specs.Candidates.{ExtendsTree}
use Rattle.doc_board.specs.Recorded.{FollowsTree}

-- where none but the last ancestor is known all are kept
all_kept : (tree : List Node) (ancestors : List RevId) → only_last_known tree ancestors ≡ true → kept_ancestors tree ancestors ≡ length ancestors
all_kept tree [] h = refl
all_kept tree (a ∷ []) h = go (knows tree a)
  where
    go : (b : Bool) → ◌≡◌ {A = ℕ} (if b then 1 else 0 + 1) 1
    go true = refl
    go false = omega arith
all_kept tree (a ∷ b ∷ more) h =
    let parts = and_parts (not (knows tree a)) (only_last_known tree (b ∷ more)) h in
    let rest : kept_ancestors tree (b ∷ more) ≡ length (b ∷ more) = all_kept tree (b ∷ more) parts.1 in
    ap (λ (known : Bool). if known then 1 else kept_ancestors tree (b ∷ more) + 1) (not-true (knows tree a) parts.0) ∙ omega (arith, rest)

-- ---- the verdict by its four tests

abbrev extends : Verdict → Bool
extends is_known = false
extends has_bad_history = false
extends makes_conflict = false
extends extends_tree = true

abbrev by_tests : Bool → Bool → Bool → Bool → Verdict
by_tests known falling long conflicts = if known then is_known else if not falling || long then has_bad_history else if conflicts then makes_conflict else extends_tree

not_long : (known falling conflicts : Bool) → by_tests known falling true conflicts ≡ extends_tree → ⊥
not_long true falling conflicts h = both_ways false refl (ap extends h)
not_long false true conflicts h = both_ways false refl (ap extends h)
not_long false false conflicts h = both_ways false refl (ap extends h)

-- a history that extends a tree has at most 1,000 ancestors
pub few_extend : (tree : List Node) (rev : RevId) (ancestors : List RevId) (strict : Bool) → verdict_of tree rev ancestors strict ≡ extends_tree → length ancestors ≤ 1000
few_extend tree rev ancestors strict h = go (cases_lt 1000 (length ancestors))
  where
    go : (1000 < length ancestors) ⊎ (length ancestors ≤ 1000) → length ancestors ≤ 1000
    go (inl more) =
        let known : Bool = knows tree rev in
        let falling : Bool = falls (rev ∷ ancestors) in
        let conflicts : Bool = strict && not (goes_on (winner_of tree) (first_known tree ancestors)) in
        absurd (not_long known falling conflicts (subst (λ (long : Bool). by_tests known falling long conflicts ≡ extends_tree) (lt-ltb 1000 (length ancestors) more) h))
    go (inr few) = few

extending : (tree : List Node) (rev : RevId) (ancestors : List RevId) → knows tree rev ≡ false → falls (rev ∷ ancestors) ≡ true → length ancestors ≤ 1000 → verdict_of tree rev ancestors false ≡ extends_tree
extending tree rev ancestors unknown falling few =
    ap (λ (known : Bool). by_tests known (falls (rev ∷ ancestors)) (nat_lt 1000 (length ancestors)) false) unknown
    ∙ ap (λ (falls_so : Bool). by_tests false falls_so (nat_lt 1000 (length ancestors)) false) falling
    ∙ ap (λ (long : Bool). by_tests false true long false) (le-ltb 1000 (length ancestors) few)

-- ---- writes

pub extension_follows : (before : List Node) (w : Write) (after : List Node) → ExtendsTree before w after → FollowsTree before w
extension_follows before w after extends =
    let parts = and_parts (not (knows before w.rev) && falls (path_of (recorded w))) (only_last_known before w.ancestors) extends.accepted in
    let first = and_parts (not (knows before w.rev)) (falls (path_of (recorded w))) parts.0 in
    record {
      accepted = extending before w.rev w.ancestors (not-true (knows before w.rev) first.0) first.1 extends.few;
      kept = all_kept before w.ancestors parts.1;
      winner = subst (λ (t : List Node). option_map (λ (l : Leaf). l.rev) (winner_of t) ≡ Some w.winner) extends.tree extends.winner;
    }

-- the write that a tree takes with all its ancestors, and that names the new tree's winner, extends it
pub extends_with : (before : List Node) (w : Write) (after : List Node) → verdict_of before w.rev w.ancestors false ≡ extends_tree → IsTrue (is_accepted before (recorded w)) → after ≡ with_write before (recorded w) → option_map (λ (l : Leaf). l.rev) (winner_of after) ≡ Some w.winner → ExtendsTree before w after
extends_with before w after verdict accepted tree winner =
    record { accepted = accepted; few = few_extend before w.rev w.ancestors false verdict; tree = tree; winner = winner }
