-- what a snapshot says of a revision that is proposed
use Rattle.std.specs.Prelude.{◌≡◌, ◌≤◌, ℕ, Bool, true, List, length, take, option_map, Option, Some, None, IsTrue}
use Rattle.sg_history.specs.declared.entries.Entry.{Entry}
use Rattle.sg_history.specs.Principals.{exists, user_at}
use Rattle.rev_tree.specs.declared.tree.Node.{Node}
use Rattle.rev_tree.specs.declared.extend.Extended.{Extended}
use Rattle.rev_tree.specs.declared.extend.Extended.TheVariants.{NewTree, Known, BadHistory400, Conflict409, Memory}
use Rattle.rev_tree.specs.Tree.{winner_of}
use Rattle.rev_tree.specs.Extension.{Recorded, verdict_of, is_known, has_bad_history, makes_conflict, extends_tree, kept_ancestors, with_write}
use Rattle.rev_tree.specs.Writes.{is_accepted}
use Rattle.repl_messages.specs.declared.revision.Revision.{Revision}

-- a revision as a tree records it, with the first so many of its ancestors
abbrev pub recorded_with : Revision → ℕ → Recorded
recorded_with r kept = record { rev = r.rev; ancestors = take kept r.ancestors; deleted = r.deleted }

-- the new tree is the one with the revision, on the ancestors that it keeps
pub record IsNewTree (before : List Node) (r : Revision) (after : List Node) (kept : ℕ) : Type 0 where
  pub ancestors : kept ≡ kept_ancestors before r.ancestors
  pub within : kept ≤ length r.ancestors
  pub accepted : IsTrue (is_accepted before (recorded_with r kept))
  pub tree : after ≡ with_write before (recorded_with r kept)

-- the outcome of the revision in this tree
abbrev pub IsStep : List Node → Revision → Bool → Extended → Type 0
IsStep before r strict (NewTree tree kept) = (verdict_of before r.rev r.ancestors strict ≡ extends_tree) × IsNewTree before r tree kept
IsStep before r strict Known = verdict_of before r.rev r.ancestors strict ≡ is_known
IsStep before r strict BadHistory400 = verdict_of before r.rev r.ancestors strict ≡ has_bad_history
IsStep before r strict (Conflict409 leaf) =
    (verdict_of before r.rev r.ancestors strict ≡ makes_conflict) × (option_map (λ w. w.rev) (winner_of before) ≡ Some leaf)
IsStep before r strict Memory = ⊥

-- whether the one who proposes exists: a user, or the administrator, who does
abbrev pub proposer_exists : List Entry → Option (List ℕ) → Bool
proposer_exists es None = true
proposer_exists es (Some user) = exists (user_at es user)
