-- Logs that were recorded: which are those of a board.
use Rattle.std.specs.Prelude.{◌≡◌, ◌+◌, ℕ, false, List, [], ◌∷◌, length, option_map, slice_get, Option, Some, None}
use Rattle.sg_history.specs.declared.entries.Entry.{Entry}
use Rattle.sg_history.specs.declared.entries.Write.{Write}
use Rattle.sg_history.specs.History.{as_write, is_sync, past}
use Rattle.json_doc.specs.Tree.{Tree}
use Rattle.json_doc.specs.Reading.{IsDocument}
use Rattle.rev_tree.specs.declared.tree.Node.{Node}
use Rattle.rev_tree.specs.Tree.{winner_of}
use Rattle.rev_tree.specs.Extension.{verdict_of, extends_tree, kept_ancestors, with_write}
use Rattle.rev_tree.specs.Documents.{recorded, tree_at}

-- the bytes are a document
abbrev pub HasDocument : List ℕ → Type 0
HasDocument bytes = (doc : Tree) × IsDocument bytes doc

-- the tree accepts the write with all its ancestors, and the write names the winner of the tree with it
pub record FollowsTree (before : List Node) (w : Write) : Type 0 where
  pub accepted : verdict_of before w.rev w.ancestors false ≡ extends_tree
  pub kept : kept_ancestors before w.ancestors ≡ length w.ancestors
  pub winner : option_map (λ l. l.rev) (winner_of (with_write before (recorded w))) ≡ Some w.winner

-- besides, its body is a document
abbrev pub IsFollowingWrite : List Node → Write → Type 0
IsFollowingWrite before w = HasDocument w.body × FollowsTree before w

-- a write that a board may have after these, where there is one
abbrev pub WriteMayFollow : List Entry → Option Write → Type 0
WriteMayFollow older None = Unit {0}
WriteMayFollow older (Some w) = IsFollowingWrite (tree_at older w.doc) w

-- an entry that a board may have after these, the newest first: it replaces no sync function
abbrev pub MayFollow : List Entry → Entry → Type 0
MayFollow older e = WriteMayFollow older (as_write e) × (is_sync e ≡ false)

-- entries that a board may have, the newest first
abbrev pub AreFollowing : List Entry → Type 0
AreFollowing [] = Unit {0}
AreFollowing (e ∷ older) = MayFollow older e × AreFollowing older

-- the entry of this sequence is the first that a board may not have after those before it
pub record IsFirstRefused (h : List Entry) (sequence : ℕ) : Type 0 where
  pub place : ℕ
  pub bad : Entry
  pub next : sequence ≡ place + 1
  pub before : AreFollowing (past h place)
  pub there : slice_get h place ≡ Some bad
  pub refused : ¬ MayFollow (past h place) bad
