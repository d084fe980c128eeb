-- How large a tree of a document is, which falls where the tree is gone down.
use Rattle.std.proofs.Common.{ℕ, ◌+◌}
use Rattle.json_doc.specs.Tree.{Tree, null, boolean, integer, opaque, text, list, object, Trees, no_trees, tree, Fields, no_fields, field}

abbrev mutual
  pub size : Tree → ℕ
  size null = 1
  size (boolean b) = 1
  size (integer z) = 1
  size opaque = 1
  size (text s) = 1
  size (list ts) = 1 + sizes ts
  size (object fs) = 1 + field_sizes fs

  pub sizes : Trees → ℕ
  sizes no_trees = 0
  sizes (tree t ts) = 1 + size t + sizes ts

  pub field_sizes : Fields → ℕ
  field_sizes no_fields = 0
  field_sizes (field name t fs) = 1 + size t + field_sizes fs
