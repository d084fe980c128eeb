-- Document trees, as plain data: what a document means, whatever holds it.
use Rattle.std.specs.Prelude.{ℕ, ◌+◌, ℤ, Bool, true, false, if◌then◌else◌, List, Option, Some, None}
use Rattle.std.specs.Str.{bytes_eq}
use Rattle.std.specs.Ordering.{nat_cmp, match_ordering}
use Rattle.std.specs.Cmp.Lexicographic.{slice_cmp}

mutual
  -- a value; a number is an integer, or opaque: nothing is known of it but that it is a number
  pub data Tree : Type 0 where
    null : Tree
    boolean : Bool → Tree
    integer : ℤ → Tree
    opaque : Tree
    text : List ℕ → Tree
    list : Trees → Tree
    object : Fields → Tree

  -- the values of a list, in order
  pub data Trees : Type 0 where
    no_trees : Trees
    tree : Tree → Trees → Trees

  -- the members of an object, each a name and a value
  pub data Fields : Type 0 where
    no_fields : Fields
    field : List ℕ → Tree → Fields → Fields

-- the value of the member with this name, if there is one
abbrev pub get_field : List ℕ → Fields → Option Tree
get_field name no_fields = None
get_field name (field other t rest) = if bytes_eq name other then Some t else get_field name rest

-- the members with this value at this name: in the place of the old one, else in the order of the names' bytes
abbrev pub put_field : List ℕ → Tree → Fields → Fields
put_field name t no_fields = field name t no_fields
put_field name t (field other u rest) =
    match_ordering (slice_cmp nat_cmp name other)
    (field name t (field other u rest))
    (field other t rest)
    (field other u (put_field name t rest))

-- how many values a list has
abbrev pub tree_count : Trees → ℕ
tree_count no_trees = 0
tree_count (tree t rest) = 1 + tree_count rest

-- how many members an object has
abbrev pub field_count : Fields → ℕ
field_count no_fields = 0
field_count (field name t rest) = 1 + field_count rest

-- the values with one more at the end
abbrev pub add_tree : Trees → Tree → Trees
add_tree no_trees u = tree u no_trees
add_tree (tree t rest) u = tree t (add_tree rest u)

-- whether a value is an object
abbrev pub is_object : Tree → Bool
is_object null = false
is_object (boolean b) = false
is_object (integer z) = false
is_object opaque = false
is_object (text s) = false
is_object (list ts) = false
is_object (object fs) = true

-- the value of the member with this name, where the tree is an object that has one
abbrev pub get_member : List ℕ → Tree → Option Tree
get_member name null = None
get_member name (boolean b) = None
get_member name (integer z) = None
get_member name opaque = None
get_member name (text s) = None
get_member name (list ts) = None
get_member name (object fs) = get_field name fs
