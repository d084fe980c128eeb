-- What the bytes of a document say, over the readings of JSON.
use Rattle.std.specs.Prelude.{◌≡◌, ℕ, ℤ, pos, negsuc, ◌&&◌, ◌||◌, nat_eq, int_le, Bool, false, not, codes, List, [], ◌∷◌, Option, Some, None, IsTrue, IsUtf8, if◌then◌else◌}
use Rattle.std.specs.List.{starts_with}
use Rattle.std.specs.Str.{bytes_eq}
use Rattle.serde_json.specs.Data as json
use Rattle.serde_json.specs.Read.{read}
use Rattle.serde_json.specs.Find.{as_i64}
use Rattle.json_doc.specs.Tree.{Tree, null, boolean, integer, opaque, text, list, object, Trees, no_trees, tree, Fields, no_fields, field}

-- d is what the bytes read as: the empty object where there are none, else their JSON value, nested at most 127 deep
abbrev pub ReadsAs : List ℕ → json.Data → Type 0
ReadsAs [] d = d ≡ json.object json.no_members
ReadsAs (b ∷ bs) d = IsUtf8 (b ∷ bs) × (read (b ∷ bs) ≡ Some d)

-- whether an integer is between -9007199254740991 and 9007199254740991, where each is a float of its own
abbrev pub is_safe : ℤ → Bool
is_safe z = int_le (negsuc 9007199254740990) z && int_le z (pos 9007199254740991)

-- a number whose reading as an integer of 64 bits is this one: an integer where it is safe, else opaque
abbrev pub integer_or_opaque : Option ℤ → Tree
integer_or_opaque None = opaque
integer_or_opaque (Some z) = if is_safe z then integer z else opaque

-- what a JSON value means
abbrev mutual
  pub tree_of : json.Data → Tree
  tree_of json.null = null
  tree_of (json.boolean b) = boolean b
  tree_of (json.number n) = integer_or_opaque (as_i64 n)
  tree_of (json.string s) = text s
  tree_of (json.array ds) = list (trees_of ds)
  tree_of (json.object ms) = object (fields_of ms)

  -- what the items of an array mean, in order
  pub trees_of : json.Items → Trees
  trees_of json.no_items = no_trees
  trees_of (json.item d ds) = tree (tree_of d) (trees_of ds)

  -- what the members of an object mean, under their names
  pub fields_of : json.Members → Fields
  fields_of json.no_members = no_fields
  fields_of (json.member name d ms) = field name (tree_of d) (fields_of ms)

-- a name that the gateway keeps to itself: it begins with `_`, and is not `_attachments`
abbrev pub is_reserved : List ℕ → Bool
is_reserved name = starts_with nat_eq name (codes "_") && not (bytes_eq name (codes "_attachments"))

-- whether some member has a reserved name
abbrev pub has_reserved : json.Members → Bool
has_reserved json.no_members = false
has_reserved (json.member name d ms) = is_reserved name || has_reserved ms

-- the bytes are no JSON
abbrev pub IsNotJson : List ℕ → Type 0
IsNotJson bytes = (d : json.Data) → ¬ ReadsAs bytes d

-- the bytes read as a value that is no object
abbrev pub IsNotObject : List ℕ → Type 0
IsNotObject bytes = (d : json.Data) × ReadsAs bytes d × ((ms : json.Members) → ¬ (d ≡ json.object ms))

-- the bytes read as an object with a reserved name
abbrev pub IsReserved : List ℕ → Type 0
IsReserved bytes = (ms : json.Members) × ReadsAs bytes (json.object ms) × IsTrue (has_reserved ms)

-- the bytes are a document, and t is its tree
abbrev pub IsDocument : List ℕ → Tree → Type 0
IsDocument bytes t =
    (ms : json.Members) × ReadsAs bytes (json.object ms) × (has_reserved ms ≡ false) × (t ≡ tree_of (json.object ms))
