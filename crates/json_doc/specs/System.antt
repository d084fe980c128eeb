-- What the gateway itself says of a revision, beside the members that the revision has.
use Rattle.std.specs.Prelude.{ℕ, codes, List, Bool, true, if◌then◌else◌}
use Rattle.json_doc.specs.Tree.{Tree, null, boolean, integer, opaque, text, list, object, Fields, put_field}

-- members with the document's identifier as `_id`, and with a true `_deleted` where the revision is deleted
abbrev pub system_fields : List ℕ → Bool → Fields → Fields
system_fields id deleted fs =
    let named = put_field (codes "_id") (text id) fs in
    if deleted then put_field (codes "_deleted") (boolean true) named else named

-- an object with these members besides its own; what is no object has none
abbrev pub with_system : List ℕ → Bool → Tree → Tree
with_system id deleted null = null
with_system id deleted (boolean b) = boolean b
with_system id deleted (integer z) = integer z
with_system id deleted opaque = opaque
with_system id deleted (text s) = text s
with_system id deleted (list ts) = list ts
with_system id deleted (object fs) = object (system_fields id deleted fs)
