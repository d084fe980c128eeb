-- The revisions that the gateway makes of a script's lines.
use Rattle.std.specs.Prelude.{ℕ, Bool, false, List, [], ◌∷◌, Option, Some, None}
use Rattle.sg_names.specs.declared.rev_id.RevId.{RevId}
use Rattle.rev_tree.specs.OwnRev.{own_rev_of}
use Rattle.repl_messages.specs.declared.revision.Revision.{Revision}

abbrev pub own_ancestors : Option RevId → List RevId
own_ancestors None = []
own_ancestors (Some parent) = parent ∷ []

-- the gateway's own revision of this body under the parent, with the parent as its one ancestor
abbrev pub own_revision : List ℕ → Option RevId → Bool → List ℕ → Revision
own_revision doc parent deleted body = record {
  doc = doc;
  rev = own_rev_of parent deleted body;
  ancestors = own_ancestors parent;
  deleted = deleted;
  noconflicts = false;
  body = body;
}
