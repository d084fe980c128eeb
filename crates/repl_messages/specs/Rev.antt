-- The messages `rev` and `norev`, which answer a wanted row.
use Rattle.std.specs.Prelude.{ℕ, List, [], ◌∷◌, ◌++◌, map, codes, if◌then◌else◌}
use Rattle.std.specs.List.{join_with_byte}
use Rattle.blip_frame.specs.Props.{Pair}
use Rattle.blip_frame.specs.declared.payload.Payload.{Payload}
use Rattle.sg_names.specs.Key.{key_text}
use Rattle.sg_names.specs.RevId.{rev_text}
use Rattle.sg_names.specs.declared.rev_id.RevId.{RevId}
use Rattle.sg_history.specs.Feed.{is_deleted}
use Rattle.sg_history.specs.declared.row.Row.{Row}

-- the property `deleted`, which is there only where the winner is deleted
abbrev pub deleted_pairs : ℕ → List Pair
deleted_pairs bits = if is_deleted bits then (codes "deleted", codes "1") ∷ [] else []

-- the property `history`, the ancestors with a comma between each two, which is absent where there are none
abbrev pub history_pairs : List RevId → List Pair
history_pairs [] = []
history_pairs (rev ∷ revs) = (codes "history", join_with_byte 44 (map (λ r. rev_text r) (rev ∷ revs))) ∷ []

-- the message's name, and the document and the revision of a row
abbrev pub row_pairs : List ℕ → Row → List Pair
row_pairs profile row =
    (codes "Profile", profile) ∷ (codes "id", row.doc) ∷ (codes "rev", rev_text row.rev) ∷ []

-- a row's revision with its ancestors and its body
abbrev pub rev_payload : Row → List RevId → List ℕ → Payload
rev_payload row ancestors body =
    record {
      props = (codes "Profile", codes "rev")
          ∷ (codes "id", row.doc)
          ∷ (codes "rev", rev_text row.rev)
          ∷ deleted_pairs row.bits ++ (codes "sequence", key_text row.key)
          ∷ history_pairs ancestors;
      body = body;
    }

-- a row's revision is not there any more
abbrev pub norev_payload : Row → Payload
norev_payload row =
    record {
      props = (codes "Profile", codes "norev")
          ∷ (codes "id", row.doc)
          ∷ (codes "rev", rev_text row.rev)
          ∷ (codes "sequence", key_text row.key)
          ∷ (codes "error", codes "404")
          ∷ (codes "reason", codes "not available")
          ∷ [];
      body = [];
    }
