-- The request rev, which proposes a revision.
use Rattle.std.specs.Prelude.{◌≡◌, ℕ, List, [], Option, Some, None, map, option_and_then, Result, Ok, codes, if◌then◌else◌}
use Rattle.std.specs.List.{join_with_byte}
use Rattle.blip_frame.specs.Props.{value_at}
use Rattle.blip_frame.specs.declared.payload.Payload.{Payload}
use Rattle.sg_names.specs.Grammar.{is_doc_id}
use Rattle.sg_names.specs.RevId.{rev_text, is_rev}
use Rattle.sg_names.specs.Revs.{is_revs}
use Rattle.sg_names.specs.declared.rev_id.RevId.{RevId}
use Rattle.repl_messages.specs.declared.request.Field.TheVariants as fields
use Rattle.repl_messages.specs.declared.request.Request.{Request}
use Rattle.repl_messages.specs.declared.request.Request.TheVariants.{Rev}
use Rattle.repl_messages.specs.declared.request.RequestFault.{RequestFault}
use Rattle.repl_messages.specs.declared.revision.Revision.{Revision}
use Rattle.repl_messages.specs.Fields.{◌>>=◌, or_bad, IsReadAs}
use Rattle.repl_messages.specs.Properties.{is_property_set}

-- a text in the grammar of documents' names
abbrev pub document_named : List ℕ → Option (List ℕ)
document_named text = if is_doc_id text then Some text else None

-- the revision of the property `rev`, which must be there
abbrev pub IsRevision : Option (List ℕ) → Option RevId → Type 0
IsRevision None rev = rev ≡ None
IsRevision (Some text) rev = IsReadAs rev_text is_rev text rev

-- revisions with a comma between each two; the empty text for none
abbrev pub history_text : List RevId → List ℕ
history_text revs = join_with_byte 44 (map (λ r. rev_text r) revs)

-- the ancestors of the property `history`; absent there are none
abbrev pub IsHistory : Option (List ℕ) → Option (List RevId) → Type 0
IsHistory None revs = revs ≡ Some []
IsHistory (Some text) revs = IsReadAs history_text is_revs text revs

-- the revision of these names, with the marks and the body of the message
abbrev pub revision_of : List ℕ → RevId → List RevId → Payload → Revision
revision_of doc rev ancestors payload =
    record {
      doc = doc;
      rev = rev;
      ancestors = ancestors;
      deleted = is_property_set (codes "deleted") payload.props;
      noconflicts = is_property_set (codes "noconflicts") payload.props;
      body = payload.body;
    }

-- a rev whose revision and history are read so: the request, or the first that is bad of id, rev and history
abbrev pub revision : Option RevId → Option (List RevId) → Payload → Result Request RequestFault
revision rev history payload = do
  doc ← or_bad fields.Id (option_and_then document_named (value_at payload.props (codes "id")))
  its_rev ← or_bad fields.Rev rev
  ancestors ← or_bad fields.History history
  Ok (Rev (revision_of doc its_rev ancestors payload))

-- what such a rev is read as
abbrev pub IsProposal : Payload → Result Request RequestFault → Type 0
IsProposal payload answer =
    (rev : Option RevId) × (history : Option (List RevId)) × IsRevision (value_at payload.props (codes "rev")) rev
    × IsHistory (value_at payload.props (codes "history")) history × (answer ≡ revision rev history payload)
