-- a line's fields and what they are read as
use Rattle.std.specs.Prelude.{◌≡◌, ◌≢◌, ◌++◌, ℕ, List, [], ◌∷◌, length, take, Option, Some, None}
use Rattle.std.specs.Borrow.{Bor}
use Rattle.sg_history.specs.declared.entries.Entry.{Entry}
use Rattle.sg_history.specs.declared.entries.Write.{Write}
use Rattle.sg_history.specs.declared.line_of_write.WriteTexts.{WriteTexts}
use Rattle.sg_history.specs.declared.line_of_sync.MarkTexts.{MarkTexts}
use Rattle.sg_history.specs.Pieces.{pieces}
use Rattle.sg_history.specs.Journal.{IsWrite, IsEntry, write_fields, fields_of, line_of}

-- the fields of a write's line after its kind, in order
abbrev pub texts_of : WriteTexts → List (List ℕ)
texts_of t =
    t.doc.now ∷ t.rev.now ∷ t.ancestors.now ∷ t.deleted.now ∷ t.body.now ∷ t.by.now ∷ t.at.now ∷ t.winner.now
    ∷ t.channels.now ∷ t.grants.now ∷ t.roles.now ∷ []

-- the fields of what is left of a line, if something is
abbrev pub fields_left : Option (Bor (List ℕ)) → List (List ℕ)
fields_left None = []
fields_left (Some line) = pieces 9 line.now

-- the fields of a mark, in order
abbrev pub mark_texts_of : MarkTexts → List (List ℕ)
mark_texts_of t = t.doc.now ∷ t.rev.now ∷ t.channels.now ∷ t.grants.now ∷ t.roles.now ∷ []

-- no entry in its grammar has these fields
abbrev pub NoEntry : List (List ℕ) → Type 0
NoEntry fields = (e : Entry) → IsEntry e → fields ≢ fields_of e

-- no entry in its grammar has this line
abbrev pub NoLine : List ℕ → Type 0
NoLine line = (e : Entry) → IsEntry e → line ≢ line_of e

-- the fields are those of the write, which is in its grammar
abbrev pub ReadsWrite : List (List ℕ) → Write → Type 0
ReadsWrite texts w = IsWrite w × (texts ≡ write_fields w)

-- the fields of a line are those of the entry, which is in its grammar
abbrev pub AreRead : List (List ℕ) → Entry → Type 0
AreRead fields e = IsEntry e × (fields ≡ fields_of e)

-- the line is that of the entry, which is in its grammar
abbrev pub IsLine : List ℕ → Entry → Type 0
IsLine line e = IsEntry e × (line ≡ line_of e)

-- fields behind others in a line, a TAB before each
abbrev pub behind_tabs : List (List ℕ) → List ℕ
behind_tabs [] = []
behind_tabs (field ∷ fields) = 9 ∷ field ++ behind_tabs fields

-- the second text begins with the first
abbrev pub BeginsWith : List ℕ → List ℕ → Type 0
BeginsWith before after = take (length before) after ≡ before
