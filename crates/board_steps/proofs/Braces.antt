-- the text `{}` is a document
use Rattle.std.proofs.Common.{◌≡◌, ◌∷◌, ◌∙◌, [], Some, false, refl, ap, arith}
use Rattle.std.proofs.lemmas.Str.{IsUtf8-from_ascii}
use Rattle.std.proofs.lemmas.Str.Ascii.{IsAscii-nil, IsAscii-cons}
use Rattle.serde_json.specs.Data as json
use Rattle.serde_json.specs.Read.{read}
use Rattle.serde_json.proofs.OnLiterals.{serde_json_on_literals}
use Rattle.json_doc.specs.Tree.{Tree}
use Rattle.json_doc.specs.Reading.{ReadsAs, IsDocument, has_reserved, tree_of}
use Rattle.doc_board.specs.Recorded.{HasDocument}

braces_read : read (123 ∷ 125 ∷ []) ≡ Some (json.object json.no_members)
unfolding serde_json_on_literals
braces_read = refl

braces_mean : ReadsAs (123 ∷ 125 ∷ []) (json.object json.no_members)
braces_mean = (IsUtf8-from_ascii (123 ∷ 125 ∷ []) (IsAscii-cons 123 (125 ∷ []) (omega arith) (IsAscii-cons 125 [] (omega arith) IsAscii-nil)), braces_read)

pub braces : HasDocument (123 ∷ 125 ∷ [])
braces = (tree_of (json.object json.no_members), (json.no_members, braces_mean, refl, refl))

-- it is the document that no bytes at all are
pub braces_are : (ms : json.Members) (doc : Tree) → ReadsAs [] (json.object ms) → has_reserved ms ≡ false → doc ≡ tree_of (json.object ms) → IsDocument (123 ∷ 125 ∷ []) doc
braces_are ms doc reads plain is = (json.no_members, braces_mean, refl, is ∙ ap tree_of reads)
