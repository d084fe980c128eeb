-- What `read_doc` answers.
use Rattle.std.specs.Prelude.{List, ℕ, Result, Ok, Err}
use Rattle.json_doc.specs.declared.node.Node.{Node}
use Rattle.json_doc.specs.declared.doc.DocFault.{DocFault}
use Rattle.json_doc.specs.declared.doc.DocFault.TheVariants as fault
use Rattle.json_doc.specs.Reading.{IsNotJson, IsNotObject, IsReserved, IsDocument}
use Rattle.json_doc.specs.View.{node_tree}

-- the document that the bytes are, or the refusal that is due; lack of memory says nothing
abbrev pub IsVerdict : List ℕ → Result Node DocFault → Type 0
IsVerdict bytes (Ok doc) = IsDocument bytes (node_tree doc)
IsVerdict bytes (Err fault.NotJson) = IsNotJson bytes
IsVerdict bytes (Err fault.NotObject) = IsNotObject bytes
IsVerdict bytes (Err fault.Reserved) = IsReserved bytes
IsVerdict bytes (Err fault.Memory) = Unit {0}
