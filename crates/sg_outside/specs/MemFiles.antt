-- files in memory
use Rattle.std.specs.Prelude.{ℕ, List, [], ◌∷◌, Option, Some, None, unwrap_or, string_bytes, if◌then◌else◌}
use Rattle.std.specs.Str.{bytes_eq}
use Rattle.sg_outside.specs.declared.mem_files.MemFile.{MemFile}

-- the bytes of the first file of this name
abbrev pub file_under : List MemFile → List ℕ → Option (List ℕ)
file_under [] name = None
file_under (file ∷ files) name = if bytes_eq (string_bytes file.name) name then Some file.bytes else file_under files name

-- the same, where a name without a file is an empty file
abbrev pub bytes_under : List MemFile → List ℕ → List ℕ
bytes_under files name = unwrap_or (file_under files name) []
