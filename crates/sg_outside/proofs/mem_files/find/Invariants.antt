use Rattle.std.proofs.Common.{◌≡◌, drop}
use Rattle.sg_outside.specs.MemFiles.{file_under}
use Rattle.sg_outside.proofs.mem_files.find.Given as goal

abbrev pub invariant-loop-file : goal.invariant-loop-file
invariant-loop-file l = file_under (drop l.file-index l.files) l.name ≡ file_under l.files l.name
