use Rattle.std.proofs.Common.{◌≡◌, ◌++◌, ◌+◌, ◌&&◌, take, length}
use Rattle.rev_tree.specs.inner.Parts.{joined, are_sound}
use Rattle.rev_tree.proofs.row.push_all.Given as goal

abbrev pub invariant-loop-part : goal.invariant-loop-part
invariant-loop-part g l = record {
  nodes : joined g.P.Part.nodes l.parts.items ≡ joined g.P.Part.nodes l.fn.parts.items ++ joined g.P.Part.nodes (take l.part-index l.from);
  sound : are_sound g.P.Part.is_sound l.parts.items ≡ (are_sound g.P.Part.is_sound l.fn.parts.items && are_sound g.P.Part.is_sound (take l.part-index l.from));
  len : length l.parts.items ≡ length l.fn.parts.items + l.part-index;
}
