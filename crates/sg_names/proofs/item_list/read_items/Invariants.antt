use Rattle.std.proofs.Common.{◌≡◌, ◌++◌, true, map, length}
use Rattle.std.specs.List.{list_all, slice_split}
use denote.Shadow.{shadow}
use denote.Text.{Utf8}
use Rattle.sg_names.proofs.Lists.{is_comma}
use Rattle.sg_names.proofs.item_list.read_items.Given as goal

abbrev pub invariant-loop-part : goal.invariant-loop-part
invariant-loop-part g l = record {
  parts : slice_split is_comma l.text ≡ map g.T.Item.text l.items.items ++ slice_split is_comma l.rest;
  utf8 : shadow (Utf8 l.rest);
  admitted : list_all g.T.Item.admits l.items.items ≡ true;
}

abbrev pub decreases-loop-part : goal.decreases-loop-part
decreases-loop-part g l = length l.rest
