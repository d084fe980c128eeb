use Rattle.std.proofs.Common.{length}
use denote.Shadow.{shadow}
use denote.Text.{Utf8}
use Rattle.sg_names.proofs.Lists.{Passed}
use Rattle.sg_names.proofs.item_list.are_items.Given as goal

abbrev pub invariant-loop-part : goal.invariant-loop-part
invariant-loop-part g l = record {
  passed : Passed g.T.Item.text g.T.Item.admits l.text l.rest;
  utf8 : shadow (Utf8 l.rest);
}

abbrev pub decreases-loop-part : goal.decreases-loop-part
decreases-loop-part g l = length l.rest
