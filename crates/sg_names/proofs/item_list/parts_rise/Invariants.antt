use Rattle.std.proofs.Common.{◌≡◌, true, List, length, map}
use Rattle.std.specs.List.{list_all, slice_split}
use denote.Shadow.{shadow}
use denote.Text.{Utf8}
use Rattle.sg_names.proofs.Lists.{is_comma, Behind}
use Rattle.sg_names.proofs.item_list.parts_rise.Given as goal

abbrev pub invariant-loop-part : goal.invariant-loop-part
invariant-loop-part g l = record {
  behind : (xs : List g.row.T.Denot) → list_all g.T.Item.admits xs ≡ true
      → slice_split is_comma l.text ≡ map g.T.Item.text xs
      → Behind g.T.Item.text g.T.Item.admits g.T.Rising.order xs l.rest;
  utf8 : shadow (Utf8 l.rest);
}

abbrev pub decreases-loop-part : goal.decreases-loop-part
decreases-loop-part g l = length l.rest
