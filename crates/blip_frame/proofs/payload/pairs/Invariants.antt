use Rattle.std.proofs.Common.{◌≡◌, ◌%◌, ◌++◌, true, length}
use Rattle.std.specs.List.{list_all}
use Rattle.std.specs.Str.{is_utf8}
use Rattle.blip_frame.specs.Props.{pairs_of}
use Rattle.blip_frame.specs.Payload.{is_closed, closed_texts, paired}
use Rattle.blip_frame.proofs.payload.pairs.Given as goal

-- what was read, with what the rest stands for, is the whole
abbrev pub invariant-loop-rest : goal.invariant-loop-rest
invariant-loop-rest l = record {
  closed : is_closed l.rest ≡ true;
  even : length (closed_texts l.rest) % 2 ≡ 0;
  texts : list_all is_utf8 (closed_texts l.rest) ≡ true;
  so_far : pairs_of l.props.items ++ paired (closed_texts l.rest) ≡ paired (closed_texts l.block);
}

abbrev pub decreases-loop-rest : goal.decreases-loop-rest
decreases-loop-rest l = length l.rest
