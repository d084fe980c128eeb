use Rattle.blip_mux.proofs.Cuts.{can_cut, cut_once, calls_cut, all_full}
use Rattle.blip_mux.proofs.laws.cutting.Goals as goal

pub returns : goal.returns
returns c = record {
  some = can_cut;
  one = cut_once;
  calls = calls_cut;
  full = all_full;
}
