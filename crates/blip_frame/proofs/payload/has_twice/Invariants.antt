use Rattle.std.proofs.Common.{◌≡◌, ℕ, List, ◌++◌, ◌%◌, true, false, length, Bor}
use Rattle.std.specs.Cmp.Lexicographic.{slice_cmp}
use Rattle.std.specs.Ordering.{nat_cmp}
use Rattle.std.specs.List.{list_any}
use Rattle.std.specs.Str.{bytes_eq}
use Rattle.std.specs.BTreeSet.{contains_by}
use Rattle.blip_frame.specs.Props.{keys_of, stands_twice}
use Rattle.blip_frame.specs.Payload.{is_closed, closed_texts, paired}
use Rattle.blip_frame.proofs.payload.has_twice.Given as goal

-- the set has the keys so far, of which none stands twice
abbrev pub invariant-loop-rest : goal.invariant-loop-rest
invariant-loop-rest l = record {
  closed : is_closed l.rest ≡ true;
  even : length (closed_texts l.rest) % 2 ≡ 0;
  keys : (before : List (List ℕ)) × (keys_of (paired (closed_texts l.block)) ≡ before ++ keys_of (paired (closed_texts l.rest))) × ((q : Bor (List ℕ)) → contains_by (λ k. slice_cmp nat_cmp q.now k.now) l.seen ≡ list_any (bytes_eq q.now) before)
      × (stands_twice before ≡ false);
}

abbrev pub decreases-loop-rest : goal.decreases-loop-rest
decreases-loop-rest l = length l.rest
