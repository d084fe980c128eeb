use Rattle.std.proofs.Common.{◌≡◌, false, take}
use Rattle.std.specs.List.{list_any}
use Rattle.grant_history.specs.Periods.{periods_have}
use Rattle.feed_rows.specs.Lasting.{Lasts}
use Rattle.feed_rows.proofs.shown.lasting_of.Given as goal

-- none of the channels so far is had at the place
abbrev pub invariant-loop-channel : goal.invariant-loop-channel
invariant-loop-channel l = record {
  none : l.none.holds ≡ false;
  lasts : Lasts (λ j. list_any (λ c. periods_have l.periods c j) (take l.channel-index l.channels)) l.k l.none;
}
