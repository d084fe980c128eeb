use Rattle.std.proofs.Common.{◌≡◌, map, drop}
use Rattle.std.specs.List.{list_any}
use Rattle.sg_history.specs.History.{among}
use Rattle.log_views.proofs.sorted.has_one.Given as goal

-- one of the channels that are left is there where one of all is
abbrev pub invariant-loop-channel : goal.invariant-loop-channel
invariant-loop-channel g l = list_any (λ c. among (map g.T.Named.name l.names) c) (drop l.channel-index l.channels) ≡ list_any (λ c. among (map g.T.Named.name l.names) c) l.channels
