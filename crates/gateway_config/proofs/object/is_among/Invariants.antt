use Rattle.std.proofs.Common.{◌≡◌, drop, map}
use Rattle.sg_history.specs.History.{among}
use Rattle.gateway_config.proofs.object.is_among.Given as goal

abbrev pub invariant-loop-one : goal.invariant-loop-one
invariant-loop-one l = among (map (λ k. k.now) (drop l.one-index l.known)) l.name ≡ among (map (λ k. k.now) l.known) l.name
