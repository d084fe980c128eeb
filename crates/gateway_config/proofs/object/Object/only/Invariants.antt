use Rattle.std.proofs.Common.{◌≡◌, map}
use Rattle.serde_json.specs.View.{members_view}
use Rattle.gateway_config.specs.Faults.{unknown}
use Rattle.gateway_config.proofs.object.Object.only.Given as goal

abbrev pub invariant-loop-name : goal.invariant-loop-name
invariant-loop-name l =
    unknown l.self.path.now (map (λ k. k.now) l.known) (members_view l.name-iterator)
    ≡ unknown l.self.path.now (map (λ k. k.now) l.known) (members_view l.self.members.now.entries)
