use Rattle.std.proofs.Common.{◌≡◌, ℕ, List, [], ◌++◌, drop}
use Rattle.serde_json.specs.View.{items_view}
use Rattle.gateway_config.specs.Faults.{is_role_of, roles_fault}
use Rattle.gateway_config.specs.inner.Seen.{has}
use Rattle.gateway_config.specs.Values.{roles_of}
use Rattle.gateway_config.proofs.role.read_items.Given as goal

abbrev pub invariant-loop-item : goal.invariant-loop-item
invariant-loop-item l = record {
  seen : (t : List ℕ) → has l.seen t ≡ is_role_of l.roles t;
  fault : roles_fault l.roles (items_view (drop l.item-index l.items)) ≡ roles_fault [] (items_view l.items);
  says : l.roles ++ roles_of (items_view (drop l.item-index l.items)) ≡ roles_of (items_view l.items);
}
