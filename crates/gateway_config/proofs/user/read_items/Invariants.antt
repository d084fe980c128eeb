use Rattle.std.proofs.Common.{◌≡◌, ℕ, List, [], ◌++◌, drop}
use Rattle.serde_json.specs.View.{items_view}
use Rattle.gateway_config.specs.Faults.{is_session_of, is_user_of, users_fault}
use Rattle.gateway_config.specs.inner.Seen.{has}
use Rattle.gateway_config.specs.Values.{users_of}
use Rattle.gateway_config.proofs.user.read_items.Given as goal

abbrev pub invariant-loop-item : goal.invariant-loop-item
invariant-loop-item l = record {
  names : (t : List ℕ) → has l.names t ≡ is_user_of l.users t;
  sessions : (t : List ℕ) → has l.sessions t ≡ is_session_of l.users t;
  fault : users_fault l.users (items_view (drop l.item-index l.items)) ≡ users_fault [] (items_view l.items);
  says : l.users ++ users_of (items_view (drop l.item-index l.items)) ≡ users_of (items_view l.items);
}
