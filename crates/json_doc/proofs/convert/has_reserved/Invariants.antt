use Rattle.std.proofs.Common.{◌≡◌}
use Rattle.serde_json.specs.View.{members_view}
use Rattle.json_doc.specs.Reading.{has_reserved}
use Rattle.json_doc.proofs.convert.has_reserved.Given as goal

abbrev pub invariant-loop-name : goal.invariant-loop-name
invariant-loop-name l = has_reserved (members_view l.name-iterator) ≡ has_reserved (members_view l.members.entries)
