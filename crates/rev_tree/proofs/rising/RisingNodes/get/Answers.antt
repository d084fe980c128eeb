use Rattle.std.proofs.Common.{◌≡◌, true, false, sym, Some, None}
use Rattle.sg_names.specs.RevId.{same_rev}
use Rattle.rev_tree.specs.Rising.{last_where, is_within, if_of, node_of}
use Rattle.rev_tree.proofs.Rises.{node_found}
use Rattle.rev_tree.proofs.rising.RisingNodes.get.Goals as goal
use Rattle.rev_tree.proofs.rising.RisingNodes.get.Goals.{in_default-via-in-Some+else-equals, in_default-via-in_default}

pub returns-in-Some : goal.returns-in-Some
returns-in-Some c =
    let nodes = c.args.self.now in
    let rev = c.args.rev.now in
    let last : last_where (is_within (record { rev = rev; or_equal = true })) nodes ≡ Some c.in-Some.node.now = rw c.up_to.ensures at (sym c.in-Some.ensures.value) in
    let found : if_of rev (Some c.in-Some.node.now) ≡ node_of nodes rev = rw last at (node_found rev nodes c.last_within.ensures.rises) in
    let same : same_rev c.in-Some.node.now.rev rev ≡ true = sym c.if-equals.ensures.value in
    rw same at found

pub returns-in_default : goal.returns-in_default
returns-in_default c =
    let nodes = c.args.self.now in
    let rev = c.args.rev.now in
    elim c.in_default.branch [
      | in_default-via-in-Some+else-equals w ↦
          let last : last_where (is_within (record { rev = rev; or_equal = true })) nodes ≡ Some w.in-Some.node.now = rw c.up_to.ensures at (sym w.in-Some.ensures.value) in
          let found : if_of rev (Some w.in-Some.node.now) ≡ node_of nodes rev = rw last at (node_found rev nodes c.last_within.ensures.rises) in
          let differs : same_rev w.in-Some.node.now.rev rev ≡ false = sym w.if-equals.ensures.value in
          rw differs at found
      | in_default-via-in_default w ↦
          let last : last_where (is_within (record { rev = rev; or_equal = true })) nodes ≡ None = rw c.up_to.ensures at (sym w.in_default.ensures.value) in
          rw last at (node_found rev nodes c.last_within.ensures.rises)
    ]
