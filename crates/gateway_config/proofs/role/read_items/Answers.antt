use Rattle.std.proofs.Common.{rules, length, ap}
use Rattle.serde_json.specs.View.{view}
use Rattle.gateway_config.specs.declared.config.ConfigRole.{ConfigRole}
use Rattle.gateway_config.specs.inner.Seen.{has}
use Rattle.gateway_config.specs.Values.{role_in}
use Rattle.gateway_config.proofs.Items.{roles_end, roles_faultless, roles_kept, roles_named, roles_seen}
use Rattle.gateway_config.proofs.role.read_items.Goals as goal

pub returns-in_err-role : goal.returns-in_err-role
returns-in_err-role c =
    let l = c.loop-item in
    let fault_is = roles_named c.args.items.now l.item-index c.item-item.result (length c.as_slice.result.now) (has l.seen) l.roles c.in_err-role.field-0.0 c.loop-item-test.true c.item-item.is (ap length c.as_slice.ensures) l.invariant.seen c.in_err-role.ensures.read l.invariant.fault in
    search (rules, fault_is)

pub loop-item-preserved : goal.loop-item-preserved
loop-item-preserved c =
    let l = c.loop-item in
    let read = c.in_ok-role.ensures.read in
    let pushed = c.in_ok-push.ensures.ok in
    let made = c.push.new.self in
    let role = c.in_ok-role.role in
    record {
      seen = roles_seen (has l.seen) (has c.read_role.new.seen) l.roles made role (role_in (view c.item-item.result)).name l.invariant.seen c.in_ok-role.ensures.seen (ap (λ (r : ConfigRole). r.name) read.1) pushed;
      fault = roles_faultless c.args.items.now l.item-index c.item-item.result (length c.as_slice.result.now) (has l.seen) l.roles made role c.loop-item-test.true c.item-item.is (ap length c.as_slice.ensures) l.invariant.seen read.0 read.1 pushed l.invariant.fault;
      says = roles_kept c.args.items.now l.item-index c.item-item.result l.roles made role c.loop-item-test.true c.item-item.is read.1 pushed l.invariant.says;
    }

pub returns : goal.returns
returns c =
    let l = c.loop-item in
    roles_end c.args.items.now l.item-index l.roles c.loop-item-test.false l.invariant.fault l.invariant.says
