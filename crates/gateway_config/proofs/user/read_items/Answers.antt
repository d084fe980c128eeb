use Rattle.std.proofs.Common.{rules, length, ap}
use Rattle.serde_json.specs.View.{view}
use Rattle.gateway_config.specs.declared.config.ConfigUser.{ConfigUser}
use Rattle.gateway_config.specs.inner.Seen.{has}
use Rattle.gateway_config.specs.Values.{user_in}
use Rattle.gateway_config.proofs.Items.{sessions_seen, users_end, users_faultless, users_kept, users_named, users_seen}
use Rattle.gateway_config.proofs.user.read_items.Goals as goal

pub returns-in_err-user : goal.returns-in_err-user
returns-in_err-user c =
    let l = c.loop-item in
    let fault_is = users_named c.args.items.now l.item-index c.item-item.result (length c.as_slice-place.result.now) (has l.names) (has l.sessions) l.users c.in_err-user.field-0.0 c.loop-item-test.true c.item-item.is (ap length c.as_slice-place.ensures) l.invariant.names l.invariant.sessions c.in_err-user.ensures.read l.invariant.fault in
    search (rules, fault_is)

pub loop-item-preserved : goal.loop-item-preserved
loop-item-preserved c =
    let l = c.loop-item in
    let read = c.in_ok-user.ensures.read in
    let pushed = c.in_ok-push.ensures.ok in
    let made = c.push.new.self in
    let user = c.in_ok-user.user in
    record {
      names = users_seen (has l.names) (has c.read_user.new.names) l.users made user (user_in (view c.item-item.result)).name l.invariant.names c.in_ok-user.ensures.names (ap (λ (u : ConfigUser). u.name) read.1) pushed;
      sessions = sessions_seen (has l.sessions) (has c.read_user.new.sessions) l.users made user (user_in (view c.item-item.result)) l.invariant.sessions c.in_ok-user.ensures.sessions read.1 pushed;
      fault = users_faultless c.args.items.now l.item-index c.item-item.result (length c.as_slice-place.result.now) (has l.names) (has l.sessions) l.users made user c.loop-item-test.true c.item-item.is (ap length c.as_slice-place.ensures) l.invariant.names l.invariant.sessions read.0 read.1 pushed l.invariant.fault;
      says = users_kept c.args.items.now l.item-index c.item-item.result l.users made user c.loop-item-test.true c.item-item.is read.1 pushed l.invariant.says;
    }

pub returns : goal.returns
returns c =
    let l = c.loop-item in
    users_end c.args.items.now l.item-index l.users c.loop-item-test.false l.invariant.fault l.invariant.says
