use Rattle.std.proofs.Common.{List, arith, subst, sym, take}
use Rattle.std.proofs.lemmas.List.{take_all, take_more}
use Rattle.gateway_config.specs.declared.config.ConfigUser.{ConfigUser}
use Rattle.principals.specs.Script.{entry_of}
use Rattle.session_threads.specs.Opening.{IsUserEntry}
use Rattle.session_threads.specs.Opened.{IsGrownByAll}
use Rattle.session_threads.proofs.Growing.{grown_more, grown_none}
use Rattle.session_threads.proofs.opening.put_users.Goals as goal

pub loop-user-init : goal.loop-user-init
loop-user-init c = record { grown = grown_none IsUserEntry c.args.ground.now.board.log c.requires.opened; own = c.requires.own; opened = c.requires.opened }

pub loop-user-preserved : goal.loop-user-preserved
loop-user-preserved c = record {
  grown = subst (λ (rs : List ConfigUser). IsGrownByAll IsUserEntry rs c.args.ground.now.board.log c.put.new.ground.board.log) (sym (take_more c.args.users.now c.loop-user.user-index c.user-item.result c.loop-user-test.true))
      (grown_more IsUserEntry (take c.loop-user.user-index c.args.users.now) _ c.loop-user.ground.board.log _ _ (entry_of c.in_ok-put_user.field-0) c.loop-user.invariant.grown
      (subst (λ (r : ConfigUser). IsUserEntry r (entry_of c.in_ok-put_user.field-0)) c.user-item.is c.in_ok-put_user.ensures.entry) c.in_ok-put.ensures.log);
  own = c.put.ensures.own;
  opened = c.put.ensures.opened;
}

pub returns-clause-users : goal.returns-clause-users
returns-clause-users c =
    subst (λ (rs : List ConfigUser). IsGrownByAll IsUserEntry rs c.args.ground.now.board.log c.loop-user.ground.board.log) (take_all c.loop-user.user-index c.args.users.now (omega (arith, c.loop-user-test.false))) c.loop-user.invariant.grown
