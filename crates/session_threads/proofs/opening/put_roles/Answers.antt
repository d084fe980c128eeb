use Rattle.std.proofs.Common.{List, arith, subst, sym, take}
use Rattle.std.proofs.lemmas.List.{take_all, take_more}
use Rattle.gateway_config.specs.declared.config.ConfigRole.{ConfigRole}
use Rattle.principals.specs.Script.{entry_of}
use Rattle.session_threads.specs.Opening.{IsRoleEntry}
use Rattle.session_threads.specs.Opened.{IsGrownByAll}
use Rattle.session_threads.proofs.Growing.{grown_more, grown_none}
use Rattle.session_threads.proofs.opening.put_roles.Goals as goal

pub loop-role-init : goal.loop-role-init
loop-role-init c = record { grown = grown_none IsRoleEntry c.args.ground.now.board.log c.requires.opened; own = c.requires.own; opened = c.requires.opened }

pub loop-role-preserved : goal.loop-role-preserved
loop-role-preserved c = record {
  grown = subst (λ (rs : List ConfigRole). IsGrownByAll IsRoleEntry rs c.args.ground.now.board.log c.put.new.ground.board.log) (sym (take_more c.args.roles.now c.loop-role.role-index c.role-item.result c.loop-role-test.true))
      (grown_more IsRoleEntry (take c.loop-role.role-index c.args.roles.now) _ c.loop-role.ground.board.log _ _ (entry_of c.in_ok-put_role.field-0) c.loop-role.invariant.grown
      (subst (λ (r : ConfigRole). IsRoleEntry r (entry_of c.in_ok-put_role.field-0)) c.role-item.is c.in_ok-put_role.ensures.entry) c.in_ok-put.ensures.log);
  own = c.put.ensures.own;
  opened = c.put.ensures.opened;
}

pub returns-clause-roles : goal.returns-clause-roles
returns-clause-roles c =
    subst (λ (rs : List ConfigRole). IsGrownByAll IsRoleEntry rs c.args.ground.now.board.log c.loop-role.ground.board.log) (take_all c.loop-role.role-index c.args.roles.now (omega (arith, c.loop-role-test.false))) c.loop-role.invariant.grown
