use Rattle.std.proofs.Common.{◌++◌, ◌∙◌, List, arith, ap, refl, subst, sym, take}
use Rattle.std.proofs.lemmas.Result.{on_ok_weaker}
use Rattle.sg_history.specs.declared.entries.Entry.{Entry}
use Rattle.session_threads.specs.Opening.{IsOpening, IsRoleEntry, IsUserEntry}
use Rattle.session_threads.specs.Opened.{IsGrownByAll, IsOpened}
use Rattle.session_threads.proofs.Growing.{cut_again}
use Rattle.session_threads.proofs.opening.open.Goals as goal

pub put_roles-requires-clause-opened : goal.put_roles-requires-clause-opened
put_roles-requires-clause-opened c = subst (λ (log : List Entry). IsOpened log) (sym c.requires.empty) (record { few = omega arith; bodies = refl })

pub returns-clause-opening : goal.returns-clause-opening
returns-clause-opening c =
    let before : List Entry = c.put_roles.new.ground.board.log in
    let after : List Entry = c.put_users.new.ground.board.log in
    let roles : IsGrownByAll IsRoleEntry c.as_slice.result.now c.args.ground.now.board.log before = c.in_ok-put_roles.ensures.roles in
    let whole : IsGrownByAll IsUserEntry c.as_slice-2.result.now before after → IsOpening c.as_slice.result.now c.as_slice-2.result.now after = λ users. record {
      roles = roles.0;
      users = users.0;
      are_roles = roles.1;
      are_users = users.1;
      entries = users.2 ∙ ap (λ (l : List Entry). take 3999999 (l ++ users.0)) (roles.2 ∙ ap (λ (l : List Entry). take 3999999 (l ++ roles.0)) c.requires.empty) ∙ cut_again 3999999 roles.0 users.0;
    } in
    rw (← c.as_slice.ensures, ← c.as_slice-2.ensures) (on_ok_weaker c.put_users.result whole c.put_users.ensures.users)
