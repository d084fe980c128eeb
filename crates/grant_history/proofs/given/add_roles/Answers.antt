use Rattle.std.proofs.Common.{◌∙◌, ap, arith, ℕ, List, [], ◌∷◌, ◌++◌}
use Rattle.sg_history.specs.Puts.{grantee_in}
use Rattle.grant_history.specs.declared.facts.Fact.{Fact}
use Rattle.grant_tracks.specs.declared.things.What.TheVariants as what
use Rattle.grant_history.specs.Facts.{fact}
use Rattle.grant_tracks.proofs.Gathered.{map_over, map_end}
use Rattle.grant_history.proofs.given.add_roles.Goals as goal

pub loop-role-preserved : goal.loop-role-preserved
loop-role-preserved c =
    map_over (λ (x : List ℕ). fact (grantee_in c.args.of) (what.Role x)) c.args.roles.now c.loop-role.role-index c.role-item.result _ _ (omega arith) c.role-item.is
    (c.in_ok-push.ensures.items ∙ ap (λ (one : Fact). c.loop-role.list.items ++ one ∷ []) c.in_ok-role_fact.ensures)
    ∙ c.loop-role.invariant

pub returns : goal.returns
returns c = map_end (λ (x : List ℕ). fact (grantee_in c.args.of) (what.Role x)) c.args.roles.now c.loop-role.role-index _ (omega (arith, c.loop-role-test.false)) ∙ c.loop-role.invariant
