use Rattle.std.proofs.Common.{rules, sym}
use Rattle.std.specs.Cmp.Lexicographic.{slice_cmp}
use Rattle.std.specs.Ordering.{nat_cmp}
use Rattle.std.proofs.lemmas.Fn.{always_returns_same}
use Rattle.sync_values.proofs.Rising.{found_there, found_nowhere}
use Rattle.sync_values.proofs.by_name.by_halves.Goals as goal

pub returns-in-Ok : goal.returns-in-Ok
returns-in-Ok g c =
    sym (found_there c.args.name.now c.args.members.now c.in-Ok.at _ c.requires c.in-Ok.ensures.bound
    (c.in-Ok.ensures.position (λ m. slice_cmp nat_cmp m.0 c.args.name.now) (always_returns_same _ _ _ (λ a r f' k. search rules))))

pub returns-in-Err : goal.returns-in-Err
returns-in-Err g c =
    sym (found_nowhere c.args.name.now c.args.members.now c.in-Err.field-0 c.requires
    (c.in-Err.ensures.position (λ m. slice_cmp nat_cmp m.0 c.args.name.now) (always_returns_same _ _ _ (λ a r f' k. search rules))))
