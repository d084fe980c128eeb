use Rattle.std.proofs.Common.{◌≡◌, [], rules, arith}
use Rattle.std.proofs.lemmas.Grind.{common_steps}
use Rattle.sync_syntax.specs.Reading.{kind, place, sees_word, expect_word, refused_at}
use Rattle.sync_syntax.specs.Statements.{head, program}
use Rattle.sync_syntax.proofs.program.whole.Goals as goal

pub returns-in-None : goal.returns-in-None
unfolding program head expect_word sees_word kind place refused_at
returns-in-None c _ =
    let none : c.args.all.now ≡ [] = c.in-None.ensures in rw none (first_of (search rules, grind (arith, common_steps)))
