use Rattle.std.proofs.Common.{ℕ, subst, arith}
use Rattle.log_index.specs.Representation.{IsLast, place_at}
use Rattle.log_index.proofs.KeptMarks.{last_kept, none_up_to}
use Rattle.log_index.proofs.tables.Tables.marked.Goals as goal

pub returns-then-up_to-write : goal.returns-then-up_to-write
returns-then-up_to-write c = λ es is. none_up_to es c.args.write c.args.up_to (omega (arith, c.if-up_to-write.true))

pub returns : goal.returns
returns c = λ es is.
    last_kept c.args.self.now es c.args.write c.args.up_to c.last_place.result is
    (subst (λ (f : ℕ). IsLast (place_at c.args.self.now.marks f) c.args.write c.args.up_to c.last_place.result) c.first_of-first.ensures c.last_place.ensures)
