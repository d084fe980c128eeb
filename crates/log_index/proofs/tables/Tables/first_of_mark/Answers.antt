use Rattle.std.proofs.Common.{◌∙◌, sym, ap, ℕ, Some}
use Rattle.log_index.proofs.MarkFirsts.{no_first, some_first}
use Rattle.log_index.proofs.tables.Tables.first_of_mark.Goals as goal

pub returns-in-None : goal.returns-in-None
returns-in-None c = λ es is.
    no_first es c.args.mark.now.doc c.args.mark.now.rev (sym (c.in_ok-revision.ensures es is) ∙ c.in-None.is)

pub returns-in-Some : goal.returns-in-Some
returns-in-Some c = λ es is.
    ap (λ (n : ℕ). Some n) c.first_of.ensures
    ∙ some_first c.args.self.now es c.args.mark.now.doc c.args.mark.now.rev c.in-Some.seq is (sym (c.in_ok-revision.ensures es is) ∙ c.in-Some.is)
