use Rattle.std.proofs.Common.{◌∙◌, ap, sym, Ok}
use Rattle.std.proofs.lemmas.Bool.Decides.{Decides-eqb}
use Rattle.sync_meaning.specs.Expressions as expressions
use Rattle.sync_meaning.specs.Variables.{number_of, value_in}
use Rattle.sync_eval.proofs.variables.read.Goals as goal

pub returns : goal.returns
unfolding expressions.read
returns c = λ scope f.
    let n = (Decides-eqb c.args.slot.now.number (number_of c.args.slot.now.name scope)).0 f in
    ap (λ k. Ok (value_in c.args.slot.now.name k c.args.state.now.variables, c.args.state.now)) (sym n)
    ∙ ap (λ x. Ok (x, c.args.state.now)) (sym c.in_ok-read.ensures)
