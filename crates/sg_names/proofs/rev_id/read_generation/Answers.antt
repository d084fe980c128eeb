use Rattle.std.proofs.Common.{◌<◌, ◌^◌, arith, sym, ◌∙◌}
use Rattle.std.proofs.lemmas.Fmt.{decimal_injective}
use Rattle.sg_names.proofs.rev_id.read_generation.Goals as goal

pub returns-in_default-clause-none : goal.returns-in_default-clause-none
returns-in_default-clause-none c = λ n low high e.
    let read : c.in-Some.n < 2 ^ 64 = omega arith in
    let small : n < 2 ^ 64 = omega arith in
    let same = decimal_injective c.in-Some.n n read small (sym c.in-Some.ensures.some ∙ e) in
    omega (arith, same)

pub returns-in_default-2-clause-none : goal.returns-in_default-2-clause-none
returns-in_default-2-clause-none c = λ n low high e.
    let read : c.in-Some.n < 2 ^ 64 = omega arith in
    let small : n < 2 ^ 64 = omega arith in
    let same = decimal_injective c.in-Some.n n read small (sym c.in-Some.ensures.some ∙ e) in
    omega (arith, same)
