use Rattle.std.proofs.Common.{sym, ◌∙◌}
use Rattle.sg_names.proofs.Cuts.{cut_same}
use Rattle.sg_names.proofs.pieces.order_at_equals.Goals as goal

pub returns-in-Some-Some : goal.returns-in-Some-Some
returns-in-Some-Some c = λ front back first rest one one_lacks other other_lacks.
    let seam = c.in-Some-Some.ensures.some in
    let seam' = c.in-Some-Some.ensures'.some in
    let a = cut_same 61 c.in-Some-Some.front.now c.in-Some-Some.back.now front back seam.1 one_lacks (sym seam.0 ∙ one) in
    let b = cut_same 61 c.in-Some-Some.first.now c.in-Some-Some.rest.now first rest seam'.1 other_lacks (sym seam'.0 ∙ other) in
    cc (a.0, a.1, b.0, b.1, c.then.ensures, c.cmp-fronts.ensures, c.cmp.ensures, c.as_bytes.ensures.value, c.as_bytes-in-Some-Some.ensures.value, c.as_bytes-in-Some-Some-2.ensures.value, c.as_bytes-in-Some-Some-3.ensures.value)
