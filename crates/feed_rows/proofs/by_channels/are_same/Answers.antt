use Rattle.std.proofs.Common.{◌≡◌, ◌∙◌, ◌<◌, ◌∷◌, [], ◌++◌, ℕ, List, sym, ap, take, length, arith}
use Rattle.std.specs.Cmp.Lexicographic.{bytes_decides}
use Rattle.std.proofs.lemmas.List.{take_more, take_all}
use Rattle.feed_rows.proofs.by_channels.are_same.Goals as goal

pub loop-i-preserved : goal.loop-i-preserved
loop-i-preserved c =
    let one = c.args.one.now in
    let other = c.args.other.now in
    let i = c.loop-i.i in
    let x = c.index-one-i.result in
    let y = c.index-other-i.result in
    let low : i < length one = omega arith in
    let low_other : i < length other = omega arith in
    let same : x ≡ y = (bytes_decides x y).0 (sym c.equals.ensures.value ∙ c.if-not-equals.false) in
    take_more one i x low
    ∙ ap (λ (n : List ℕ). take i one ++ n ∷ []) (sym c.index-one-i.is)
    ∙ ap (λ (l : List (List ℕ)). l ++ x ∷ []) c.loop-i.invariant
    ∙ ap (λ (n : List ℕ). take i other ++ n ∷ []) (same ∙ c.index-other-i.is)
    ∙ sym (take_more other i y low_other)

pub returns : goal.returns
returns c = λ yes.
    sym (take_all c.loop-i.i c.args.one.now (omega arith)) ∙ c.loop-i.invariant ∙ take_all c.loop-i.i c.args.other.now (omega arith)
