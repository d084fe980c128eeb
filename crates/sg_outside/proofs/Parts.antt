-- a part of a list without its front
use Rattle.std.proofs.Common.{◌≡◌, ℕ, ◌+◌, ◌-◌, ◌≤◌, List, length, take, drop, sym, ap, subst, ◌∙◌, arith, length-take}
use Rattle.std.specs.List.{slice_range}
use Rattle.std.proofs.lemmas.List.{drop-drop, drop-take}

drop_range : (xs : List ℕ) (start end count : ℕ) → start + count ≤ end → slice_range xs (start + count) end ≡ drop count (slice_range xs start end)
drop_range xs start end count below =
    let e : end - start ≡ count + (end - (start + count)) = omega (arith, below) in
    ap (λ l. take (end - (start + count)) l) (sym (drop-drop count start xs))
    ∙ sym (drop-take count (end - (start + count)) (drop start xs))
    ∙ ap (λ n. drop count (take n (drop start xs))) (sym e)

pub front_gone : (xs seen : List ℕ) (start end count : ℕ) → slice_range xs start end ≡ seen → start ≤ end → count ≤ length seen → slice_range xs (start + count) end ≡ drop count seen
front_gone xs seen start end count e order small =
    let small' : count ≤ length (slice_range xs start end) = subst (λ l. count ≤ length l) (sym e) small in
    drop_range xs start end count (omega (arith, order, small', length-take (end - start) (drop start xs))) ∙ ap (drop count) e
