-- past the end of a log there are no bodies
use Rattle.std.proofs.Common.{◌≡◌, ◌≤◌, ℕ, zero, suc, List, [], ◌∷◌, length, drop, refl, arith}
use Rattle.sg_history.specs.declared.entries.Entry.{Entry}
use Rattle.doc_board.specs.Boards.{bytes_stored}

pub none_past : (es : List Entry) (i : ℕ) → length es ≤ i → bytes_stored (drop i es) ≡ 0
none_past [] zero past = refl
none_past [] (suc i) past = refl
none_past (e ∷ es) zero past = absurd (omega (arith, past))
none_past (e ∷ es) (suc i) past = none_past es i (omega (arith, past))
