use Rattle.std.proofs.Common.{◌≡◌, ◌∙◌, ◌++◌, ◌∷◌, [], List, OnOk, Option, ℕ, ap, append_assoc, codes, decimal, subst, sym}
use Rattle.sg_history.specs.Journal.{header_of}
use Rattle.sg_history.proofs.Appended.{both_put}
use Rattle.sg_history.proofs.journal_text.put_header.Goals as goal

pub returns-in_ok-write_decimal-in-Some-clause-ok :
    goal.returns-in_ok-write_decimal-in-Some-clause-ok
returns-in_ok-write_decimal-in-Some-clause-ok c =
    let before = c.args.out.now in
    let digits = decimal c.in-Some.limit in
    let middle : c.write_decimal.new.out ≡ before ++ (codes "sgjournal 2 " ++ digits) =
    c.in_ok-write_decimal-in-Some.ensures.ok ∙ ap (λ (m : List ℕ). m ++ digits) c.in_ok-extend_from_slice-in-Some.ensures.ok
    ∙ append_assoc before (codes "sgjournal 2 ") digits
    in
    subst (λ (o : Option ℕ). OnOk c.push.result (c.push.new.self ≡ before ++ header_of o)) (sym c.in-Some.is)
    (both_put c.push.result before c.write_decimal.new.out c.push.new.self (codes "sgjournal 2 " ++ digits) (10 ∷ []) middle c.push.ensures.ok)
