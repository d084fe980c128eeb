use Rattle.std.proofs.Common.{◌≡◌, ◌++◌, ◌∷◌, true, List, ℕ, ap, ◌∙◌, arith}
use Rattle.std.proofs.lemmas.Bool.{and_from, le-leb, lt-ltb}
use Rattle.sg_names.specs.Grammar.{is_digest}
use Rattle.sg_names.proofs.RevTexts.{rev_cut, rev_parts}
use Rattle.sg_names.proofs.rev_id.RevIdItem.is_text.Goals as goal

pub returns-clause-yes : goal.returns-clause-yes
returns-clause-yes c = λ is.
    let seam = c.in-Some.ensures.some in
    let generation = c.in-Some-read_generation.ensures.some in
    let n : ℕ = c.in-Some-read_generation._generation in
    let digest : is_digest c.in-Some.back.now ≡ true = cc (is, c.is_digest.ensures, c.as_bytes.ensures.value) in
    record {
      item = record { generation = n; digest = c.in-Some.back.now };
      admitted = and_from _ _ (and_from _ _ (le-leb 1 n generation.1) (lt-ltb n 4294967296 (omega arith))) digest;
      spelled = seam.0 ∙ ap (λ (f : List ℕ). f ++ 45 ∷ c.in-Some.back.now) generation.0;
    }

pub returns-clause-no : goal.returns-clause-no
returns-clause-no c = λ is r h e.
    let seam = c.in-Some.ensures.some in
    let cut = rev_cut c.args.piece.now c.in-Some.front.now c.in-Some.back.now r seam.0 seam.1 h e in
    let digest : is_digest c.in-Some.back.now ≡ true = ap is_digest cut.1 ∙ (rev_parts r h).digest in
    cc (is, digest, c.is_digest.ensures, c.as_bytes.ensures.value)

pub returns-in_default-read_generation-clause-no : goal.returns-in_default-read_generation-clause-no
returns-in_default-read_generation-clause-no c = λ is r h e.
    let parts = rev_parts r h in
    let seam = c.in-Some.ensures.some in
    let cut = rev_cut c.args.piece.now c.in-Some.front.now c.in-Some.back.now r seam.0 seam.1 h e in
    c.in_default-read_generation.ensures.none r.generation parts.low parts.high cut.0
