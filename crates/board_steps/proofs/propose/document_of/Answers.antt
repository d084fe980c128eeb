use Rattle.std.proofs.Common.{◌≡◌, ◌∙◌, sym, subst, arith, true, List, ℕ, Option}
use Rattle.std.specs.Prelude.{IfSome}
use Rattle.sg_names.specs.declared.rev_id.RevId.{RevId}
use Rattle.sg_names.specs.Revs.{is_revs}
use Rattle.json_doc.specs.declared.node.Node.{Node}
use Rattle.json_doc.specs.Reading.{IsDocument}
use Rattle.json_doc.specs.View.{node_tree}
use Rattle.board_steps.proofs.propose.document_of.Goals as goal

pub returns-in-Ok-Some-clause-formed : goal.returns-in-Ok-Some-clause-formed
returns-in-Ok-Some-clause-formed c =
    let R : List RevId → Type 0 = λ revs. is_revs revs ≡ true in
    let S : Option Node → Type 0 = λ o. IfSome o (λ doc. IsDocument c.as_slice-2.result.now (node_tree doc)) in
    let D : List ℕ → Type 0 = λ body. IsDocument body (node_tree c.in-Ok-Some.doc) in
    let there : IsDocument c.as_slice-2.result.now (node_tree c.in-Ok-Some.doc) = subst S c.in-Ok-Some.field-0-is c.in-Ok-Some.ensures.some in
    record {
      named = record { doc = c.as_str.ensures.grammar; rev = sym c.is_rev.ensures ∙ c.if-not-is_rev.false; history = subst R c.as_slice.ensures (sym c.are_revs.ensures ∙ c.if-not-are_revs.false) };
      size = omega (arith, c.len-bytes.ensures, c.if-bytes-gt-MOST_BODY_BYTES.false);
      body = (node_tree c.in-Ok-Some.doc, subst D c.as_slice-2.ensures there);
    }
