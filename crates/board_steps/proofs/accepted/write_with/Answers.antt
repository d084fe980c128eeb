use Rattle.std.proofs.Common.{◌≤◌, sym, subst, arith, length, List, ℕ, IsTrue}
use Rattle.std.specs.Prelude.{IsUtf8}
use Rattle.sg_names.specs.declared.rev_id.RevId.{RevId}
use Rattle.sg_names.specs.Revs.{is_revs}
use Rattle.doc_board.specs.Recorded.{HasDocument}
use Rattle.board_steps.proofs.Entries.{write_is_entry, first_revs, body_is_document}
use Rattle.board_steps.proofs.SameBoards.{small_body}
use Rattle.board_steps.proofs.accepted.write_with.Goals as goal

pub returns-clause-entry : goal.returns-clause-entry
returns-clause-entry c = λ winner.
    let doc : List ℕ = c.args.revision.doc in
    write_is_entry _
    (c.as_str.ensures.grammar, subst (λ (t : List ℕ). IsUtf8 t) c.as_str.ensures.value c.as_str.utf8)
    c.requires.formed.named.rev
    (subst (λ (rs : List RevId). IsTrue (is_revs rs)) (sym c.kept_of.ensures) (first_revs c.args.revision.ancestors c.args.kept c.requires.formed.named.history))
    c.body_with.ensures.bytes c.requires.name (omega (arith, c.ranges.at.fits)) winner c.requires.effects
    (record { channels = c.pass_effects.ensures.channels; grants = c.pass_effects.ensures.grants; roles = c.pass_effects.ensures.roles })

pub returns-clause-body : goal.returns-clause-body
returns-clause-body c =
    subst (λ (b : List ℕ). HasDocument b) (sym c.body_with.ensures.value) (body_is_document c.args.revision.body c.requires.formed.body)

pub returns-clause-size : goal.returns-clause-size
returns-clause-size c =
    subst (λ (b : List ℕ). length b ≤ 20971520) (sym c.body_with.ensures.value) (small_body c.args.revision.body c.requires.formed.size)
