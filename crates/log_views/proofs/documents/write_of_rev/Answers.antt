use Rattle.std.proofs.Common.{◌∙◌, sym, ap}
use Rattle.log_index.specs.Places.{revision_seq}
use Rattle.log_views.proofs.Placed.{rev_read}
use Rattle.log_views.proofs.documents.write_of_rev.Goals as goal

pub returns-in-Some : goal.returns-in-Some
returns-in-Some c =
    c.write_at.ensures
    ∙ rev_read c.args.entries.now c.args.doc.now c.args.rev.now c.in-Some.seq
    (sym (c.in_ok-revision.ensures ∙ ap (λ es. revision_seq es c.args.doc.now c.args.rev.now) c.requires) ∙ c.in-Some.is)
