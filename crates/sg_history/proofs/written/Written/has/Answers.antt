use Rattle.std.proofs.Common.{ap, ◌∙◌}
use Rattle.sg_history.specs.inner.Written.{has}
use Rattle.sg_history.proofs.Revisions.{found_rev}
use Rattle.sg_history.proofs.written.Written.has.Goals as goal

pub returns : goal.returns
returns c =
    let doc = c.args.doc.now in
    let rev = c.args.rev.now in
    c.contains.ensures
    ∙ found_rev c.key_of.result c.self.inside.keys.keys doc rev
    (record { number = c.key_of.ensures.number; doc_is = c.key_of.ensures.doc; generation = c.key_of.ensures.generation; digest = c.key_of.ensures.digest })
    c.self.invariant
    ∙ ap (λ w. has w doc rev) c.self.view_is
