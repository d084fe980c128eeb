use Rattle.std.proofs.Common.{◌||◌, ap, not, ◌∙◌}
use Rattle.sg_history.specs.inner.Written.{has, is_rev_of}
use Rattle.sg_history.proofs.Revisions.{found_rev, inserted_rev, numbered_with}
use Rattle.sg_history.proofs.written.Written.insert.Goals as goal

pub returns-clause-added : goal.returns-clause-added
returns-clause-added c =
    let doc = c.args.doc.now in
    let rev = c.args.rev.now in
    c.in_ok-insert.ensures.added
    ∙ ap not (found_rev c.key_of.result c.self.inside.keys.keys doc rev
    (record { number = c.key_of.ensures.number; doc_is = c.key_of.ensures.doc; generation = c.key_of.ensures.generation; digest = c.key_of.ensures.digest })
    c.self.invariant
    ∙ ap (λ w. has w doc rev) c.self.view_is)

pub returns-clause-ok : goal.returns-clause-ok
returns-clause-ok c =
    let doc = c.args.doc.now in
    let rev = c.args.rev.now in
    λ other r.
    inserted_rev c.self.inside.keys.keys c.insert.new.self.keys c.key_of.result doc rev
    (record { number = c.key_of.ensures.number; doc_is = c.key_of.ensures.doc; generation = c.key_of.ensures.generation; digest = c.key_of.ensures.digest })
    c.in_ok-insert.ensures.updates.0 c.self.invariant other r
    ∙ ap (λ w. is_rev_of (record { doc = doc; rev = rev }) other r || has w other r) c.self.view_is

pub invariant_of-self-2 : goal.invariant_of-self-2
invariant_of-self-2 c =
    numbered_with c.self.inside.keys.keys c.insert.new.self.keys c.key_of.result c.args.doc.now c.args.rev.now
    (record { number = c.key_of.ensures.number; doc_is = c.key_of.ensures.doc; generation = c.key_of.ensures.generation; digest = c.key_of.ensures.digest })
    c.in_ok-insert.ensures.updates.0 c.self.invariant
