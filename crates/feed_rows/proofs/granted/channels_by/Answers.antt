use Rattle.std.proofs.Common.{◌∙◌, sym, List, arith, subst}
use Rattle.sg_history.specs.declared.entries.Entry.{Entry}
use Rattle.sg_history.specs.History.{entries_of}
use Rattle.grant_history.specs.Stands.{StandsFor}
use Rattle.feed_rows.proofs.granted.channels_by.Goals as goal

pub exists_at-requires : goal.exists_at-requires
exists_at-requires c = omega (arith, c.in_ok-apply.ensures.ok, c.requires.none)

pub returns-then-not-exists_at-clause-exists : goal.returns-then-not-exists_at-clause-exists
returns-then-not-exists_at-clause-exists c =
    let stands = subst (λ (es : List Entry). StandsFor c.apply.new.self es) c.new-reads.ensures.entries c.in_ok-apply.ensures.stands in
    sym c.if-not-exists_at.true ∙ c.exists_at.ensures (entries_of c.args.log.now) stands

pub returns-clause-exists : goal.returns-clause-exists
returns-clause-exists c =
    let stands = subst (λ (es : List Entry). StandsFor c.apply.new.self es) c.new-reads.ensures.entries c.in_ok-apply.ensures.stands in
    sym c.if-not-exists_at.false ∙ c.exists_at.ensures (entries_of c.args.log.now) stands

pub returns-clause-channels : goal.returns-clause-channels
returns-clause-channels c =
    let stands = subst (λ (es : List Entry). StandsFor c.apply.new.self es) c.new-reads.ensures.entries c.in_ok-apply.ensures.stands in
    c.in_ok-channels.ensures.channels (entries_of c.args.log.now) stands
