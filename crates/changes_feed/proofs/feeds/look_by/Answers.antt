use Rattle.changes_feed.proofs.feeds.look_by.Goals as goal

pub take_periods-requires : goal.take_periods-requires
take_periods-requires c = λ entries stands. c.changed-changed.ensures.same entries stands

pub look-advanced-requires-clause-steady : goal.look-advanced-requires-clause-steady
look-advanced-requires-clause-steady c = (c.args.grants.now.applied, c.requires.applied, c.changed-changed.ensures.same c.args.log.now.entries c.requires.grants)

pub returns-clause-kept : goal.returns-clause-kept
returns-clause-kept c =
    let entries = c.args.log.now.entries in
    c.keep_periods.ensures entries (c.in_ok-taken.ensures.of entries c.requires.grants c.requires.kept) (c.take_periods.ensures.kept entries c.requires.kept)
