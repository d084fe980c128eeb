use Rattle.tests_of_history.proofs.looks.write_by.Goals as goal

pub write_each_look_by-written-requires-clause-feeds : goal.write_each_look_by-written-requires-clause-feeds
write_each_look_by-written-requires-clause-feeds c = c.in_ok-feeds.ensures.stands c.args.log.now.entries.list
