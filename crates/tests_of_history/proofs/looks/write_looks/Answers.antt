use Rattle.tests_of_history.proofs.looks.write_looks.Goals as goal

pub write_each_look-written-requires : goal.write_each_look-written-requires
write_each_look-written-requires c = c.in_ok-feeds.ensures.stands c.args.log.now.entries.list
