use Rattle.tests_of_history.proofs.listed.write_lists_of.Goals as goal

pub write_each_list-written-requires : goal.write_each_list-written-requires
write_each_list-written-requires c = c.in_ok-caches.ensures.stands c.args.log.now.entries.list
