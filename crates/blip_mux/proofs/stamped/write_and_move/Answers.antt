use Rattle.std.proofs.Common.{◌∙◌}
use Rattle.blip_mux.specs.inner.Entries.{look}
use Rattle.blip_mux.proofs.Moved.{some_there, is_there, place_gone, still_there, place_there, put_in_place}
use Rattle.blip_mux.proofs.stamped.write_and_move.Goals as goal

pub write-requires : goal.write-requires
write-requires c =
    let was = some_there (look c.args.messages.now.entries c.args.from) c.requires.there in
    is_there _ was.0 (still_there c.args.messages.now.entries c.make_place.new.messages.entries c.args.to _ c.requires.ordered c.requires.last c.in_ok-make_place.ensures.ok c.args.from was.0 was.1)

pub returns-in-Err-clause-err : goal.returns-in-Err-clause-err
returns-in-Err-clause-err c =
    (c.remove.ensures.others ∙ place_gone c.args.messages.now.entries c.make_place.new.messages.entries c.args.to _ c.requires.ordered c.requires.last c.in_ok-make_place.ensures.ok, c.in-Err.ensures.err.0, c.in-Err.ensures.err.1)

pub move_message-requires-clause-there : goal.move_message-requires-clause-there
move_message-requires-clause-there c =
    let was = some_there (look c.args.messages.now.entries c.args.from) c.requires.there in
    is_there _ was.0 (still_there c.args.messages.now.entries c.make_place.new.messages.entries c.args.to _ c.requires.ordered c.requires.last c.in_ok-make_place.ensures.ok c.args.from was.0 was.1)

pub move_message-requires-clause-more : goal.move_message-requires-clause-more
move_message-requires-clause-more c =
    let was = some_there (look c.args.messages.now.entries c.args.from) c.requires.there in
    rw (still_there c.args.messages.now.entries c.make_place.new.messages.entries c.args.to _ c.requires.ordered c.requires.last c.in_ok-make_place.ensures.ok c.args.from was.0 was.1) (rw was.1 at c.requires.more)

pub move_message-requires-clause-place : goal.move_message-requires-clause-place
move_message-requires-clause-place c =
    let was = some_there (look c.args.messages.now.entries c.args.from) c.requires.there in
    is_there _ _ (place_there c.args.messages.now.entries c.make_place.new.messages.entries c.args.to _ c.requires.ordered c.requires.last c.in_ok-make_place.ensures.ok c.args.from was.0 was.1)

pub returns-clause-moved : goal.returns-clause-moved
returns-clause-moved c =
    let was = some_there (look c.args.messages.now.entries c.args.from) c.requires.there in
    let seen = still_there c.args.messages.now.entries c.make_place.new.messages.entries c.args.to _ c.requires.ordered c.requires.last c.in_ok-make_place.ensures.ok c.args.from was.0 was.1 in
    rw was.1 (rw seen at c.move_message.ensures.moved ∙ put_in_place c.args.messages.now.entries c.make_place.new.messages.entries c.args.to _ c.requires.ordered c.requires.last c.in_ok-make_place.ensures.ok c.args.from was.0 _ was.1)

pub returns-clause-wrote : goal.returns-clause-wrote
returns-clause-wrote c =
    let was = some_there (look c.args.messages.now.entries c.args.from) c.requires.there in
    let seen = still_there c.args.messages.now.entries c.make_place.new.messages.entries c.args.to _ c.requires.ordered c.requires.last c.in_ok-make_place.ensures.ok c.args.from was.0 was.1 in
    rw was.1 (rw seen at c.in_default.ensures.wrote)
