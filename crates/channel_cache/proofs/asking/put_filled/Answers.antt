use Rattle.std.proofs.Common.{◌∙◌, ap, sym}
use Rattle.std.specs.Option.{option_copied_mut}
use Rattle.channel_cache.proofs.Changing.{keys_set, named}
use Rattle.channel_cache.proofs.Names.{filled_none, filled_one, same_names}
use Rattle.channel_cache.proofs.asking.put_filled.Goals as goal

pub returns-in-None-clause-lists : goal.returns-in-None-clause-lists
returns-in-None-clause-lists c = filled_none c.args.lists.now.entries c.args.channel.now c.args.list (sym c.peek_mut.ensures.value ∙ ap option_copied_mut c.in-None.is)

pub returns-in-Some-clause-keys : goal.returns-in-Some-clause-keys
returns-in-Some-clause-keys c = same_names c.args.lists.now.entries _ (keys_set (named c.args.channel.now) c.replace.new.dest c.args.lists.now.entries)

pub returns-in-Some-clause-lists : goal.returns-in-Some-clause-lists
returns-in-Some-clause-lists c =
    filled_one c.args.lists.now.entries c.args.channel.now c.in-Some.kept.now c.replace.new.dest c.args.list (sym c.peek_mut.ensures.value ∙ ap option_copied_mut c.in-Some.is) c.replace.ensures.after
