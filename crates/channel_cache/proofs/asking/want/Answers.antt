use Rattle.channel_cache.proofs.AskedFor.{nothing_more}
use Rattle.channel_cache.proofs.Changing.{on_ok}
use Rattle.channel_cache.proofs.asking.want.Goals as goal

pub returns-clause-nothing : goal.returns-clause-nothing
returns-clause-nothing c = on_ok c.put_new.result _ _ (λ holding. nothing_more c.args.channel.now c.args.wanted.now.entries c.put_new.new.lists.entries c.requires.nothing holding) c.put_new.ensures.holds

pub returns-clause-kept : goal.returns-clause-kept
returns-clause-kept c = on_ok c.put_new.result _ _ (λ room. room c.requires.room) c.put_new.ensures.room
