use Rattle.feed_rows.proofs.shown.lasting_of_every.Goals as goal

pub returns : goal.returns
returns c = c.either.ensures _ _ c.args.k c.channel_lasting-every.ensures c.lasting_of.ensures
