use Rattle.std.proofs.Common.{◌≡◌, true, false, arith}
use Rattle.grant_tracks.specs.Spells.{ends_after}
use Rattle.feed_rows.proofs.Searching.{lasts_ended, lasts_open}
use Rattle.feed_rows.proofs.lasting.lasting_by.Goals as goal

pub returns-then-has_ended : goal.returns-then-has_ended
returns-then-has_ended c = λ test says.
    let ended : ends_after c.args.last.now.to c.args.k ≡ false = grind arith in
    lasts_ended c.args.last.now c.args.k c.end_or.result test c.end_or.ensures ended c.requires.began c.requires.has_places says

pub returns : goal.returns
returns c = λ test says.
    let lasting : ends_after c.args.last.now.to c.args.k ≡ true = grind arith in
    lasts_open c.args.last.now c.args.k test lasting c.requires.began says
