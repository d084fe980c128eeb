-- the command lines are of the kind of which `clap` says all
use Rattle.std.proofs.Common.{◌≡◌, true, refl, codes}
use Rattle.clap.specs.Words.{is_simple_and_free}
use Rattle.command_line.specs.CommandLines.{feed_app, replay_app, serve_app}

pub feed_is_simple : is_simple_and_free feed_app ≡ true
unfolding feed_app
feed_is_simple = refl

pub feed_is_named : feed_app.top.name ≡ codes "feed"
unfolding feed_app
feed_is_named = refl

pub replay_is_simple : is_simple_and_free replay_app ≡ true
unfolding replay_app
replay_is_simple = refl

pub replay_is_named : replay_app.top.name ≡ codes "replay"
unfolding replay_app
replay_is_named = refl

pub serve_is_simple : is_simple_and_free serve_app ≡ true
unfolding serve_app
serve_is_simple = refl

pub serve_is_named : serve_app.top.name ≡ codes "serve"
unfolding serve_app
serve_is_named = refl
