use Rattle.std.proofs.Common.{◌∙◌, sym}
use Rattle.std.proofs.lemmas.Result.{IfOk-weaker}
use Rattle.std.proofs.lemmas.List.{length-map}
use Rattle.write_path.specs.Shelf.{shelf_state}
use Rattle.replay.proofs.Printing.{given_of, traffic_at, sent_of, ended_of, traffic_is}
use Rattle.replay.proofs.Replaying.{as_many, is_replay}
use Rattle.replay.proofs.whole.replayed.Goals as goal

pub printed-text-requires : goal.printed-text-requires
printed-text-requires g c = record {
  as_many = c.requires.as_many ∙ sym (length-map c.args.sessions given_of) ∙ as_many ended_of traffic_at sent_of traffic_is c.args.config.now c.args.lines _ c.in_ok-played.played.sessions (shelf_state c.in_ok-played.played.shelf) c.in_ok-played.played.script c.in_ok-played.ensures.played;
}

pub returns : goal.returns
returns g c =
    IfOk-weaker c.printed-text.result _ _
    (λ text p. λ records given whose. is_replay ended_of traffic_at sent_of traffic_is c.args.config.now c.args.lines records _ c.args.users.now c.in_ok-played.played.sessions (shelf_state c.in_ok-played.played.shelf) c.in_ok-played.played.script p.0 text given whose c.in_ok-played.ensures.played p.1 p.2 p.3)
    c.printed-text.ensures
