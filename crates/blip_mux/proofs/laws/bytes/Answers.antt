use Rattle.std.proofs.Common.{◌≡◌, List, None}
use Rattle.blip_mux.specs.Joining.{Event, joined, is_request, is_reply}
use Rattle.blip_mux.specs.Order.{messages_in}
use Rattle.blip_mux.specs.Sending.{new_sending}
use Rattle.blip_mux.specs.Between.{events_in, put_in, messages_of}
use Rattle.blip_mux.specs.Arriving.{events_at}
use Rattle.blip_mux.proofs.Arrivals.{read_all, of_read}
use Rattle.blip_mux.proofs.laws.bytes.Goals as goal

pub returns : goal.returns
returns c =
    let read = read_all c.frames.ensures.again c.running_checksum.ensures.start in
    record {
      read = λ steps arrivals. read arrivals (events_in new_sending steps);
      accepted = λ steps arrivals allowed are. of_read (events_at 0 arrivals) (events_in new_sending steps) (λ (events : List Event). (joined events).1 ≡ None) (read arrivals (events_in new_sending steps) are) (c.round_trip.ensures.accepted steps allowed);
      requests = λ number steps arrivals allowed are none.
          of_read (events_at 0 arrivals) (events_in new_sending steps) (λ (events : List Event). messages_of is_request number (messages_in (joined events).0) ≡ messages_of is_request number (put_in steps)) (read arrivals (events_in new_sending steps) are)
          (c.round_trip.ensures.requests number steps allowed none);
      replies = λ number steps arrivals allowed are none.
          of_read (events_at 0 arrivals) (events_in new_sending steps) (λ (events : List Event). messages_of is_reply number (messages_in (joined events).0) ≡ messages_of is_reply number (put_in steps)) (read arrivals (events_in new_sending steps) are)
          (c.round_trip.ensures.replies number steps allowed none);
    }
