use denote.Param.Send.{sendable}
use Rattle.std.proofs.Common.{ap, refl, subst, sym}
use Rattle.seq_gate.specs.Passes.{share}
use Rattle.seq_gate.specs.declared.known.Known.{Known}
use Rattle.write_path.specs.Shared.{Rests}
use Rattle.write_path.proofs.Crossing.{shelf_send}
use Rattle.session_threads.proofs.Playing.{none_held, none_roomed, whole_again}
use Rattle.session_threads.proofs.run.behind_a_gate.Goals as goal

pub close-requires-send-B : goal.close-requires-send-B
close-requires-send-B g c κs = search (shelf_send, sendable) depth 20

pub close-requires-clause-whole : goal.close-requires-clause-whole
close-requires-clause-whole g c = λ κs. whole_again _ _ _ _ _ _ _ _ _ c.in-Ok.ensures (ap (λ (k : Known). share k) c.requires.opened.1)

pub close-requires-clause-held : goal.close-requires-clause-held
close-requires-clause-held g c = λ κs. none_held _ _ _ _ _ _ _ _ _ c.in-Ok.ensures (subst (λ (k : Known). Rests k) (sym c.requires.opened.1) (record { held = refl; rooms = refl }))

pub close-requires-clause-rooms : goal.close-requires-clause-rooms
close-requires-clause-rooms g c = λ κs. none_roomed _ _ _ _ _ _ _ _ _ c.in-Ok.ensures (subst (λ (k : Known). Rests k) (sym c.requires.opened.1) (record { held = refl; rooms = refl }))

pub returns : goal.returns
returns g c = rw (c.from_vec.ensures, c.from_vec-2.ensures) (record { gate = c.args.gate; pass = c.in-Ok.given.0; threaded = c.in-Ok.ensures; closes = c.close.ensures })
