use Rattle.std.proofs.Common.{◌<◌, [], refl, sym, ◌∙◌, subst, le_refl, le_trans}
use Rattle.sg_outside.specs.Sink.{Counts}
use Rattle.sg_outside.specs.Wire.{SendsIfRecorded}
use Rattle.blip_mux.specs.Sending.{Sending, picked, Sends, SendsAfter}
use Rattle.blip_mux.specs.declared.outbox.Next.TheVariants as nexts
use Rattle.session_mux.specs.Muxed.{all_left_of}
use Rattle.session_mux.proofs.Sending.{Going, going_none, going_on, goes_down, some_picked, gone, other_left, frame_sends, frame_sends_after, counts_on}
use Rattle.session_mux.proofs.Recording.{records_sent, records_other}
use Rattle.session_mux.proofs.mux.Mux.send_all.Goals as goal

pub loop-wire-init : goal.loop-wire-init
loop-wire-init g c = record {
  going = going_none c.args.self.now.outbox c.args.self.now.sent.value (g.W.Wire.recorded c.args.wire.now);
  faults = le_refl (g.W.Wire.faults c.args.wire.now);
  inbox = refl;
  received = refl;
}

pub returns-in_default : goal.returns-in_default
returns-in_default g c = record {
  sent = gone c.args.self.now.outbox c.args.self.now.sent.value (g.W.Wire.recorded c.args.wire.now)
      c.loop-wire.self.outbox c.loop-wire.self.sent.value (g.W.Wire.recorded c.loop-wire.wire) (g.W.Wire.recorded c.send.new.self) c.send.result c.write_next.new.self.outbox c.write_next.new.self.sent.value
      (records_other (g.W.Wire.recorded c.loop-wire.wire) (g.W.Wire.recorded c.send.new.self) c.as_slice.result.now c.send.result c.in_default.not-Done c.send.ensures.recorded)
      (other_left c.send.result c.loop-wire.self.outbox c.loop-wire.self.sent.value c.write_next.new.self.outbox c.write_next.new.self.sent.value c.in_default.not-Done)
      c.loop-wire.invariant.going;
  counted = counts_on (g.W.Wire.faults c.args.wire.now) (g.W.Wire.faults c.loop-wire.wire) (g.W.Wire.faults c.send.new.self) c.send.result c.loop-wire.invariant.faults c.send.ensures.counted;
  inbox = c.write_next.ensures.inbox ∙ c.loop-wire.invariant.inbox;
  received = c.write_next.ensures.received ∙ c.loop-wire.invariant.received;
}

pub loop-wire-smaller : goal.loop-wire-smaller
loop-wire-smaller g c =
    subst (λ (s : Sending). all_left_of s < all_left_of c.loop-wire.self.outbox) (sym c.in-Ok-Frame.ensures.after)
    (goes_down c.loop-wire.self.outbox (some_picked c.loop-wire.self.outbox c.loop-wire.self.sent.value c.write_next.new.self.sent.value c.write_next.new.self.frame
    (frame_sends (picked c.loop-wire.self.outbox) c.in-Ok-Frame.field-0 c.loop-wire.self.sent.value c.write_next.new.self.sent.value [] c.write_next.new.self.frame c.in-Ok-Frame.field-0-is refl c.in-Ok-Frame.ensures.frame)))

pub loop-wire-preserved : goal.loop-wire-preserved
loop-wire-preserved g c = record {
  going = subst (λ (s : Sending). Going c.args.self.now.outbox c.args.self.now.sent.value (g.W.Wire.recorded c.args.wire.now) s c.write_next.new.self.sent.value (g.W.Wire.recorded c.send.new.self)) (sym c.in-Ok-Frame.ensures.after)
      (going_on c.args.self.now.outbox c.args.self.now.sent.value (g.W.Wire.recorded c.args.wire.now)
      c.loop-wire.self.outbox c.loop-wire.self.sent.value (g.W.Wire.recorded c.loop-wire.wire) c.write_next.new.self.sent.value c.as_slice.result.now (g.W.Wire.recorded c.send.new.self)
      (subst (λ b. Sends (picked c.loop-wire.self.outbox) nexts.Frame c.loop-wire.self.sent.value c.write_next.new.self.sent.value [] b) (sym c.as_slice.ensures)
      (frame_sends (picked c.loop-wire.self.outbox) c.in-Ok-Frame.field-0 c.loop-wire.self.sent.value c.write_next.new.self.sent.value [] c.write_next.new.self.frame c.in-Ok-Frame.field-0-is refl c.in-Ok-Frame.ensures.frame))
      (λ sent e. subst (λ b. SendsAfter sent (picked c.loop-wire.self.outbox) nexts.Frame c.write_next.new.self.sent.value [] b) (sym c.as_slice.ensures)
      (frame_sends_after (picked c.loop-wire.self.outbox) c.in-Ok-Frame.field-0 c.write_next.new.self.sent.value [] c.write_next.new.self.frame sent c.in-Ok-Frame.field-0-is refl (c.in-Ok-Frame.ensures.sent sent e)))
      (records_sent (g.W.Wire.recorded c.loop-wire.wire) (g.W.Wire.recorded c.send.new.self) c.as_slice.result.now
      (subst (λ r. SendsIfRecorded (g.W.Wire.recorded c.loop-wire.wire) c.as_slice.result.now r (g.W.Wire.recorded c.send.new.self)) c.in-Done.is c.send.ensures.recorded))
      c.loop-wire.invariant.going);
  faults = le_trans c.loop-wire.invariant.faults (subst (λ r. Counts (g.W.Wire.faults c.loop-wire.wire) r (g.W.Wire.faults c.send.new.self)) c.in-Done.is c.send.ensures.counted);
  inbox = c.write_next.ensures.inbox ∙ c.loop-wire.invariant.inbox;
  received = c.write_next.ensures.received ∙ c.loop-wire.invariant.received;
}
