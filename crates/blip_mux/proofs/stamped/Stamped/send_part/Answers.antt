use Rattle.std.proofs.Common.{refl, ap, ◌∙◌}
use Rattle.std.specs.Map.{values_of}
use Rattle.blip_mux.specs.Sending.{without_piece}
use Rattle.blip_mux.specs.inner.Entries.{Entries, without}
use Rattle.blip_mux.proofs.Kept.{same_kept}
use Rattle.blip_mux.proofs.Listed.{values_last}
use Rattle.blip_mux.proofs.stamped.Stamped.send_part.Goals as goal

pub returns-in_err-write_and_move-clause-keeps : goal.returns-in_err-write_and_move-clause-keeps
returns-in_err-write_and_move-clause-keeps c =
    same_kept c.args.self.now.messages.entries _ c.args.self.now.next _ _ c.args.self.now.ready c.requires.keeps c.in_err-write_and_move.ensures.err.0 (λ d n. refl)

pub renew-requires-clause-moved : goal.renew-requires-clause-moved
renew-requires-clause-moved c = record {
  before = c.args.self.now.messages.entries;
  message = c.requires.next.message;
  kept = c.requires.keeps;
  there = c.requires.next.there;
  mark = c.requires.next.mark;
  lowest = c.requires.next.lowest;
  may = c.requires.next.may;
  moved = rw c.requires.next.there at c.in_ok-write_and_move.ensures.moved;
  ordered = c.write_and_move.ensures.ordered;
}

pub returns-clause-keeps : goal.returns-clause-keeps
returns-clause-keeps c = c.renew.ensures.keeps

pub returns-clause-after : goal.returns-clause-after
returns-clause-after c =
    let moved = rw c.requires.next.there at c.in_ok-write_and_move.ensures.moved in
    rw c.requires.next.there (ap (λ (xs : Entries). values_of xs) (c.renew.ensures.messages ∙ moved) ∙ values_last (without c.args.turn.stamp c.args.self.now.messages.entries) c.args.self.now.next (without_piece c.requires.next.message))

pub returns-clause-wrote : goal.returns-clause-wrote
returns-clause-wrote c = c.in_ok-write_and_move.ensures.wrote
