use Rattle.std.proofs.Common.{ap, ◌∙◌, arith}
use Rattle.std.specs.Map.{values_of}
use Rattle.blip_mux.specs.inner.Entries.{Entries}
use Rattle.blip_mux.proofs.Kept.{put_next, same_kept, turns_within}
use Rattle.blip_mux.proofs.Listed.{values_last}
use Rattle.blip_mux.proofs.stamped.Stamped.put_last.Goals as goal

pub put_if-requires : goal.put_if-requires
put_if-requires c =
    let counted = c.requires.keeps.counted c.is_urgent.result in
    let within = turns_within c.is_urgent.result c.args.self.now.messages.entries in
    let room = c.requires.room.turns c.is_urgent.result in
    omega arith

pub returns-in_err-insert_last-clause-keeps : goal.returns-in_err-insert_last-clause-keeps
returns-in_err-insert_last-clause-keeps c =
    same_kept c.args.self.now.messages.entries _ c.args.self.now.next _ _ c.args.self.now.ready c.requires.keeps c.in_err-insert_last.ensures.err.0 c.in_err-insert_last.ensures.err.1

pub returns-clause-keeps : goal.returns-clause-keeps
returns-clause-keeps c =
    put_next c.args.self.now.messages.entries c.insert_last.new.messages.entries c.args.self.now.next c.args.message c.is_urgent.result c.may_send-may_send.result _ _ c.args.self.now.ready c.put_if.new.self
    c.is_urgent.ensures c.may_send-may_send.ensures c.requires.keeps c.in_ok-insert_last.ensures.own c.requires.alone c.requires.room.turns
    c.in_ok-insert_last.ensures.messages c.in_ok-insert_last.ensures.ordered c.in_ok-insert_last.ensures.index c.put_if.ensures.times c.put_if.ensures.count c.put_if.ensures.room

pub returns-clause-ok : goal.returns-clause-ok
returns-clause-ok c = ap (λ (xs : Entries). values_of xs) c.in_ok-insert_last.ensures.messages ∙ values_last c.args.self.now.messages.entries c.args.self.now.next c.args.message
