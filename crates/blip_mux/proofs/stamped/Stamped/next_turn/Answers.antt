use Rattle.std.proofs.lemmas.Option.{IfSome_then}
use Rattle.blip_mux.proofs.Keeping.{none_then, none_next, next_is}
use Rattle.blip_mux.proofs.stamped.Stamped.next_turn.Goals as goal

pub returns-clause-none : goal.returns-clause-none
returns-clause-none c = none_then c.first.result c.first.ensures.none (λ none. none_next c.args.self.now.messages.entries c.args.self.now.ready c.requires.sorted c.requires.ready none)

pub returns-clause-some : goal.returns-clause-some
returns-clause-some c = IfSome_then c.first.result c.first.ensures.some (λ turn is.
    let next = next_is c.args.self.now.messages.entries c.args.self.now.ready c.requires.sorted c.requires.ready turn is in
    record { message = next.message; there = next.there; mark = next.mark; lowest = is.0; may = next.may; first = next.first })
