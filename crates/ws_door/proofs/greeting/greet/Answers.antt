use Rattle.ws_door.proofs.Chains.{greets}
use Rattle.ws_door.proofs.greeting.greet.Goals as goal

pub returns-clause-recorded : goal.returns-clause-recorded
returns-clause-recorded g c =
    let answer = c.upgrade-answer.result in
    let is = c.upgrade-answer.ensures (λ e. let there = c.is_out_of_memory.ensures.1 e in cc) in
    rw c.greeted.ensures
    (greets c.args.head.now c.args.config.now (g.L.Link.recorded c.args.link.now) (g.L.Link.recorded c.write_answer-gave.new.link)
    answer c.write_answer-gave.result is c.write_answer-gave.ensures.recorded)
