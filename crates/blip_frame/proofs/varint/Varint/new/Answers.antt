use Rattle.std.proofs.Common.{◌<◌, ◌+◌, ◌%◌, take, length, arith, rules, sym, ap, ◌∙◌, List, ℕ, ◌++◌}
use Rattle.std.proofs.lemmas.List.{take_more_set}
use Rattle.std.proofs.Math.ListN.{length-set}
use Rattle.blip_frame.proofs.Varints.{writes_more, writes_last, writes_all}
use Rattle.blip_frame.proofs.varint.Varint.new.Goals as goal

pub loop-rest-init : goal.loop-rest-init
loop-rest-init c = record { room = search rules; so_far = (9, omega arith, omega arith, sym (writes_all c.args.n)) }

pub loop-rest-preserved : goal.loop-rest-preserved
loop-rest-preserved c =
    let len = c.loop-rest.len in
    let so_far = c.loop-rest.invariant.so_far in
    let room : len < length c.loop-rest.bytes = omega (arith, so_far.1, c.loop-rest.invariant.room) in
    let added = take_more_set c.loop-rest.bytes len (c.loop-rest.rest % 128 + 128) room in
    let more = writes_more so_far.0 c.loop-rest.rest _ _ _ c.loop-rest-test.true so_far.2 added so_far.3 in
    record { room = length-set c.loop-rest.bytes len (c.loop-rest.rest % 128 + 128) ∙ c.loop-rest.invariant.room; so_far = (more.0, omega (arith, more.1, so_far.1), more.2, more.3) }

pub returns : goal.returns
returns c =
    let len = c.loop-rest.len in
    let so_far = c.loop-rest.invariant.so_far in
    let room : len < length c.loop-rest.bytes = omega (arith, so_far.1, c.loop-rest.invariant.room) in
    take_more_set c.loop-rest.bytes len c.loop-rest.rest room
    ∙ ap (λ (x : List ℕ). take len c.loop-rest.bytes ++ x) (sym (writes_last so_far.0 c.loop-rest.rest c.loop-rest-test.false))
    ∙ so_far.3
