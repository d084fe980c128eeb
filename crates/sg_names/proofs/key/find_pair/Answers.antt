use Rattle.std.proofs.Common.{◌<◌, ◌^◌, arith, sym}
use Rattle.sg_names.proofs.KeyTexts.{only_pair, only_low, pair_by, pair_seq}
use Rattle.sg_names.proofs.key.find_pair.Goals as goal

pub returns-in-Some-2-clause-bad_key : goal.returns-in-Some-2-clause-bad_key
returns-in-Some-2-clause-bad_key c = λ fault.
    only_low c.args.front.now c.args.back.now c.in-Some.by.now c.in-Some.seq.now c.requires c.in-Some.ensures.some.0 c.in-Some.ensures.some.1 (sym c.if-are_low_parts.ensures)

pub returns-in_default-clause-bad_key : goal.returns-in_default-clause-bad_key
returns-in_default-clause-bad_key c = λ fault.
    only_pair c.args.front.now c.args.back.now c.requires c.in-None.ensures.none (λ k pair.
    let by_high : c.in-Some-Some.by < 2 ^ 64 = omega arith in
    let seq_high : c.in-Some-Some.seq < 2 ^ 64 = omega arith in
    let by = pair_by c.args.front.now c.args.back.now c.in-Some-Some.by k by_high c.in-Some-Some.ensures.some pair in
    let seq = pair_seq c.args.front.now c.args.back.now c.in-Some-Some.seq k seq_high c.in-Some-Some.ensures'.some pair in
    omega (arith, by, seq, pair.parts.above))

pub returns-in_default-2-clause-bad_key : goal.returns-in_default-2-clause-bad_key
returns-in_default-2-clause-bad_key c = λ fault.
    only_pair c.args.front.now c.args.back.now c.requires c.in-None.ensures.none (λ k pair.
    let seq_high : c.in-Some-Some.seq < 2 ^ 64 = omega arith in
    let seq = pair_seq c.args.front.now c.args.back.now c.in-Some-Some.seq k seq_high c.in-Some-Some.ensures'.some pair in
    omega (arith, seq, pair.positive))

pub returns-in_default-3-clause-bad_key : goal.returns-in_default-3-clause-bad_key
returns-in_default-3-clause-bad_key c = λ fault.
    only_pair c.args.front.now c.args.back.now c.requires c.in-None.ensures.none (λ k pair.
    c.in_default.ensures'.none k.seq pair.parts.seq_high pair.back_is)

pub returns-in_default-4-clause-bad_key : goal.returns-in_default-4-clause-bad_key
returns-in_default-4-clause-bad_key c = λ fault.
    only_pair c.args.front.now c.args.back.now c.requires c.in-None.ensures.none (λ k pair.
    let none = rw c.in_default.is-0 at c.read_decimal.ensures.none in
    none k.by pair.parts.high pair.front_is)
