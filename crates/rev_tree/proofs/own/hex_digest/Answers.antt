use Rattle.std.proofs.Common.{arith}
use Rattle.rev_tree.proofs.HexDigests.{hex_is_digest}
use Rattle.rev_tree.proofs.own.hex_digest.Goals as goal

pub unreachable-requires : goal.unreachable-requires
unreachable-requires c =
    let digest = hex_is_digest c.args.bytes.now (λ k. omega (arith, c.type_inv.bytes k)) c.requires in
    c.in-Err-Bad.ensures.bad (cc c.in-Err-Bad.field-0-is) (rw (c.as_str.ensures.value, c.in_ok-text.ensures) digest)
