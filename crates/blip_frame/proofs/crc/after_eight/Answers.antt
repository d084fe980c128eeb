use Rattle.std.proofs.Common.{ℕ, ◌≡◌, ◌<◌, length, get_or, ap, ◌∙◌, arith}
use Rattle.std.specs.Int.Bits.{bit_xor}
use Rattle.blip_frame.proofs.Register.{eight_in}
use Rattle.blip_frame.proofs.crc.after_eight.Goals as goal

pub returns : goal.returns
returns c =
    let len : length c.args.bytes.now ≡ 8 = omega (arith, c.told-bytes) in
    let small : ((i : ℕ) → get_or c.args.bytes.now i 0 < 256) = λ i. omega (arith, c.fits-bytes i) in
    rw (c.entry.ensures, c.entry-2.ensures, c.entry-3.ensures, c.entry-4.ensures, c.entry-5.ensures, c.entry-6.ensures, c.entry-7.ensures, c.entry-8.ensures, c.to_le_bytes.ensures)
    (eight_in c.args.register c.args.bytes.now _ (omega arith) len small (ap (λ (n : ℕ). bit_xor n c.from_le_bytes.result) c.from.ensures ∙ ap (bit_xor c.args.register) c.from_le_bytes.ensures))
