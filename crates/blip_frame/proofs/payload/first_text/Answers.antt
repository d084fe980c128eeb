use Rattle.std.proofs.Common.{◌≡◌, ℕ, List, ◌+◌, ◌∷◌, take, drop, sym, ap, ◌∙◌, arith}
use Rattle.blip_frame.specs.Payload.{is_closed, closed_texts, text_len}
use Rattle.blip_frame.proofs.Blocks.{first_text_of}
use Rattle.blip_frame.proofs.payload.first_text.Goals as goal

pub split_at-requires : goal.split_at-requires
split_at-requires c =
    let f = first_text_of c.args.block.now c.requires.closed c.requires.some in
    omega (arith, f.within, c.text_len-len.ensures)

pub split_at-requires-2 : goal.split_at-requires-2
split_at-requires-2 c =
    let f = first_text_of c.args.block.now c.requires.closed c.requires.some in
    omega (arith, f.within, c.text_len-len.ensures)

pub returns : goal.returns
returns c =
    let block = c.args.block.now in
    let f = first_text_of block c.requires.closed c.requires.some in
    let len = c.text_len-len.ensures in
    let text : c.split_at.result.0.now ≡ take (text_len block) block = c.split_at.ensures.front ∙ ap (λ (n : ℕ). take n block) len in
    let rest : c.split_at-2.result.1.now ≡ drop (text_len block + 1) block = c.split_at-2.ensures.back ∙ ap (λ (n : ℕ). drop (n + 1) block) len in
    record {
      texts = f.texts ∙ ap (λ (t : List ℕ). t ∷ closed_texts (drop (text_len block + 1) block)) (sym text) ∙ ap (λ (r : List ℕ). c.split_at.result.0.now ∷ closed_texts r) (sym rest);
      rest = ap is_closed rest ∙ f.rest;
      shorter = omega (arith, f.within, len, c.split_at-2.ensures.back_len);
    }
