use Rattle.std.proofs.Common.{List, ap, ◌∙◌, ◌++◌}
use Rattle.blip_frame.specs.Props.{pairs_of}
use Rattle.blip_frame.specs.Payload.{closed_texts, paired}
use Rattle.blip_frame.specs.declared.props.Prop.{Prop}
use Rattle.blip_frame.proofs.Blocks.{still_even, still_texts, more_pairs}
use Rattle.blip_frame.proofs.payload.pairs.Goals as goal

pub loop-rest-preserved : goal.loop-rest-preserved
loop-rest-preserved c =
    let rest = c.loop-rest.rest.now in
    let after_key = c.first_text.result.1.now in
    let after = c.first_text-in-loop-rest.result.1.now in
    let first = c.first_text.ensures.texts in
    let second = c.first_text-in-loop-rest.ensures.texts in
    record {
      closed = c.first_text-in-loop-rest.ensures.rest;
      even = still_even (closed_texts rest) (closed_texts after_key) (closed_texts after) _ _ first second c.loop-rest.invariant.even;
      texts = still_texts (closed_texts rest) (closed_texts after_key) (closed_texts after) _ _ first second c.loop-rest.invariant.texts;
      so_far = ap (λ (ps : List Prop). pairs_of ps ++ paired (closed_texts after)) c.in_ok-push.ensures.items
          ∙ more_pairs (closed_texts rest) (closed_texts after_key) (closed_texts after) _ _ first second c.loop-rest.props.items _ _ c.in_ok-text_of.ensures c.in_ok-text_of-2.ensures c.loop-rest.invariant.so_far;
    }
