use Rattle.std.proofs.Common.{◌≡◌, ◌∙◌, ◌++◌, ℕ, List, ap}
use Rattle.std.specs.Prelude.{string_bytes}
use Rattle.checkpoint_store.specs.Checkpoints.{checkpoint_text}
use Rattle.checkpoint_store.proofs.checkpoints.key_of.Goals as goal

pub returns : goal.returns
returns c =
    let is : string_bytes c.push_pair.new.text ≡ checkpoint_text c.args.user.now c.args.client.now =
    c.in_ok-push_pair.ensures
    ∙ ap (λ (l : List ℕ). l ++ checkpoint_text c.as_str-user.result.now c.as_str-client.result.now) c.in_ok-key.ensures.bytes
    ∙ (λ i. checkpoint_text (c.as_str-user.ensures.value i) (c.as_str-client.ensures.value i))
    in
    record {
      text = is;
      pair = record {
        user = c.args.user.now;
        client = c.args.client.now;
        named = c.as_str-user.ensures.grammar;
        known = c.as_str-client.ensures.grammar;
        joined = is;
      };
    }
