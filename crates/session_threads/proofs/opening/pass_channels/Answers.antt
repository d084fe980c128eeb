use Rattle.std.proofs.Common.{IsTrue, IsUtf8, List, ℕ, arith, subst}
use Rattle.std.specs.List.{All}
use Rattle.std.proofs.lemmas.List.{take_all}
use Rattle.std.proofs.lemmas.List.Elements.{All-more}
use Rattle.sg_names.specs.Grammar.{is_channel_name}
use Rattle.session_threads.proofs.opening.pass_channels.Goals as goal

pub loop-channel-preserved : goal.loop-channel-preserved
loop-channel-preserved c =
    let P : List ℕ → Type 0 = λ t. IsTrue (is_channel_name t) × IsUtf8 t in
    All-more P c.args.channels.now c.loop-channel.channel-index c.channel-item.result c.loop-channel-test.true c.loop-channel.invariant
    (subst P c.channel-item.is (c.as_str.ensures.grammar, subst (λ (t : List ℕ). IsUtf8 t) c.as_str.ensures.value c.as_str.utf8))

pub returns : goal.returns
returns c =
    let A : List (List ℕ) → Type 0 = λ xs. All (λ (t : List ℕ). IsTrue (is_channel_name t) × IsUtf8 t) xs in
    subst A (take_all c.loop-channel.channel-index c.args.channels.now (omega (arith, c.loop-channel-test.false))) c.loop-channel.invariant
