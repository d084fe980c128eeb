use Rattle.std.proofs.Common.{IsUtf8, List, ℕ, arith, subst}
use Rattle.std.specs.List.{All}
use Rattle.std.proofs.lemmas.List.{take_all}
use Rattle.std.proofs.lemmas.List.Elements.{All-more}
use Rattle.board_steps.proofs.texts.pass_channels.Goals as goal

pub loop-channel-preserved : goal.loop-channel-preserved
loop-channel-preserved c =
    All-more (λ (t : List ℕ). IsUtf8 t) c.args.channels.now c.loop-channel.channel-index c.channel-item.result c.loop-channel-test.true c.loop-channel.invariant
    (subst (λ (t : List ℕ). IsUtf8 t) c.channel-item.is (subst (λ (t : List ℕ). IsUtf8 t) c.as_str.ensures.value c.as_str.utf8))

pub returns : goal.returns
returns c =
    subst (λ (xs : List (List ℕ)). All (λ (t : List ℕ). IsUtf8 t) xs) (take_all c.loop-channel.channel-index c.args.channels.now (omega (arith, c.loop-channel-test.false))) c.loop-channel.invariant
