use Rattle.std.proofs.Common.{◌≡◌, ◌∙◌, Option, sym, ap, subst}
use Rattle.std.specs.Prelude.{None, IfOk}
use Rattle.sg_history.specs.Board.{BoardState}
use Rattle.seq_gate.specs.Views.{PassView}
use Rattle.seq_gate.specs.declared.known.Known.{Known}
use Rattle.checkpoint_store.specs.declared.answers.Kept0.{Kept0}
use Rattle.checkpoint_store.specs.Answers.{kept_at}
use Rattle.checkpoint_store.specs.Checkpoints.{checkpoint_text}
use Rattle.write_path.specs.Checkpoints.{HasCheckpoints}
use Rattle.write_path.specs.Reads.{Reads, WasRead}
use Rattle.write_path.specs.Shared.{Shared, knows_of}
use Rattle.write_path.proofs.Sharing.{look_answers, turn_reads}
use Rattle.write_path.proofs.shared.SharedGroundGround.get_checkpoint.Goals as goal

pub returns-clause-reads : goal.returns-clause-reads
returns-clause-reads g c =
    let q : Known = c.checkpoint_in_turn-pass.result.0.knows in
    let looked = c.checkpoint_in_turn-pass.ensures.looked in
    let known : c.args.self.now.knows ≡ c.unwrap-pass.result.knows = sym (ap (λ (v : Shared). v.knows) c.self.view_is) ∙ ap (λ (o : Option PassView). knows_of o) (sym c.take.ensures.value ∙ c.unwrap-pass.ensures) in
    subst (λ (k : Known). Reads k.read q.read k.lowest_front q.lowest_front) (sym known) (turn_reads c.boards.ensures.again c.unwrap-pass.result.knows q looked.0 looked.0 looked.1.turn)

pub returns-clause-answer : goal.returns-clause-answer
returns-clause-answer g c =
    let q : Known = c.checkpoint_in_turn-pass.result.0.knows in
    let looked = c.checkpoint_in_turn-pass.ensures.looked in
    let known : c.args.self.now.knows ≡ c.unwrap-pass.result.knows = sym (ap (λ (v : Shared). v.knows) c.self.view_is) ∙ ap (λ (o : Option PassView). knows_of o) (sym c.take.ensures.value ∙ c.unwrap-pass.ensures) in
    subst
    (λ (k : Known). IfOk c.checkpoint_in_turn-pass.result.1
    (λ x. (b : BoardState) × WasRead k.read q.read b × HasCheckpoints None b × (x ≡ kept_at b.side (checkpoint_text c.args.user.now c.args.client.now)))) (sym known)
    (look_answers (λ (b : BoardState) (x : Kept0). x ≡ kept_at b.side (checkpoint_text c.args.user.now c.args.client.now)) c.unwrap-pass.result.knows q looked.0 c.checkpoint_in_turn-pass.result.1 looked.1 looked.2)
