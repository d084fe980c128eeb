use Rattle.std.proofs.Common.{◌≡◌, ◌∷◌, ◌∙◌, ℕ, List, Option, sym, ap, subst}
use Rattle.std.specs.Prelude.{None}
use Rattle.sg_history.specs.Board.{BoardState}
use Rattle.seq_gate.specs.Views.{PassView}
use Rattle.seq_gate.specs.declared.known.Known.{Known}
use Rattle.checkpoint_store.specs.Answers.{Sets}
use Rattle.checkpoint_store.specs.Checkpoints.{checkpoint_text}
use Rattle.write_path.specs.Checkpoints.{SetsCheckpoint}
use Rattle.write_path.specs.Reads.{Reads}
use Rattle.write_path.specs.Shared.{Shared, knows_of}
use Rattle.write_path.proofs.Checkpointing.{set_in_turn}
use Rattle.write_path.proofs.Sharing.{turn_reads}
use Rattle.write_path.proofs.shared.SharedGroundGround.set_checkpoint.Goals as goal

pub returns-clause-reads : goal.returns-clause-reads
returns-clause-reads g c =
    let q : Known = c.set_in_turn-pass.result.0.knows in
    let done = c.set_in_turn-pass.ensures.set in
    let known : c.args.self.now.knows ≡ c.unwrap-pass.result.knows = sym (ap (λ (v : Shared). v.knows) c.self.view_is) ∙ ap (λ (o : Option PassView). knows_of o) (sym c.take.ensures.value ∙ c.unwrap-pass.ensures) in
    subst (λ (k : Known). Reads k.read q.read k.lowest_front q.lowest_front) (sym known) (turn_reads c.boards.ensures.again c.unwrap-pass.result.knows q done.found done.left done.turn)

pub returns-clause-sets : goal.returns-clause-sets
returns-clause-sets g c =
    let q : Known = c.set_in_turn-pass.result.0.knows in
    let text : List ℕ = checkpoint_text c.args.user.now c.args.client.now in
    let known : c.args.self.now.knows ≡ c.unwrap-pass.result.knows = sym (ap (λ (v : Shared). v.knows) c.self.view_is) ∙ ap (λ (o : Option PassView). knows_of o) (sym c.take.ensures.value ∙ c.unwrap-pass.ensures) in
    subst (λ (k : Known). SetsCheckpoint k.read q.read None None text c.args.rev c.args.body c.set_in_turn-pass.result.1) (sym known)
    (set_in_turn c.unwrap-pass.result.knows q text c.args.rev c.args.body c.set_in_turn-pass.result.1 c.set_in_turn-pass.ensures.set)

pub returns-clause-turn : goal.returns-clause-turn
returns-clause-turn g c =
    let q : Known = c.set_in_turn-pass.result.0.knows in
    let text : List ℕ = checkpoint_text c.args.user.now c.args.client.now in
    let done = c.set_in_turn-pass.ensures.set in
    let known : c.args.self.now.knows ≡ c.unwrap-pass.result.knows = sym (ap (λ (v : Shared). v.knows) c.self.view_is) ∙ ap (λ (o : Option PassView). knows_of o) (sym c.take.ensures.value ∙ c.unwrap-pass.ensures) in
    subst
    (λ (k : Known). (found : BoardState) × (left : BoardState) × (q.read ≡ left ∷ found ∷ k.read) × Sets found.side text c.args.rev c.args.body c.set_in_turn-pass.result.1 left.side) (sym known)
    (done.found, done.left, done.turn.read, done.sets)
