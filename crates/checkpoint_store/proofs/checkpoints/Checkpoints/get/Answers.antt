use Rattle.std.proofs.Common.{◌≡◌, ◌∙◌, ℕ, List, subst}
use Rattle.std.specs.Prelude.{IfOk}
use Rattle.sg_history.specs.Board.{SideEntry}
use Rattle.checkpoint_store.specs.Checkpoints.{AreCheckpoints}
use Rattle.checkpoint_store.specs.Answers.{kept_at}
use Rattle.checkpoint_store.proofs.checkpoints.Checkpoints.get.Goals as goal

pub returns-in_err-key-clause-checkpoints : goal.returns-in_err-key-clause-checkpoints
returns-in_err-key-clause-checkpoints c = subst AreCheckpoints c.self.view_is c.self.invariant

pub returns : goal.returns
returns c = record {
  kept = subst (λ (t : List ℕ). IfOk c.read.result (λ kept. kept ≡ kept_at c.args.self.now t)) (c.as_str.ensures.value ∙ c.in_ok-key.ensures.text)
      (subst (λ (side : List SideEntry). IfOk c.read.result (λ kept. kept ≡ kept_at side c.as_str.result.now)) c.self.view_is c.read.ensures);
  checkpoints = subst AreCheckpoints c.self.view_is c.self.invariant;
}
