use Rattle.std.proofs.Common.{ℕ, List, subst, refl}
use Rattle.std.specs.Prelude.{string_bytes}
use Rattle.sg_history.specs.Board.{SideEntry}
use Rattle.checkpoint_store.specs.Checkpoints.{checkpoint_text, AreCheckpoints}
use Rattle.checkpoint_store.specs.Answers.{Sets}
use Rattle.checkpoint_store.specs.Stored.{side_of}
use Rattle.checkpoint_store.proofs.Setting.{runs_out}
use Rattle.checkpoint_store.proofs.checkpoints.Checkpoints.set.Goals as goal

pub returns-then-bytes-gt-MOST_BYTES-clause-checkpoints : goal.returns-then-bytes-gt-MOST_BYTES-clause-checkpoints
returns-then-bytes-gt-MOST_BYTES-clause-checkpoints c = subst AreCheckpoints c.self.view_is c.self.invariant

pub returns-in-Ok : goal.returns-in-Ok
returns-in-Ok c = record {
  sets = subst (λ (t : List ℕ). Sets c.args.self.now t c.args.rev c.args.body c.set.result (side_of c.set.new.kept.entries)) c.in-Ok.ensures.text
      (subst (λ (side : List SideEntry). Sets side (string_bytes c.in-Ok.key) c.args.rev c.args.body c.set.result (side_of c.set.new.kept.entries)) c.self.view_is c.set.ensures.sets);
  checkpoints = c.set.ensures.checkpoints;
}

pub returns-in-Err : goal.returns-in-Err
returns-in-Err c = record {
  sets = runs_out c.args.self.now c.args.self.now (checkpoint_text c.args.user.now c.args.client.now) c.args.rev c.args.body refl;
  checkpoints = subst AreCheckpoints c.self.view_is c.self.invariant;
}
