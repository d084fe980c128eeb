use Rattle.std.proofs.Common.{◌≡◌, ◌∙◌, ℕ, List, length, refl, sym, ap, subst}
use Rattle.std.specs.Prelude.{string_bytes}
use Rattle.checkpoint_store.specs.declared.answers.SetAnswer.TheVariants.{Set}
use Rattle.checkpoint_store.specs.SideMaps.{side_number}
use Rattle.checkpoint_store.specs.Checkpoints.{AreCheckpoints}
use Rattle.checkpoint_store.specs.Answers.{answer_of}
use Rattle.checkpoint_store.specs.Stored.{side_of}
use Rattle.checkpoint_store.proofs.Setting.{refuses, runs_out, is_put, by_text, set_checkpoints}
use Rattle.checkpoint_store.proofs.kept.set.Goals as goal

pub returns-in_default : goal.returns-in_default
returns-in_default c =
    let side = side_of c.args.kept.now.entries in
    let key = string_bytes c.args.key in
    let is = by_text side c.as_str.result.now key c.args.rev c.args.body c.answer-answered.result c.as_str.ensures.value c.requires.small c.answer-answered.ensures in
    record {
      sets = refuses side key c.args.rev c.args.body c.answer-answered.result c.in_default.not-Set is;
      checkpoints = c.requires.checkpoints;
    }

pub returns-in-Ok : goal.returns-in-Ok
returns-in-Ok c =
    let side = side_of c.args.kept.now.entries in
    let after = side_of c.insert.new.kept.entries in
    let key = string_bytes c.args.key in
    let is = by_text side c.as_str.result.now key c.args.rev c.args.body c.answer-answered.result c.as_str.ensures.value c.requires.small c.answer-answered.ensures in
    let next : answer_of (side_number side key) (length side) c.args.rev ≡ Set c.in-Set.next = ap (λ (t : List ℕ). answer_of (side_number side t) (length side) c.args.rev) (sym c.as_str.ensures.value) ∙ sym c.answer-answered.ensures ∙ c.in-Set.is in
    record {
      sets = is_put side after key c.args.rev c.args.body c.in-Set.next (Set c.in-Set.next) refl (sym c.in-Set.is ∙ is) c.in-Ok.ensures.put;
      checkpoints = set_checkpoints side after key c.args.body c.args.rev c.in-Set.next c.requires.checkpoints c.requires.pair c.requires.small next c.in-Ok.ensures.put c.insert.ensures.rising c.in-Ok.ensures.count;
    }

pub returns-in-Err : goal.returns-in-Err
returns-in-Err c =
    let side = side_of c.args.kept.now.entries in
    let after = side_of c.insert.new.kept.entries in
    let same : after ≡ side = ap side_of c.in-Err.ensures.err in
    record {
      sets = runs_out side after (string_bytes c.args.key) c.args.rev c.args.body same;
      checkpoints = subst AreCheckpoints (sym same) c.requires.checkpoints;
    }
