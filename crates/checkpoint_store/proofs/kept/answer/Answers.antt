use Rattle.std.proofs.Common.{◌∙◌, ℕ, Option, None, length, sym, ap}
use Rattle.std.specs.Option.{option_map}
use Rattle.checkpoint_store.specs.declared.kept.Checkpoint.{Checkpoint}
use Rattle.checkpoint_store.specs.Answers.{answer_of}
use Rattle.checkpoint_store.specs.Stored.{side_of}
use Rattle.checkpoint_store.proofs.Stored.{number_kept, kept_length}
use Rattle.checkpoint_store.proofs.kept.answer.Goals as goal

pub returns-in-Some : goal.returns-in-Some
returns-in-Some c =
    c.answer_kept.ensures (length (side_of c.args.kept.now.entries))
    ∙ ap (λ (n : Option ℕ). answer_of n (length (side_of c.args.kept.now.entries)) c.args.rev)
    (sym (number_kept c.args.kept.now.entries c.args.key.now ∙ ap (option_map (λ (k : Checkpoint). k.rev)) (sym c.in-Some.ensures.value)))

pub returns-in-None : goal.returns-in-None
returns-in-None c =
    c.answer_new.ensures
    ∙ ap (λ (n : ℕ). answer_of None n c.args.rev) (c.len.ensures.len ∙ sym (kept_length c.args.kept.now.entries))
    ∙ ap (λ (n : Option ℕ). answer_of n (length (side_of c.args.kept.now.entries)) c.args.rev)
    (sym (number_kept c.args.kept.now.entries c.args.key.now ∙ ap (option_map (λ (k : Checkpoint). k.rev)) (sym c.in-None.ensures.value)))
