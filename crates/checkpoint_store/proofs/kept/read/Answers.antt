use Rattle.std.proofs.Common.{◌∙◌, Bor, Option, sym, ap}
use Rattle.std.specs.Option.{option_copied, option_map}
use Rattle.checkpoint_store.specs.declared.answers.Kept0.TheVariants.{Found}
use Rattle.checkpoint_store.specs.declared.kept.Checkpoint.{Checkpoint}
use Rattle.checkpoint_store.specs.Answers.{kept_of}
use Rattle.checkpoint_store.specs.Stored.{value_of}
use Rattle.checkpoint_store.proofs.Stored.{at_kept}
use Rattle.checkpoint_store.proofs.kept.read.Goals as goal

pub returns-in_default : goal.returns-in_default
returns-in_default c =
    sym (ap kept_of (at_kept c.args.kept.now.entries c.args.key.now ∙ ap (option_map value_of) (sym c.get.ensures.value ∙ ap (λ (o : Option (Bor Checkpoint)). option_copied o) c.in_default.is)))

pub returns : goal.returns
returns c =
    ap (Found c.in-Some.found.now.rev) c.in_ok-copy.ensures
    ∙ sym (ap kept_of (at_kept c.args.kept.now.entries c.args.key.now ∙ ap (option_map value_of) (sym c.get.ensures.value ∙ ap (λ (o : Option (Bor Checkpoint)). option_copied o) c.in-Some.is)))
