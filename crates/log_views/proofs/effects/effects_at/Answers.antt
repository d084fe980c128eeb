use Rattle.std.proofs.Common.{◌∙◌, refl, ap, List, reverse, Option}
use Rattle.std.specs.Prelude.{option_map}
use Rattle.sg_history.specs.declared.entries.Entry.{Entry}
use Rattle.log_index.specs.declared.marks.Marked.{Marked}
use Rattle.log_index.specs.Marks.{effects_by, marked_up_to}
use Rattle.log_views.specs.At.{write_at}
use Rattle.log_views.specs.States.{since_by}
use Rattle.log_views.proofs.MarksRead.{effects_read, since_read}
use Rattle.log_views.proofs.effects.effects_at.Goals as goal

pub returns-clause-effects : goal.returns-clause-effects
returns-clause-effects c = λ pos.
    c.effects_by.ensures.effects
    ∙ ap (λ (o : Option Marked). option_map (effects_by (reverse c.args.entries.now) o) (write_at c.args.entries.now c.args.write))
    (c.marked.ensures ∙ ap (λ (es : List Entry). marked_up_to es c.args.write c.args.up_to) c.requires.1)
    ∙ effects_read c.args.entries.now c.requires.0 c.args.write c.args.up_to c.marks.ensures.after c.marks.ensures.within pos c.requires.2 c.marks.ensures.effects
    (write_at c.args.entries.now c.args.write) refl

pub returns-clause-since : goal.returns-clause-since
returns-clause-since c = λ pos.
    c.effects_by.ensures.since
    ∙ ap (λ (o : Option Marked). option_map (λ w. since_by o c.args.write) (write_at c.args.entries.now c.args.write))
    (c.marked.ensures ∙ ap (λ (es : List Entry). marked_up_to es c.args.write c.args.up_to) c.requires.1)
    ∙ since_read c.args.entries.now c.requires.0 c.args.write c.args.up_to c.marks.ensures.after c.marks.ensures.within pos c.requires.2
    (write_at c.args.entries.now c.args.write) refl
