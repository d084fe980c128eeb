use Rattle.std.proofs.Common.{◌∙◌, ◌++◌, ◌∷◌, [], ap, sym, List, map, Option}
use Rattle.std.proofs.lemmas.List.{append-nil}
use Rattle.channel_cache.specs.inner.Moves.{Move, move_in, optional}
use Rattle.channel_cache.specs.declared.moved.Moved.{Moved}
use Rattle.channel_cache.proofs.Changing.{mapped_append}
use Rattle.channel_cache.proofs.moved.add_moved.Goals as goal

pub returns-in-None-clause-moved : goal.returns-in-None-clause-moved
returns-in-None-clause-moved c =
    sym (append-nil (map move_in c.args.moved.now.items))
    ∙ ap (λ (l : List Move). map move_in c.args.moved.now.items ++ l) (ap (λ (o : Option Moved). map move_in (optional o)) (sym c.in-None.is) ∙ c.moved_by.ensures.moved)

pub returns-in_ok-push-in-Some-clause-moved : goal.returns-in_ok-push-in-Some-clause-moved
returns-in_ok-push-in-Some-clause-moved c =
    ap (map move_in) c.in_ok-push-in-Some.ensures.items
    ∙ mapped_append move_in c.args.moved.now.items (c.in-Some.one ∷ [])
    ∙ ap (λ (l : List Move). map move_in c.args.moved.now.items ++ l) (ap (λ (o : Option Moved). map move_in (optional o)) (sym c.in-Some.is) ∙ c.moved_by.ensures.moved)
