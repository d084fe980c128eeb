use Rattle.std.proofs.Common.{◌≡◌, ◌∙◌, ap, refl, sym, Bool, true, false, ◌||◌, Option}
use Rattle.std.specs.Option.{option_copied_mut}
use Rattle.channel_cache.specs.inner.Counting.{counts_at}
use Rattle.channel_cache.specs.Sequences.{holds_in}
use Rattle.channel_cache.specs.Stands.{has}
use Rattle.channel_cache.specs.declared.sequences.Sequences.{Sequences}
use Rattle.channel_cache.proofs.Changing.{keys_set, named, on_ok}
use Rattle.channel_cache.proofs.Names.{counted_none, counted_one, holds_set, same_names}
use Rattle.channel_cache.proofs.asking.add_counted.Goals as goal

or_none : (b : Bool) → b ≡ (b || false)
or_none true = refl
or_none false = refl

pub returns-in-None-clause-lists : goal.returns-in-None-clause-lists
returns-in-None-clause-lists c = counted_none (counts_at c.args.index.now c.args.to) c.args.lists.now.entries c.args.channel.now (sym c.peek_mut.ensures.value ∙ ap option_copied_mut c.in-None.is)

pub returns-in-None-clause-found : goal.returns-in-None-clause-found
returns-in-None-clause-found c = λ s.
    or_none (has c.args.found.now.items s)
    ∙ ap (λ (o : Option Sequences). has c.args.found.now.items s || holds_in o s) (sym (sym c.peek_mut.ensures.value ∙ ap option_copied_mut c.in-None.is))

pub returns-in-Some-clause-keys : goal.returns-in-Some-clause-keys
returns-in-Some-clause-keys c = same_names c.args.lists.now.entries _ (keys_set (named c.args.channel.now) c.tidy_into.new.self c.args.lists.now.entries)

pub returns-in-Some-clause-lists : goal.returns-in-Some-clause-lists
returns-in-Some-clause-lists c =
    on_ok c.tidy_into.result _ _ (λ made. counted_one (counts_at c.args.index.now c.args.to) c.args.lists.now.entries c.args.channel.now c.in-Some.list.now c.tidy_into.new.self
    (sym c.peek_mut.ensures.value ∙ ap option_copied_mut c.in-Some.is) made) c.tidy_into.ensures.same

pub returns-in-Some-clause-found : goal.returns-in-Some-clause-found
returns-in-Some-clause-found c =
    on_ok c.tidy_into.result _ _ (λ found s. found s
    ∙ ap (λ (b : Bool). has c.args.found.now.items s || b) (sym (holds_set c.args.lists.now.entries c.args.channel.now c.in-Some.list.now c.tidy_into.new.self (sym c.peek_mut.ensures.value ∙ ap option_copied_mut c.in-Some.is) s)))
    c.tidy_into.ensures.found
