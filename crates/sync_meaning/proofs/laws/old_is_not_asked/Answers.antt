use Rattle.std.proofs.Common.{◌≡◌, ◌∙◌, ℕ, [], Option, None, sym, ap}
use Rattle.json_doc.specs.Tree.{Tree}
use Rattle.sync_syntax.specs.declared.tree.Program.{Program}
use Rattle.sync_values.specs.Values.{found_then, value_of}
use Rattle.sync_meaning.specs.declared.state.Context.{Context}
use Rattle.sync_meaning.specs.Meaning.{body, depth_for, gathered, meaning_within, no_effects, parameters, value_before, with_second}
use Rattle.sync_meaning.specs.Variables.{variables_with}
use Rattle.sync_meaning.proofs.laws.old_is_not_asked.Goals as goal

-- the parameters hold the same
same_parameters : (p : Program) (doc : Tree) (old : Option Tree) → p.second ≡ None → parameters p doc old ≡ parameters p doc None
unfolding parameters
same_parameters p doc old none =
    let first = variables_with p.first.name 0 (value_of doc) [] in
    ap (λ s. with_second s (value_before old) first) none ∙ sym (ap (λ s. with_second s (value_before None) first) none)

-- so with any count of visits the same is said
same_within : (visits : ℕ) (p : Program) (doc : Tree) (old : Option Tree) (context : Context) → p.second ≡ None
    → meaning_within visits p doc old context ≡ meaning_within visits p doc None context
unfolding meaning_within
same_within visits p doc old context none =
    ap (λ held. found_then (body (depth_for visits) p (record { context = context; visits = visits; variables = held; effects = no_effects })) gathered)
    (same_parameters p doc old none)

pub returns : goal.returns
returns c = same_within 100000
