-- What a program says of a document: the effects, or the rule that denies.
use Rattle.std.specs.Prelude.{ℕ, ◌+◌, ◌*◌, List, [], Option, Some, None, Ok}
use Rattle.json_doc.specs.Tree.{Tree}
use Rattle.sync_syntax.specs.declared.tree.Named.{Named}
use Rattle.sync_syntax.specs.declared.tree.Program.{Program}
use Rattle.sync_values.specs.declared.value.Value.{Value}
use Rattle.sync_values.specs.declared.value.Value.TheVariants as v
use Rattle.sync_values.specs.Found.{Found}
use Rattle.sync_values.specs.Values.{value_of, found_then}
use Rattle.sync_meaning.specs.declared.completion.Completion.{Completion}
use Rattle.sync_meaning.specs.declared.state.Context.{Context}
use Rattle.sync_meaning.specs.declared.effects.Effects.{Effects}
use Rattle.sync_meaning.specs.declared.state.State.{State}
use Rattle.sync_meaning.specs.declared.variables.Variable.{Variable}
use Rattle.sync_meaning.specs.Acts.{Act}
use Rattle.sync_meaning.specs.Variables.{top, variables_with}
use Rattle.sync_meaning.specs.Statements.{run, block}

-- a new document has null before it
abbrev pub value_before : Option Tree → Value
value_before None = v.Null
value_before (Some t) = value_of t

-- the second parameter, where there is one; of two of one name the second counts
abbrev pub with_second : Option Named → Value → List Variable → List Variable
with_second None x xs = xs
with_second (Some n) x xs = variables_with n.name 0 x xs

-- the parameters
unfoldable pub parameters : Program → Tree → Option Tree → List Variable
parameters p doc old = with_second p.second (value_before old) (variables_with p.first.name 0 (value_of doc) [])

-- nothing was done yet
abbrev pub no_effects : Effects
no_effects = record { channels = []; grants = []; roles = [] }

-- the state before the first visit
abbrev pub begin : ℕ → Program → Tree → Option Tree → Context → State
begin visits p doc old context = record { context = context; visits = visits; variables = parameters p doc old; effects = no_effects }

-- how deep a run with so many visits goes at most
abbrev pub depth_for : ℕ → ℕ
depth_for visits = 2 * visits + 2

-- the body is a block
unfoldable pub body : ℕ → Program → Act Completion
body depth p = block depth (run depth) top p.place p.body

-- the effects of a run, however its body ended
abbrev pub gathered : Completion × State → Found Effects
gathered end = Ok end.1.effects

-- what a program says with so many visits, of a document, the one before it, and who writes
unfoldable pub meaning_within : ℕ → Program → Tree → Option Tree → Context → Found Effects
meaning_within visits p doc old context = found_then (body (depth_for visits) p (begin visits p doc old context)) gathered

-- what a program says: it has 100,000 visits
abbrev pub meaning : Program → Tree → Option Tree → Context → Found Effects
meaning = meaning_within 100000
