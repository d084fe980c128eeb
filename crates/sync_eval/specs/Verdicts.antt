-- Verdicts over what a program means.
use Rattle.std.specs.Prelude.{◌≡◌, ◌<◌, ◌^◌, Result, Ok, Err}
use Rattle.sync_tokens.specs.declared.place.Place.{Place}
use Rattle.sync_values.specs.declared.fault.Rule.{Rule}
use Rattle.sync_values.specs.declared.fault.Stop.{Stop}
use Rattle.sync_values.specs.declared.fault.Stop.TheVariants as stop
use Rattle.sync_values.specs.Texts.{rule_text}
use Rattle.sync_meaning.specs.declared.effects.Effects.{Effects}
use Rattle.sync_eval.specs.declared.verdict.Verdict.{Verdict}
use Rattle.sync_eval.specs.declared.verdict.Verdict.TheVariants.{Accept, Deny, Memory}

-- a run that ends with effects accepts with them, and one that a rule stops is denied by that rule
abbrev pub verdict : Result Effects Stop → Verdict
verdict (Ok effects) = Accept effects
verdict (Err (stop.Deny rule)) = Deny rule
verdict (Err stop.Memory) = Memory

-- a place that 32 bits can count
abbrev pub IsCounted : Place → Type 0
IsCounted p = (p.line < 2 ^ 32) × (p.column < 2 ^ 32)

-- no two rules have one text
abbrev pub RulesHaveTextsOfTheirOwn : Type 0
RulesHaveTextsOfTheirOwn = (r s : Rule) → IsCounted r.place → IsCounted s.place → rule_text r ≡ rule_text s → r ≡ s
