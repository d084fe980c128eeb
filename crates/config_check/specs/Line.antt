-- The line that says a verdict.
use Rattle.std.specs.Prelude.{ℕ, nat_lt, nat_eq, ◌||◌, List, [], ◌∷◌, ◌++◌, codes, decimal, map, Option, Some, None, if◌then◌else◌}
use Rattle.sync_tokens.specs.declared.place.Place.{Place}
use Rattle.sg_history.specs.declared.config_fault.ConfigWhy.{ConfigWhy}
use Rattle.config_check.specs.declared.function.FunctionFault.{FunctionFault}
use Rattle.config_check.specs.declared.verdict.Refusal.{Refusal}
use Rattle.config_check.specs.declared.verdict.Verdict.{Verdict}
use Rattle.config_check.specs.declared.verdict.Verdict.TheVariants.{Good, Long, Bad}
use Rattle.config_check.specs.Words.{config_words, function_words}

-- a byte as it is shown: a `?` for a control character
abbrev pub shown : ℕ → ℕ
shown b = if nat_lt b 32 || nat_eq b 127 then 63 else b

-- the path of a member, if it has one, and a colon and a blank
abbrev pub path_text : List ℕ → List ℕ
path_text [] = []
path_text (b ∷ bs) = map (λ b. shown b) (b ∷ bs) ++ codes ": "

-- a place, and a colon and a blank
abbrev pub shown_place : Place → List ℕ
shown_place p = codes "line " ++ decimal p.line ++ codes ", column " ++ decimal p.column ++ codes ": "

-- the fault of a sync function's text
abbrev pub fault_text : FunctionFault → List ℕ
fault_text fault = shown_place fault.place ++ function_words fault.why

-- why a member is bad, and of a sync function's text where
abbrev pub why_text : ConfigWhy → Option FunctionFault → List ℕ
why_text why None = config_words why
why_text why (Some fault) = fault_text fault

abbrev pub refused_text : Refusal → List ℕ
refused_text r = path_text r.path ++ why_text r.why r.function

abbrev pub verdict_text : Verdict → List ℕ
verdict_text Good = codes "good"
verdict_text Long = codes "more than 1073741824 bytes"
verdict_text (Bad r) = refused_text r

-- the line, which has no other line feed
abbrev pub verdict_line : Verdict → List ℕ
verdict_line v = verdict_text v ++ 10 ∷ []
