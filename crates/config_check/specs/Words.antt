-- The words for what is wrong.
use Rattle.std.specs.Prelude.{ℕ, List, codes}
use Rattle.sg_history.specs.declared.config_fault.ConfigWhy.{ConfigWhy}
use Rattle.sg_history.specs.declared.config_fault.ConfigWhy.TheVariants as why
use Rattle.sync_tokens.specs.declared.place.SyntaxWhy.{SyntaxWhy}
use Rattle.sync_tokens.specs.declared.place.SyntaxWhy.TheVariants as syntax
use Rattle.config_check.specs.declared.function.FunctionWhy.{FunctionWhy}
use Rattle.config_check.specs.declared.function.FunctionWhy.TheVariants.{Syntax, UnknownName, WrongCount, Redeclared, ConstWritten}

-- why a member is bad
abbrev pub config_words : ConfigWhy → List ℕ
config_words why.NotJson = codes "NotJson: the whole is no JSON"
config_words why.NotObject = codes "NotObject: the whole is no object"
config_words why.Missing = codes "Missing: needed, and not there"
config_words why.Unknown = codes "Unknown: no member has this name"
config_words why.Value = codes "Value: of another kind, or outside its grammar"
config_words why.Twice = codes "Twice: an earlier one has the same"
config_words why.Sync = codes "Sync: the text of the function is refused"

-- why a text is no program
abbrev pub syntax_words : SyntaxWhy → List ℕ
syntax_words syntax.TooLong = codes "TooLong: the text has more than 65536 bytes"
syntax_words syntax.Range = codes "Range: digits that are no integer"
syntax_words syntax.BadText = codes "BadText: not closed, a bad escape, or a character of no token"
syntax_words syntax.TooDeep = codes "TooDeep: more than 100 statements, expressions and operators are open"
syntax_words syntax.Unexpected = codes "Unexpected: a token that fits no rule"

-- why the text of a sync function is refused
abbrev pub function_words : FunctionWhy → List ℕ
function_words (Syntax why) = syntax_words why
function_words UnknownName = codes "UnknownName: a name of no variable, or a call of no function"
function_words WrongCount = codes "WrongCount: a call with another count of arguments than is taken"
function_words Redeclared = codes "Redeclared: a name that is declared already, or is a function's"
function_words ConstWritten = codes "ConstWritten: a constant that is written"
