use Rattle.std.proofs.Common.{arith}
use Rattle.std.proofs.lemmas.Map.Text.{text_keys}
use Rattle.log_index.proofs.by_name.put.Goals as goal

pub returns-in-Some-clause-ok : goal.returns-in-Some-clause-ok
returns-in-Some-clause-ok c = λ name. grind (arith, text_keys)

pub returns-clause-ok : goal.returns-clause-ok
returns-clause-ok c = λ name. grind (arith, text_keys)
