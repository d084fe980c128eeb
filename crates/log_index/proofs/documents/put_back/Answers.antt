use Rattle.std.proofs.Common.{arith}
use Rattle.std.proofs.lemmas.Map.Text.{text_keys}
use Rattle.log_index.proofs.documents.put_back.Goals as goal

pub returns-in-None : goal.returns-in-None
returns-in-None c = λ name. grind (arith, text_keys)

pub returns-in-Some-get_mut : goal.returns-in-Some-get_mut
returns-in-Some-get_mut c = λ name. grind (arith, text_keys)
