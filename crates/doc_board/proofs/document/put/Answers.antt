use Rattle.std.proofs.Common.{arith}
use Rattle.std.proofs.lemmas.Map.Text.{text_keys}
use Rattle.doc_board.proofs.document.put.Goals as goal

pub returns-in-Some : goal.returns-in-Some
returns-in-Some c = λ name. grind (arith, text_keys)
