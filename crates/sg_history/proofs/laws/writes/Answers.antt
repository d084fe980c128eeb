use Rattle.sg_history.proofs.Books.{same_writes, same_last}
use Rattle.sg_history.proofs.laws.writes.Goals as goal

pub returns : goal.returns
returns c = record { same = λ earlier later doc last number is_later is low. same_writes earlier later doc last is_later is number low; last = same_last }
