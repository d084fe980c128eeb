use Rattle.write_path.proofs.OneRead.{closed_later}
use Rattle.write_path.proofs.ReadLaws.{later_than_each}
use Rattle.write_path.proofs.laws.closing.Goals as goal

pub returns-clause-closed : goal.returns-clause-closed
returns-clause-closed c = λ p board closes. closed_later p.read board closes.pending closes.read

pub returns-clause-joined : goal.returns-clause-joined
returns-clause-joined c = λ p other h all. later_than_each p.read other.read h all
