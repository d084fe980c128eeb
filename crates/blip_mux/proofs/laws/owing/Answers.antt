use Rattle.blip_mux.proofs.Owing.{owed_first, owed_next, owed_all}
use Rattle.blip_mux.proofs.laws.owing.Goals as goal

pub returns : goal.returns
returns c = record { first = owed_first; next = owed_next; all = owed_all }
