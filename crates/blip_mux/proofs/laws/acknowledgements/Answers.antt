use Rattle.std.specs.FinSet as set
use Rattle.blip_mux.specs.InboxStates.{so_far_at}
use Rattle.blip_mux.proofs.AckKinds.{acked_kind, owed_kind}
use Rattle.blip_mux.proofs.laws.acknowledgements.Goals as goal

pub returns-clause-acked : goal.returns-clause-acked
returns-clause-acked c s f kind number bytes e = acked_kind s.requests (set.contains s.expected f.number) s.held (so_far_at s f) f kind number bytes e

pub returns-clause-owed : goal.returns-clause-owed
returns-clause-owed c s f kind number bytes e = owed_kind s.requests (set.contains s.expected f.number) s.held (so_far_at s f) f kind number bytes e
