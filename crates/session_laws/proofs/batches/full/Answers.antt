use Rattle.session_laws.proofs.Batching.{offers_are_batches, are_cut, all_looks}
use Rattle.session_laws.proofs.Opening.{batch_sized}
use Rattle.session_laws.proofs.batches.full.Goals as goal

pub returns-clause-offers : goal.returns-clause-offers
returns-clause-offers c = offers_are_batches c.conduct.ensures.wants c.conduct.ensures.kept

pub returns-clause-cut : goal.returns-clause-cut
returns-clause-cut c = are_cut

pub returns-clause-looks : goal.returns-clause-looks
returns-clause-looks c = all_looks

pub returns-clause-size : goal.returns-clause-size
returns-clause-size c = batch_sized
