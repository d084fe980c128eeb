use Rattle.std.proofs.Common.{inl, refl}
use Rattle.sg_names.proofs.KeyTexts.{reads_same}
use Rattle.sg_names.proofs.laws.keys.Goals as goal

pub returns-clause-written : goal.returns-clause-written
returns-clause-written c = λ k h. (h, inl refl)

pub returns-clause-one : goal.returns-clause-one
returns-clause-one c = reads_same
