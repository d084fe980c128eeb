use Rattle.session_laws.proofs.Ending.{closes, fails, breaks, texts, faults}
use Rattle.session_laws.proofs.ends.ends.Goals as goal

pub returns : goal.returns
returns c = record {
  closed = λ setup start final ended results sent failed earlier s so. closes s.turns s.left s.taken s.last results failed s.results_are s.taken_are ended.end earlier s.ends so;
  received = λ setup start final ended results sent failed earlier s so. fails s.turns s.left s.taken s.last results failed s.results_are s.taken_are ended.end earlier s.ends so;
  sent = λ setup start final ended results sent failed s some. breaks s.turns s.left s.taken s.last results failed s.results_are s.taken_are ended.end s.ends some;
  text = λ setup start final ended results sent failed earlier s so. texts s.turns s.left s.taken s.last results failed s.results_are s.taken_are s.read ended.end earlier s.ends so;
  frames = λ setup start final ended results sent failed fault s bad. faults s.turns s.left s.taken s.last results failed s.results_are s.taken_are s.read ended.end fault s.ends bad;
}
