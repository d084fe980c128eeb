use Rattle.log_index.proofs.LastMarks.{marked_gives, stands}
use Rattle.log_index.proofs.laws.marks.Goals as goal

pub returns-clause-effects : goal.returns-clause-effects
returns-clause-effects c = marked_gives

pub returns-clause-there : goal.returns-clause-there
returns-clause-there c = λ es w m is. (stands es w m is).there

pub returns-clause-after : goal.returns-clause-after
returns-clause-after c = λ es w m is. (stands es w m is).after

pub returns-clause-within : goal.returns-clause-within
returns-clause-within c = λ es w m is. (stands es w m is).within
