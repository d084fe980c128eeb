use Rattle.std.proofs.Common.{◌≡◌, ◌≢◌, ◌++◌, IfNone, IfSome, List, ℕ, subst}
use Rattle.sg_history.proofs.Titles.{words_none, words_some}
use Rattle.sg_history.proofs.header.behind_words.Goals as goal

pub returns-clause-some : goal.returns-clause-some
returns-clause-some c =
    subst (λ (w : List ℕ). IfSome c.strip_prefix.result (λ rest. c.args.line.now ≡ w ++ rest.now)) c.words.ensures
    (words_some c.strip_prefix.result c.args.line.now c.words.result.now c.strip_prefix.ensures.cases)

pub returns-clause-none : goal.returns-clause-none
returns-clause-none c =
    subst (λ (w : List ℕ). IfNone c.strip_prefix.result ((rest : List ℕ) → c.args.line.now ≢ w ++ rest)) c.words.ensures
    (words_none c.strip_prefix.result c.args.line.now c.words.result.now c.strip_prefix.ensures.cases)
