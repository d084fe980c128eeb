-- words that a command line takes
use Rattle.std.proofs.Common.{◌≡◌, ◌∙◌, ℕ, true, false, sym, ap, subst, List, [], IsTrue}
use Rattle.clap.specs.Words.{App, Row, fault_of, matches_of}
use Rattle.command_line.specs.Matches.{TakesWords, begins_with}

-- the words of a command line that was built so
pub are_taken : (app built : App) (name : List ℕ) (words : List (List ℕ)) → built ≡ app → app.top.name ≡ name → begins_with name words ≡ true
    → fault_of built words ≡ [] → TakesWords app words
are_taken app built name words same named begins none =
    (subst (λ n. IsTrue (begins_with n words)) (sym named) begins, subst (λ a. fault_of a words ≡ []) same none)

pub their_rows : (app built : App) (words : List (List ℕ)) (rows : List Row) → built ≡ app → rows ≡ matches_of built words → rows ≡ matches_of app words
their_rows app built words rows same is = is ∙ ap (λ a. matches_of a words) same

-- words that begin otherwise are not taken
pub not_taken : (app : App) (name : List ℕ) (words : List (List ℕ)) → app.top.name ≡ name → begins_with name words ≡ false → TakesWords app words → ⊥
not_taken app name words named begins taken =
    let begun : begins_with name words ≡ true = subst (λ n. IsTrue (begins_with n words)) named taken.0 in
    cc (begun, begins)
