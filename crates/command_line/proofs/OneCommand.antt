-- words begin with one command's name
use Rattle.std.proofs.Common.{◌≡◌, ℕ, true, false, true≢false, sym, subst, codes, refl, List, [], ◌∷◌, IsTrue}
use Rattle.std.specs.Str.{bytes_eq}
use Rattle.std.proofs.lemmas.Slice.Eq.{bytes_eq-Decides}
use Rattle.clap.specs.Words.{App}
use Rattle.command_line.specs.CommandLines.{feed_app, replay_app, serve_app}
use Rattle.command_line.specs.Matches.{TakesWords, begins_with}
use Rattle.command_line.proofs.CommandLines.{feed_is_named, replay_is_named, serve_is_named}

-- two names that differ
module _ (one other : List ℕ) (differ : bytes_eq one other ≡ false) where
  two_names : (word : List ℕ) → bytes_eq word one ≡ true → bytes_eq word other ≡ true → ⊥
  two_names word is also =
      let same : bytes_eq one other ≡ true = subst (λ t. bytes_eq t other ≡ true) ((bytes_eq-Decides word one).0 is) also in
      cc (same, differ)

  both_begin : (words : List (List ℕ)) → begins_with one words ≡ true → begins_with other words ≡ true → ⊥
  both_begin [] is also = true≢false (sym is)
  both_begin (word ∷ words) is also = two_names word is also

  taken_once : (first second : App) (words : List (List ℕ)) → first.top.name ≡ one → second.top.name ≡ other → TakesWords first words → TakesWords second words → ⊥
  taken_once first second words named named_too is also =
      both_begin words (subst (λ n. IsTrue (begins_with n words)) named is.0) (subst (λ n. IsTrue (begins_with n words)) named_too also.0)

pub feed_or_replay : (words : List (List ℕ)) → TakesWords feed_app words → TakesWords replay_app words → ⊥
feed_or_replay words = taken_once (codes "feed") (codes "replay") refl feed_app replay_app words feed_is_named replay_is_named

pub feed_or_serve : (words : List (List ℕ)) → TakesWords feed_app words → TakesWords serve_app words → ⊥
feed_or_serve words = taken_once (codes "feed") (codes "serve") refl feed_app serve_app words feed_is_named serve_is_named

pub replay_or_serve : (words : List (List ℕ)) → TakesWords replay_app words → TakesWords serve_app words → ⊥
replay_or_serve words = taken_once (codes "replay") (codes "serve") refl replay_app serve_app words replay_is_named serve_is_named
