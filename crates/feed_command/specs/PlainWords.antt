-- the plainest words of `feed`
use Rattle.std.specs.Prelude.{◌≡◌, ◌==◌, ◌↔◌, ◌++◌, ℕ, Bool, true, false, not, List, [], ◌∷◌, codes, None, Some, IsTrue}
use Rattle.sg_names.specs.Key.{ReadsKey}
use Rattle.sg_names.specs.Grammar.{is_name}
use Rattle.sg_history.specs.declared.row.Options.{Options}
use Rattle.command_line.specs.FeedWords.{FeedWords, IsFeedWords, is_channel_list, names_between_commas}

-- the word does not begin with `-`
abbrev pub is_plain_word : List ℕ → Bool
is_plain_word [] = true
is_plain_word (b ∷ bs) = not (b == 45)

-- no filter, deleted documents and revocations too
abbrev pub whole_feed : Options
whole_feed = record { filter = None; active_only = false; revocations = true }

-- the three words are read as they stand, with what is asked for besides
pub record AreRead (first second third : List ℕ) (asked : Options) (f : FeedWords) : Type 0 where
  pub journal : f.journal ≡ first
  pub user : f.user ≡ second
  pub name : IsTrue (is_name second)
  pub key : ReadsKey third f.since
  pub options : f.options ≡ asked

-- with these words behind `feed`, any three words are read as they stand, with these options
abbrev pub AskFor : List (List ℕ) → Options → Type 0
AskFor before options =
    (journal user since : List ℕ) (f : FeedWords) → IsTrue (is_plain_word journal) → IsTrue (is_plain_word user) → IsTrue (is_plain_word since)
    → IsFeedWords (codes "feed" ∷ (before ++ journal ∷ user ∷ since ∷ [])) f ↔ AreRead journal user since options f

-- a list of channels asks for what it names
abbrev pub ListsAskForFilters : Type 0
ListsAskForFilters =
    (list : List ℕ) → IsTrue (is_plain_word list) → IsTrue (is_channel_list list)
    → AskFor (codes "--channels" ∷ list ∷ []) (record whole_feed { filter = Some (names_between_commas list) })
