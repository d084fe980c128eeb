-- the words of `feed`
use Rattle.std.specs.Prelude.{◌≡◌, ◌==◌, ℕ, Bool, true, false, not, List, Some, option_map, codes, IsTrue}
use Rattle.std.specs.List.{list_all, slice_split}
use Rattle.std.specs.Option.{option_map_or}
use Rattle.std.specs.Str.{bytes_eq}
use Rattle.clap.specs.Words.{Row, first_of, matches_of}
use Rattle.sg_names.specs.declared.key.Key.{Key}
use Rattle.sg_names.specs.Key.{ReadsKey}
use Rattle.sg_names.specs.Grammar.{is_channel_name, is_name}
use Rattle.sg_history.specs.declared.row.Options.{Options}
use Rattle.command_line.specs.CommandLines.{feed_app}
use Rattle.command_line.specs.Matches.{TakesWords}

-- a journal's path, a user's name, a since key, and which rows are asked for
pub record FeedWords : Type 0 where
  pub journal : List ℕ
  pub user : List ℕ
  pub since : Key
  pub options : Options

-- what stands between the commas of a text
abbrev pub names_between_commas : List ℕ → List (List ℕ)
names_between_commas text = slice_split (λ b. b == 44) text

-- channels' names with a comma between each two, in any order, of which one may stand twice
abbrev pub is_channel_list : List ℕ → Bool
is_channel_list text = list_all (λ n. is_channel_name n) (names_between_commas text)

-- the flag's value is `true`
abbrev pub is_flag_set : List ℕ → List Row → Bool
is_flag_set flag rows = option_map_or (λ text. bytes_eq text (codes "true")) (first_of flag rows) false

-- the channels of the list are the filter, without a list there is none
abbrev pub feed_options : List Row → Options
feed_options rows = record {
  filter = option_map names_between_commas (first_of (codes "channels") rows);
  active_only = is_flag_set (codes "active-only") rows;
  revocations = not (is_flag_set (codes "no-revocations") rows);
}

-- what the matches give, each value in its grammar
pub record HasFeedValues (rows : List Row) (f : FeedWords) : Type 0 where
  pub journal : first_of (codes "journal") rows ≡ Some f.journal
  pub user : first_of (codes "user") rows ≡ Some f.user
  pub name : IsTrue (is_name f.user)
  pub text : List ℕ
  pub since : first_of (codes "since") rows ≡ Some text
  pub key : ReadsKey text f.since
  pub list : IsTrue (option_map_or is_channel_list (first_of (codes "channels") rows) true)
  pub options : f.options ≡ feed_options rows

-- the words of `feed` are taken, and ask for this
abbrev pub IsFeedWords : List (List ℕ) → FeedWords → Type 0
IsFeedWords words f = TakesWords feed_app words × HasFeedValues (matches_of feed_app words) f
