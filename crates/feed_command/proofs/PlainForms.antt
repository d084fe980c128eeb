-- what the plainest words of `feed` are read as
use Rattle.std.proofs.Common.{◌≡◌, ◌∙◌, ◌↔◌, ◌++◌, ℕ, true, false, refl, sym, ap, ap₂, subst, List, [], ◌∷◌, codes, Some, IsTrue, is_some}
use Rattle.std.specs.List.{fold}
use Rattle.std.specs.Option.{option_map_or}
use Rattle.clap.specs.Walk.{Held, Row, Text, Walk, arg_by_index, finished, nothing_held, settled, to_positional, value, walk, walk_from, walked}
use Rattle.clap.specs.Kinds.{Kinds, or_else}
use Rattle.clap.specs.Faults.{check_fault, defaults_fault, entered_fault, settle_fault, step_fault, turn_fault, walk_fault}
use Rattle.clap.specs.Simple.{Shape, built, entered}
use Rattle.clap.specs.Words.{fault_of, first_of, matches_of}
use Rattle.clap.proofs.OnLiterals.{clap_on_literals}
use Rattle.sg_names.specs.Key.{ReadsKey}
use Rattle.sg_names.specs.Grammar.{is_name}
use Rattle.sg_history.specs.declared.row.Options.{Options}
use Rattle.command_line.specs.CommandLines.{feed_app}
use Rattle.command_line.specs.FeedWords.{FeedWords, HasFeedValues, IsFeedWords, is_channel_list, names_between_commas, feed_options}
use Rattle.command_line.specs.Matches.{TakesWords}
use Rattle.feed_command.specs.PlainWords.{AreRead, AskFor, ListsAskForFilters, is_plain_word, whole_feed}
use Rattle.feed_command.proofs.PlainWords.{at_place, option_fault, option_walked, plain_walked, plain_words_fault, waits_for}

-- the command line of `feed` as it is built
abbrev line : Shape
line = (built feed_app).top

-- what is held behind a word at each of the three places
abbrev held_at : ℕ → Text → Held → Held
held_at place word h = (to_positional line.rules (arg_by_index line.rules place) word (at_place h place) h).held

abbrev held_three : Text → Text → Text → Held → Held
held_three journal user since h = held_at 3 since (held_at 2 user (held_at 1 journal h))

abbrev place_fault : ℕ → Held → Kinds
place_fault place h = step_fault line place h value

three_walked : (h : Held) (j u s : Text) → IsTrue (is_plain_word j) → IsTrue (is_plain_word u) → IsTrue (is_plain_word s)
    → fold (walked line.rules []) (at_place h 1) (j ∷ u ∷ s ∷ []) ≡ at_place (held_three j u s h) 4
unfolding feed_app
three_walked h j u s ej eu es =
    let f : Walk → List Text → Walk = λ w words. fold (walked line.rules []) w words in
    ap (λ w. f w (u ∷ s ∷ [])) (plain_walked line.rules h 1 j ej)
    ∙ ap (λ w. f w (s ∷ [])) (plain_walked line.rules (held_at 1 j h) 2 u eu)
    ∙ plain_walked line.rules (held_at 2 u (held_at 1 j h)) 3 s es

three_fault : (h : Held) (j u s : Text) → IsTrue (is_plain_word j) → IsTrue (is_plain_word u) → IsTrue (is_plain_word s)
    → walk_fault line [] (at_place h 1) (j ∷ u ∷ s ∷ [])
    ≡ or_else (place_fault 1 h) (or_else (place_fault 2 (held_at 1 j h)) (or_else (place_fault 3 (held_at 2 u (held_at 1 j h))) []))
unfolding walk_fault feed_app
three_fault h j u s ej eu es =
    plain_words_fault line h 1 j (u ∷ s ∷ []) ej
    ∙ ap (or_else (place_fault 1 h)) (plain_words_fault line (held_at 1 j h) 2 u (s ∷ []) eu
    ∙ ap (or_else (place_fault 2 (held_at 1 j h))) (plain_words_fault line (held_at 2 u (held_at 1 j h)) 3 s [] es))

-- words that are taken, and whose matches have these values
from_values : (words : List Text) (rows : List Row) (j u s : Text) (options : Options) (f : FeedWords) → TakesWords feed_app words → matches_of feed_app words ≡ rows
    → first_of (codes "journal") rows ≡ Some j → first_of (codes "user") rows ≡ Some u → first_of (codes "since") rows ≡ Some s
    → IsTrue (option_map_or is_channel_list (first_of (codes "channels") rows) true) → feed_options rows ≡ options
    → IsFeedWords words f ↔ AreRead j u s options f
from_values words rows j u s options f taken same ej eu es list eo =
    let P : List Row → Type 0 = λ r. HasFeedValues r f in (
      (λ is.
          let v : HasFeedValues rows f = subst P same is.1 in
          let user : f.user ≡ u = cc (v.user, eu) in
          let text : v.text ≡ s = cc (v.since, es) in
          record {
            journal = cc (v.journal, ej);
            user = user;
            name = subst (λ t. IsTrue (is_name t)) user v.name;
            key = subst (λ t. ReadsKey t f.since) text v.key;
            options = v.options ∙ eo;
          }),
      (λ (r : AreRead j u s options f). (
        taken,
        subst P (sym same) (record {
          journal = ej ∙ ap Some (sym r.journal);
          user = eu ∙ ap Some (sym r.user);
          name = subst (λ t. IsTrue (is_name t)) (sym r.user) r.name;
          text = s;
          since = es;
          key = r.key;
          list = list;
          options = r.options ∙ sym eo;
        }),
      )),
    )

-- what may be wrong behind the walk over the words
abbrev left_fault : Walk → Kinds
left_fault w =
    or_else (entered_fault (built feed_app) w.stopped)
    (or_else (settle_fault line.rules line.args_override_self w.held)
    (or_else (defaults_fault (settled line.rules w.held).rows line.rules)
    (check_fault line (finished line.rules w.held) (is_some (entered (built feed_app) w.stopped)))))

-- the walk over the words behind `feed`
abbrev over : List Text → Walk
over words = walk line.rules [] nothing_held words

nothing_wrong : (words : List Text) (w : Walk) → over words ≡ w → walk_fault line [] (walk_from nothing_held) words ≡ [] → left_fault w ≡ []
    → fault_of feed_app (codes "feed" ∷ words) ≡ []
unfolding feed_app
nothing_wrong words w same none left = ap₂ (λ k v. or_else k (left_fault v)) none same ∙ left

-- the walk over these words ends behind the three, with nothing wrong
asks : (before : List Text) (options : Options) (h : Held) (j u s : Text) (f : FeedWords)
    → over (before ++ j ∷ u ∷ s ∷ []) ≡ at_place (held_three j u s h) 4
    → walk_fault line [] (walk_from nothing_held) (before ++ j ∷ u ∷ s ∷ []) ≡ []
    → left_fault (at_place (held_three j u s h) 4) ≡ []
    → first_of (codes "journal") (finished line.rules (held_three j u s h)) ≡ Some j
    → first_of (codes "user") (finished line.rules (held_three j u s h)) ≡ Some u
    → first_of (codes "since") (finished line.rules (held_three j u s h)) ≡ Some s
    → IsTrue (option_map_or is_channel_list (first_of (codes "channels") (finished line.rules (held_three j u s h))) true)
    → feed_options (finished line.rules (held_three j u s h)) ≡ options
    → IsFeedWords (codes "feed" ∷ (before ++ j ∷ u ∷ s ∷ [])) f ↔ AreRead j u s options f
unfolding feed_app
asks before options h j u s f walks none left ej eu es list eo =
    let words : List Text = before ++ j ∷ u ∷ s ∷ [] in
    from_values (codes "feed" ∷ words) (finished line.rules (held_three j u s h)) j u s options f
    (refl, nothing_wrong words (at_place (held_three j u s h) 4) walks none left)
    (ap (λ (w : Walk). finished line.rules w.held) walks) ej eu es list eo

pub whole_is_asked : AskFor [] whole_feed
unfolding clap_on_literals feed_app
whole_is_asked j u s f pj pu ps =
    asks [] whole_feed nothing_held j u s f
    (three_walked nothing_held j u s pj pu ps) (three_fault nothing_held j u s pj pu ps)
    refl refl refl refl refl refl

-- what is held behind a flag
abbrev held_flag : Text → Held
held_flag flag = (walked line.rules [] (walk_from nothing_held) flag).held

flag_is_asked : (flag : Text) (options : Options) (j u s : Text) (f : FeedWords) → IsTrue (is_plain_word j) → IsTrue (is_plain_word u) → IsTrue (is_plain_word s)
    → walked line.rules [] (walk_from nothing_held) flag ≡ at_place (held_flag flag) 1
    → turn_fault line [] (walk_from nothing_held) flag ≡ []
    → or_else (place_fault 1 (held_flag flag)) (or_else (place_fault 2 (held_at 1 j (held_flag flag))) (or_else (place_fault 3 (held_at 2 u (held_at 1 j (held_flag flag)))) [])) ≡ []
    → left_fault (at_place (held_three j u s (held_flag flag)) 4) ≡ []
    → first_of (codes "journal") (finished line.rules (held_three j u s (held_flag flag))) ≡ Some j
    → first_of (codes "user") (finished line.rules (held_three j u s (held_flag flag))) ≡ Some u
    → first_of (codes "since") (finished line.rules (held_three j u s (held_flag flag))) ≡ Some s
    → IsTrue (option_map_or is_channel_list (first_of (codes "channels") (finished line.rules (held_three j u s (held_flag flag)))) true)
    → feed_options (finished line.rules (held_three j u s (held_flag flag))) ≡ options
    → IsFeedWords (codes "feed" ∷ flag ∷ j ∷ u ∷ s ∷ []) f ↔ AreRead j u s options f
unfolding walk_fault
flag_is_asked flag options j u s f pj pu ps walks none places left ej eu es list eo =
    asks (flag ∷ []) options (held_flag flag) j u s f
    (ap (λ (w : Walk). fold (walked line.rules []) w (j ∷ u ∷ s ∷ [])) walks ∙ three_walked (held_flag flag) j u s pj pu ps)
    (ap₂ (λ k (w : Walk). or_else k (walk_fault line [] w (j ∷ u ∷ s ∷ []))) none walks ∙ three_fault (held_flag flag) j u s pj pu ps ∙ places)
    left ej eu es list eo

pub active_only_is_asked : AskFor (codes "--active-only" ∷ []) (record whole_feed { active_only = true })
unfolding clap_on_literals feed_app
active_only_is_asked j u s f pj pu ps =
    flag_is_asked (codes "--active-only") (record whole_feed { active_only = true }) j u s f pj pu ps refl refl refl refl refl refl refl refl refl

pub no_revocations_is_asked : AskFor (codes "--no-revocations" ∷ []) (record whole_feed { revocations = false })
unfolding clap_on_literals feed_app
no_revocations_is_asked j u s f pj pu ps =
    flag_is_asked (codes "--no-revocations") (record whole_feed { revocations = false }) j u s f pj pu ps refl refl refl refl refl refl refl refl refl

-- what is held behind the option, and behind its list
abbrev held_option : Held
held_option = record nothing_held { pending = Some (codes "channels", []) }

abbrev held_list : Text → Held
held_list list = record nothing_held { pending = Some (codes "channels", list ∷ []) }

option_is_met : walked line.rules [] (walk_from nothing_held) (codes "--channels") ≡ waits_for (codes "channels") held_option 1
unfolding clap_on_literals feed_app
option_is_met = refl

option_is_right : turn_fault line [] (walk_from nothing_held) (codes "--channels") ≡ []
unfolding clap_on_literals feed_app
option_is_right = refl

pub channels_are_asked : ListsAskForFilters
unfolding clap_on_literals feed_app
channels_are_asked list pl named j u s f pj pu ps =
    let three : List Text = j ∷ u ∷ s ∷ [] in
    let at_list : walked line.rules [] (waits_for (codes "channels") held_option 1) list ≡ at_place (held_list list) 1 = option_walked line.rules (codes "channels") held_option 1 list pl in
    asks (codes "--channels" ∷ list ∷ []) (record whole_feed { filter = Some (names_between_commas list) }) (held_list list) j u s f
    (ap (λ (w : Walk). fold (walked line.rules []) (walked line.rules [] w list) three) option_is_met
    ∙ ap (λ (w : Walk). fold (walked line.rules []) w three) at_list
    ∙ three_walked (held_list list) j u s pj pu ps)
    (ap₂ (λ k (w : Walk). or_else k (walk_fault line [] w (list ∷ three))) option_is_right option_is_met
    ∙ ap₂ (λ k (w : Walk). or_else k (walk_fault line [] w three)) (option_fault line (codes "channels") held_option 1 list pl) at_list
    ∙ three_fault (held_list list) j u s pj pu ps)
    refl refl refl refl named refl
