-- words that do not begin with `-`, in the walk of a command line without subcommands
use Rattle.std.proofs.Common.{◌≡◌, ◌∙◌, ◌==◌, ◌&&◌, ℕ, Bool, cond, true, false, not, refl, ap, ap₂, List, [], ◌∷◌, Some, None}
use Rattle.std.specs.Prelude.{option_and_then}
use Rattle.std.specs.Option.{option_map_or}
use Rattle.std.specs.Str.{bytes_eq}
use Rattle.clap.specs.Lexer.{long_of, long_of_rest, short_of, short_of_rest, strip_byte}
use Rattle.clap.specs.Walk.{Held, Rule, Step, Text, Waiting, Walk, after_step, arg_by_id, arg_by_index, idle, long_or_other, next, option, option_word, plain_word, short_or_plain, subcommand_met, subcommand_or_other, to_positional, trailing, value, walked, word_met}
use Rattle.clap.specs.Kinds.{or_else}
use Rattle.clap.specs.Faults.{bundle_fault, flag_word_fault, other_fault, step_fault, turn_fault, walk_fault, word_fault}
use Rattle.clap.specs.Simple.{Shape}
use Rattle.feed_command.specs.PlainWords.{is_plain_word}

abbrev pub at_place : Held → ℕ → Walk
at_place h p = record { held = h; waiting = idle; position = p; is_trailing = false; stopped = None }

abbrev pub waits_for : Text → Held → ℕ → Walk
waits_for id h p = record { held = h; waiting = option id; position = p; is_trailing = false; stopped = None }

not_hyphen : (b : ℕ) → not (b == 45) ≡ true → (b == 45) ≡ false
not_hyphen b e = go (b == 45) e
  where
    go : (x : Bool) → not x ≡ true → x ≡ false
    go true e = cc
    go false e = refl

-- such a word is no flag, and not `--`
no_long : (word : Text) → is_plain_word word ≡ true → long_of word ≡ None
no_long [] e = refl
no_long (b ∷ bs) e = ap (λ x. option_and_then long_of_rest (option_and_then (strip_byte 45) (cond x (Some bs) None))) (not_hyphen b e)

no_short : (word : Text) → is_plain_word word ≡ true → short_of word ≡ None
no_short [] e = refl
no_short (b ∷ bs) e = ap (λ x. option_and_then short_of_rest (cond x (Some bs) None)) (not_hyphen b e)

no_end : (word : Text) → is_plain_word word ≡ true → bytes_eq word (45 ∷ 45 ∷ []) ≡ false
no_end [] e = refl
no_end (b ∷ bs) e = ap (λ x. x && bytes_eq bs (45 ∷ [])) (not_hyphen b e)

module _ (w : Waiting) (p : ℕ) (word : Text) (h : Held) (none : subcommand_met [] w word ≡ None) (plain : is_plain_word word ≡ true) where
  met : (c : List Rule) → word_met c [] false w p word h ≡ plain_word c w word h
  met c =
      ap (λ o. subcommand_or_other c o w p word h) none
      ∙ ap (λ x. cond x (h, trailing p) (long_or_other c w word (long_of word) h)) (no_end word plain)
      ∙ ap (λ o. long_or_other c w word o h) (no_long word plain)
      ∙ ap (λ o. short_or_plain c w word o h) (no_short word plain)

  right : (s : Shape) → word_fault s [] false w word h ≡ []
  right s =
      ap (λ o. other_fault s o word h) none
      ∙ ap (λ x. cond x [] (flag_word_fault s.rules s.args_override_self (long_of word) word h)) (no_end word plain)
      ∙ ap (λ o. flag_word_fault s.rules s.args_override_self o word h) (no_long word plain)
      ∙ ap (λ o. option_map_or (λ flags. bundle_fault s.rules s.args_override_self flags h) o []) (no_short word plain)

-- the word goes to the positional at this place
pub plain_walked : (c : List Rule) (h : Held) (p : ℕ) (word : Text) → is_plain_word word ≡ true
    → walked c [] (at_place h p) word ≡ to_positional c (arg_by_index c p) word (at_place h p) h
unfolding walked
plain_walked c h p word e = ap (λ (m : Held × Step). after_step c word (at_place h p) m.0 m.1) (met idle p word h refl e c)

-- the word goes to the option that waits
pub option_walked : (c : List Rule) (id : Text) (h : Held) (p : ℕ) (word : Text) → is_plain_word word ≡ true
    → walked c [] (waits_for id h p) word
    ≡ after_step c word (waits_for id h p) (option_word (arg_by_id c id) id word h).0 (next (option_word (arg_by_id c id) id word h).1)
unfolding walked
option_walked c id h p word e = ap (λ (m : Held × Step). after_step c word (waits_for id h p) m.0 m.1) (met (option id) p word h refl e c)

plain_fault : (s : Shape) (h : Held) (p : ℕ) (word : Text) → is_plain_word word ≡ true → turn_fault s [] (at_place h p) word ≡ step_fault s p h value
plain_fault s h p word e = ap₂ (λ k (m : Held × Step). or_else k (step_fault s p m.0 m.1)) (right idle p word h refl e s) (met idle p word h refl e s.rules)

pub option_fault : (s : Shape) (id : Text) (h : Held) (p : ℕ) (word : Text) → is_plain_word word ≡ true → turn_fault s [] (waits_for id h p) word ≡ []
option_fault s id h p word e =
    ap₂ (λ k (m : Held × Step). or_else k (step_fault s p m.0 m.1)) (right (option id) p word h refl e s) (met (option id) p word h refl e s.rules)

pub plain_words_fault : (s : Shape) (h : Held) (p : ℕ) (word : Text) (rest : List Text) → is_plain_word word ≡ true
    → walk_fault s [] (at_place h p) (word ∷ rest)
    ≡ or_else (step_fault s p h value) (walk_fault s [] (to_positional s.rules (arg_by_index s.rules p) word (at_place h p) h) rest)
unfolding walk_fault
plain_words_fault s h p word rest e =
    ap₂ (λ k (w : Walk). or_else k (walk_fault s [] w rest)) (plain_fault s h p word e) (plain_walked s.rules h p word e)
