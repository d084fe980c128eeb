-- Reading expressions: what stands at the front of the tokens, and which token is the first that no rule reads.
use Rattle.std.specs.Prelude.{ℕ, zero, suc, ◌-◌, ◌==◌, Bool, true, false, ◌||◌, if◌then◌else◌, List, [], ◌∷◌, ◌++◌, Option, Some, None, Ok, Err}
use Rattle.sync_tokens.specs.declared.place.Place.{Place}
use Rattle.sync_tokens.specs.declared.token.Kind.{Kind}
use Rattle.sync_tokens.specs.declared.token.Kind.TheVariants as kinds
use Rattle.sync_tokens.specs.declared.token.Sign.{Sign}
use Rattle.sync_tokens.specs.declared.token.Sign.TheVariants as signs
use Rattle.sync_tokens.specs.declared.token.Word.{Word}
use Rattle.sync_tokens.specs.declared.token.Word.TheVariants as words
use Rattle.sync_syntax.specs.declared.tree.Operator.{Operator}
use Rattle.sync_syntax.specs.declared.tree.Prefix.{Prefix}
use Rattle.sync_syntax.specs.declared.tree.Expr.{Expr}
use Rattle.sync_syntax.specs.declared.tree.Expr.TheVariants as e
use Rattle.sync_syntax.specs.declared.tree.Suffix.{Suffix}
use Rattle.sync_syntax.specs.declared.tree.Suffix.TheVariants as suffixes
use Rattle.sync_syntax.specs.Reading.{Rule, Tokens, ◌>>=◌, ◌>>◌, ◌<$>◌, pure_rule, refuse, take, kind, place, sees, eat, expect, name_rule, turns, separated, too_deep}
use Rattle.sync_syntax.specs.Operators.{operator_at, prefix_by}

-- the key of a member: a name or a text
abbrev pub key_by : Kind → Rule (List ℕ)
key_by (kinds.Name n) = take >> pure_rule n
key_by (kinds.Text s) = take >> pure_rule s
key_by _ = refuse

unfoldable pub key : Rule (List ℕ)
key = λ ts. key_by (kind ts) ts

-- a word that is an expression by itself
abbrev pub expr_by_word : Place → Word → Rule Expr
expr_by_word p words.True = take >> pure_rule (e.Bool p true)
expr_by_word p words.False = take >> pure_rule (e.Bool p false)
expr_by_word p words.Null = take >> pure_rule (e.Null p)
expr_by_word p words.Undefined = take >> pure_rule (e.Undefined p)
expr_by_word p _ = refuse

-- an expression with what follows it
abbrev pub followed : Expr → List Suffix → Expr
followed first [] = first
followed first (s ∷ ss) = e.Postfix first (s ∷ ss)

-- an expression with operators and their right operands
abbrev pub chained : Expr → List (Operator × Expr) → Expr
chained first [] = first
chained first (t ∷ ts) = e.Chain first (t ∷ ts)

-- what begins a suffix
unfoldable pub begins_suffix : Tokens → Bool
begins_suffix ts = sees signs.Dot ts || sees signs.BracketOpen ts || sees signs.ParenOpen ts

-- operators of one level, with their right operands, whose own operators bind more tightly
abbrev pub tail_by : Rule Expr → Option Operator → List (Operator × Expr) → (List (Operator × Expr) → Rule (List (Operator × Expr))) → Rule (List (Operator × Expr))
tail_by operand None found rest = pure_rule found
tail_by operand (Some op) found rest = take >> (do right ← operand; rest (found ++ (op, right) ∷ []))

unfoldable pub tails_from : ℕ → Rule Expr → ℕ → List (Operator × Expr) → Rule (List (Operator × Expr))
tails_from level operand zero found = refuse
tails_from level operand (suc n) found = λ ts.
    tail_by operand (operator_at level (kind ts)) found (λ longer. tails_from level operand n longer) ts

unfoldable pub tails : ℕ → Rule Expr → Rule (List (Operator × Expr))
tails level operand = λ ts. tails_from level operand (turns ts) [] ts

-- The argument reads what is opened inside: an expression, or where it is given true the operand of a
-- prefix operator.
module _ (nested : Bool → Rule Expr) where
  abbrev pub separated_in : Rule (List Expr)
  separated_in = separated (nested false)

  -- expressions with commas between, or none, up to this sign and with it
  unfoldable pub list_rule : Sign → Rule (List Expr)
  list_rule close = do
    is_empty ← eat close
    if is_empty then pure_rule [] else (do found ← separated_in; expect close; pure_rule found)

  unfoldable pub member_rule : Rule (List ℕ × Expr)
  member_rule = do
    k ← key
    expect signs.Colon
    value ← nested false
    pure_rule (k, value)

  abbrev pub some_members : Rule (List (List ℕ × Expr))
  some_members = separated member_rule

  unfoldable pub members_rule : Rule (List (List ℕ × Expr))
  members_rule = do
    is_empty ← eat signs.BraceClose
    if is_empty then pure_rule [] else (do found ← some_members; expect signs.BraceClose; pure_rule found)

  abbrev pub bracketed : Place → Sign → Rule Expr
  bracketed p signs.ParenOpen = take >> (do inner ← nested false; expect signs.ParenClose; pure_rule inner)
  bracketed p signs.BracketOpen = take >> e.List p <$> list_rule signs.BracketClose
  bracketed p signs.BraceOpen = take >> e.Object p <$> members_rule
  bracketed p _ = refuse

  abbrev pub primary_by : Place → Kind → Rule Expr
  primary_by p (kinds.Integer n) = take >> pure_rule (e.Integer p n)
  primary_by p (kinds.Text s) = take >> pure_rule (e.Text p s)
  primary_by p (kinds.Name n) = take >> pure_rule (e.Name p n)
  primary_by p (kinds.Word w) = expr_by_word p w
  primary_by p (kinds.Sign s) = bracketed p s
  primary_by p _ = refuse

  unfoldable pub primary : Rule Expr
  primary = λ ts. primary_by (place ts) (kind ts) ts

  unfoldable pub suffix_rule : Rule Suffix
  suffix_rule = do
    is_member ← eat signs.Dot
    if is_member then suffixes.Member <$> name_rule else (do
      is_index ← eat signs.BracketOpen
      if is_index then (do at ← nested false; expect signs.BracketClose; pure_rule (suffixes.Index at)) else (do expect signs.ParenOpen; found ← list_rule signs.ParenClose; pure_rule (suffixes.Call found)))

  unfoldable pub suffixes_from : ℕ → List Suffix → Rule (List Suffix)
  suffixes_from zero found = refuse
  suffixes_from (suc n) found = λ ts.
      if begins_suffix ts then (do s ← suffix_rule; suffixes_from n (found ++ s ∷ [])) ts else Ok (found, ts)

  unfoldable pub all_suffixes : Rule (List Suffix)
  all_suffixes = λ ts. suffixes_from (turns ts) [] ts

  unfoldable pub postfix_rule : Rule Expr
  postfix_rule = do
    first ← primary
    found ← all_suffixes
    pure_rule (followed first found)

-- The first argument says how much more may be open.
module _ (room : ℕ) (nested : Bool → Rule Expr) where
  -- a prefix operator opens its operand
  abbrev pub prefixed_rule : Place → Prefix → Rule Expr
  prefixed_rule p op = if room == 0 then (λ ts. Err (too_deep ts)) else (take >> e.Prefix p op <$> nested true)

  abbrev pub unary_by : Place → Option Prefix → Rule Expr
  unary_by p None = postfix_rule nested
  unary_by p (Some op) = prefixed_rule p op

  unfoldable pub unary : Rule Expr
  unary = λ ts. unary_by (place ts) (prefix_by (kind ts)) ts

  unfoldable pub chain_rule : ℕ → Rule Expr
  chain_rule zero = unary
  chain_rule (suc level) = do
    first ← chain_rule level
    found ← tails (suc level) (chain_rule level)
    pure_rule (chained first found)

  unfoldable pub choice_rule : Rule Expr
  choice_rule = do
    condition ← chain_rule 6
    is_choice ← eat signs.Question
    if is_choice then (do
      first ← nested false
      expect signs.Colon
      second ← nested false
      pure_rule (e.Choice condition first second)) else pure_rule condition

  unfoldable pub expr_or_operand : Bool → Rule Expr
  expr_or_operand is_operand = if is_operand then unary else choice_rule

-- an expression, or the operand of a prefix operator, where so much more may be open
unfoldable pub nested : ℕ → Bool → Rule Expr
nested zero is_operand = λ ts. Err (too_deep ts)
nested (suc room) is_operand = expr_or_operand room (nested room) is_operand

-- the same where so much more may be open
abbrev pub unary_in : ℕ → Rule Expr
unary_in room = unary room (nested room)

abbrev pub prefixed_in : ℕ → Place → Prefix → Rule Expr
prefixed_in room = prefixed_rule room (nested room)

-- what follows the first operand at a level, which is at least 1
abbrev pub tails_in : ℕ → ℕ → Rule (List (Operator × Expr))
tails_in room level = tails level (chain_rule room (nested room) (level - 1))

abbrev pub chain_in : ℕ → ℕ → Rule Expr
chain_in room = chain_rule room (nested room)

abbrev pub choice_in : ℕ → Rule Expr
choice_in room = choice_rule room (nested room)

abbrev pub expr_or_operand_in : ℕ → Bool → Rule Expr
expr_or_operand_in room = expr_or_operand room (nested room)
