-- Reading statements and programs: what stands at the front of the tokens, and which token is the first that
-- no rule reads.
use Rattle.std.specs.Prelude.{◌≡◌, ◌≢◌, ℕ, zero, suc, Bool, true, false, if◌then◌else◌, List, [], ◌∷◌, ◌++◌, Option, Some, None, Result, Ok, Err, nat_lt, length}
use Rattle.sync_tokens.specs.Places.{first_place}
use Rattle.sync_tokens.specs.Scan.{tokens_of}
use Rattle.sync_tokens.specs.declared.place.Place.{Place}
use Rattle.sync_tokens.specs.declared.place.SyntaxWhy.TheVariants.{TooLong}
use Rattle.sync_tokens.specs.declared.token.Kind.{Kind}
use Rattle.sync_tokens.specs.declared.token.Kind.TheVariants as kinds
use Rattle.sync_tokens.specs.declared.token.Sign.{Sign}
use Rattle.sync_tokens.specs.declared.token.Sign.TheVariants as signs
use Rattle.sync_tokens.specs.declared.token.Word.{Word}
use Rattle.sync_tokens.specs.declared.token.Word.TheVariants as words
use Rattle.sync_syntax.specs.declared.fault.ParseFault.{ParseFault}
use Rattle.sync_syntax.specs.declared.fault.ParseFault.TheVariants.{Bad, Memory}
use Rattle.sync_syntax.specs.declared.operator.Writing.{Writing}
use Rattle.sync_syntax.specs.declared.operator.Writing.TheVariants as writing
use Rattle.sync_syntax.specs.declared.tree.Expr.{Expr}
use Rattle.sync_syntax.specs.declared.tree.Named.{Named}
use Rattle.sync_syntax.specs.declared.tree.Declares.{Declares}
use Rattle.sync_syntax.specs.declared.tree.Declaration.{Declaration}
use Rattle.sync_syntax.specs.declared.tree.Simple.{Simple}
use Rattle.sync_syntax.specs.declared.tree.Simple.TheVariants as simples
use Rattle.sync_syntax.specs.declared.tree.Start.{Start}
use Rattle.sync_syntax.specs.declared.tree.Start.TheVariants as starts
use Rattle.sync_syntax.specs.declared.tree.Statement.{Statement}
use Rattle.sync_syntax.specs.declared.tree.Statement.TheVariants as s
use Rattle.sync_syntax.specs.declared.tree.Program.{Program}
use Rattle.sync_syntax.specs.Reading.{Rule, Outcome, ◌>>=◌, ◌>>◌, ◌<$>◌, pure_rule, refuse, take, here, kind, second, place, sees, eat, eat_word, expect, expect_word, name_rule, turns, separated, too_deep}
use Rattle.sync_syntax.specs.Operators.{declares_by, writing_by, is_name_kind}
use Rattle.sync_syntax.specs.Expressions.{nested}

-- a name with its place
unfoldable pub named_rule : Rule Named
named_rule = do
  p ← here
  n ← name_rule
  pure_rule (record { place = p; name = n })

-- a `;`, which may be absent directly before a `}`
unfoldable pub statement_end : Rule (Unit {0})
statement_end = λ ts. if sees signs.BraceClose ts then Ok (tt, ts) else expect signs.Semicolon ts

-- the last token is the end of the text
abbrev pub end_by : Kind → Rule (Unit {0})
end_by kinds.End = pure_rule tt
end_by _ = refuse

unfoldable pub end : Rule (Unit {0})
end = λ ts. end_by (kind ts) ts

-- The argument says how much more may be open behind a statement that is open.
module _ (room : ℕ) where
  abbrev pub expr : Rule Expr
  expr = nested room false

  -- the value that a variable is declared with, if it is
  unfoldable pub given : Rule (Option Expr)
  given = do
    is_given ← eat signs.Assign
    if is_given then Some <$> expr else pure_rule None

  unfoldable pub declared_rule : Rule (Named × Option Expr)
  declared_rule = do
    n ← named_rule
    value ← given
    pure_rule (n, value)

  abbrev pub more_declared : Rule (List (Named × Option Expr))
  more_declared = separated declared_rule

  -- a declaration behind its first name
  unfoldable pub declaration : Place → Declares → Named → Rule Declaration
  declaration p how n = do
    value ← given
    more ← eat signs.Comma
    if more then (λ others. record { place = p; declares = how; names = (n, value) ∷ others }) <$> more_declared else pure_rule (record { place = p; declares = how; names = (n, value) ∷ [] })

  -- what is done to a variable, behind its name
  abbrev pub written_rule : Writing → Named → Rule Simple
  written_rule (writing.Sets how) n = simples.Write n how <$> expr
  written_rule writing.Increments n = pure_rule (simples.Increment n)
  written_rule writing.Decrements n = pure_rule (simples.Decrement n)

  unfoldable pub write : Writing → Rule Simple
  write how = do
    n ← named_rule
    take
    written_rule how n

  unfoldable pub value_rule : Rule Simple
  value_rule = do
    p ← here
    simples.Value p <$> expr

  abbrev pub write_or_value : Option Writing → Rule Simple
  write_or_value None = value_rule
  write_or_value (Some how) = write how

  unfoldable pub simple_rule : Rule Simple
  simple_rule = λ ts. if is_name_kind (kind ts) then write_or_value (writing_by (second ts)) ts else value_rule ts

  -- an expression, unless this stands in its place
  unfoldable pub expr_unless : Sign → Rule (Option Expr)
  expr_unless close = λ ts. if sees close ts then Ok (None, ts) else (Some <$> expr) ts

  unfoldable pub simple_unless : Sign → Rule (Option Simple)
  simple_unless close = λ ts. if sees close ts then Ok (None, ts) else (Some <$> simple_rule) ts

  unfoldable pub returned_rule : Rule (Option Expr)
  returned_rule = λ ts. if sees signs.BraceClose ts then Ok (None, ts) else expr_unless signs.Semicolon ts

  unfoldable pub return_at : Place → Rule Statement
  return_at p = do
    take
    found ← returned_rule
    statement_end
    pure_rule (s.Return p found)

  unfoldable pub throw_rule : Place → Rule Statement
  throw_rule p = do
    take
    found ← expr
    statement_end
    pure_rule (s.Throw p found)

  unfoldable pub declare_rule : Place → Declares → Rule Statement
  declare_rule p how = do
    take
    n ← named_rule
    found ← declaration p how n
    statement_end
    pure_rule (s.Declare found)

  unfoldable pub only_simple : Rule Statement
  only_simple = do
    found ← simple_rule
    statement_end
    pure_rule (s.Simple found)

  abbrev pub declare_or_simple : Place → Option Declares → Rule Statement
  declare_or_simple p None = only_simple
  declare_or_simple p (Some how) = declare_rule p how

  unfoldable pub plain_rule : Place → Rule Statement
  plain_rule p = λ ts. declare_or_simple p (declares_by (kind ts)) ts

-- `break` or `continue`, which stand in a loop
unfoldable pub jump_rule : Bool → Rule (Unit {0})
jump_rule in_loop = if in_loop then (take >> statement_end) else refuse

-- The second argument reads a statement inside; it is given whether that stands in a loop.
module _ (room : ℕ) (inner : Bool → Rule Statement) where
  -- statements up to a `}`
  unfoldable pub block_from : Bool → ℕ → List Statement → Rule (List Statement)
  block_from in_loop zero found = refuse
  block_from in_loop (suc n) found = do
    is_closed ← eat signs.BraceClose
    if is_closed then pure_rule found else (do x ← inner in_loop; block_from in_loop n (found ++ x ∷ []))

  unfoldable pub block_rule : Bool → Rule (List Statement)
  block_rule in_loop = λ ts. block_from in_loop (turns ts) [] ts

  -- an `else` belongs to the nearest `if`
  unfoldable pub else_rule : Bool → Rule (Option Statement)
  else_rule in_loop = do
    has_other ← eat_word words.Else
    if has_other then Some <$> inner in_loop else pure_rule None

  unfoldable pub if_rule : Place → Bool → Rule Statement
  if_rule p in_loop = do
    take
    expect signs.ParenOpen
    condition ← expr room
    expect signs.ParenClose
    first ← inner in_loop
    s.If p condition first <$> else_rule in_loop

  -- a `for` behind what it begins with
  unfoldable pub repeat : Place → Option Start → Rule Statement
  repeat p begins = do
    expect signs.Semicolon
    condition ← expr_unless room signs.Semicolon
    expect signs.Semicolon
    last ← simple_unless room signs.ParenClose
    expect signs.ParenClose
    body ← inner true
    pure_rule (s.For p begins condition last body)

  -- a `for` behind `of`
  unfoldable pub each_rule : Place → Declares → Named → Rule Statement
  each_rule p how n = do
    items ← expr room
    expect signs.ParenClose
    body ← inner true
    pure_rule (s.ForOf p how n items body)

  unfoldable pub for_declared : Place → Declares → Rule Statement
  for_declared p how = do
    q ← here
    take
    n ← named_rule
    is_each ← eat_word words.Of
    if is_each then each_rule p how n else (do found ← declaration room q how n; repeat p (Some (starts.Declare found)))

  unfoldable pub for_simple : Place → Rule Statement
  for_simple p = λ ts. if sees signs.Semicolon ts then repeat p None ts else (do found ← simple_rule room; repeat p (Some (starts.Simple found))) ts

  abbrev pub for_by : Place → Option Declares → Rule Statement
  for_by p None = for_simple p
  for_by p (Some how) = for_declared p how

  unfoldable pub for_at : Place → Rule Statement
  for_at p = do
    take
    expect signs.ParenOpen
    (λ ts. for_by p (declares_by (kind ts)) ts)

  abbrev pub statement_by_word : Place → Bool → Word → Rule Statement
  statement_by_word p in_loop words.If = if_rule p in_loop
  statement_by_word p in_loop words.For = for_at p
  statement_by_word p in_loop words.Return = return_at room p
  statement_by_word p in_loop words.Throw = throw_rule room p
  statement_by_word p in_loop words.Break = jump_rule in_loop >> pure_rule (s.Break p)
  statement_by_word p in_loop words.Continue = jump_rule in_loop >> pure_rule (s.Continue p)
  statement_by_word p in_loop _ = plain_rule room p

  abbrev pub statement_by_sign : Place → Bool → Sign → Rule Statement
  statement_by_sign p in_loop signs.BraceOpen = take >> s.Block p <$> block_rule in_loop
  statement_by_sign p in_loop signs.Semicolon = take >> pure_rule (s.Empty p)
  statement_by_sign p in_loop _ = plain_rule room p

  abbrev pub statement_by : Place → Bool → Kind → Rule Statement
  statement_by p in_loop (kinds.Word w) = statement_by_word p in_loop w
  statement_by p in_loop (kinds.Sign g) = statement_by_sign p in_loop g
  statement_by p in_loop _ = plain_rule room p

  unfoldable pub statement_rule : Bool → Rule Statement
  statement_rule in_loop = λ ts. statement_by (place ts) in_loop (kind ts) ts

-- a statement, where so much may be open
unfoldable pub statement : ℕ → Bool → Rule Statement
statement zero in_loop = λ ts. Err (too_deep ts)
statement (suc room) in_loop = statement_rule room (statement room) in_loop

-- ---- programs

-- the same where so much more may be open
abbrev pub block_in : ℕ → Bool → Rule (List Statement)
block_in room = block_rule room (statement room)

abbrev pub else_rule_in : ℕ → Bool → Rule (Option Statement)
else_rule_in room = else_rule room (statement room)

abbrev pub if_rule_in : ℕ → Place → Bool → Rule Statement
if_rule_in room = if_rule room (statement room)

abbrev pub repeat_in : ℕ → Place → Option Start → Rule Statement
repeat_in room = repeat room (statement room)

abbrev pub each_in : ℕ → Place → Declares → Named → Rule Statement
each_in room = each_rule room (statement room)

abbrev pub for_declared_in : ℕ → Place → Declares → Rule Statement
for_declared_in room = for_declared room (statement room)

abbrev pub for_simple_in : ℕ → Place → Rule Statement
for_simple_in room = for_simple room (statement room)

abbrev pub for_in : ℕ → Place → Rule Statement
for_in room = for_at room (statement room)

abbrev pub word_in : ℕ → Place → Bool → Word → Rule Statement
word_in room = statement_by_word room (statement room)

abbrev pub statement_rule_in : ℕ → Bool → Rule Statement
statement_rule_in room = statement_rule room (statement room)

-- The body of a program is open, and so much more may be.
abbrev pub body_room : ℕ
body_room = 99

-- the body, and the end of the text behind it
unfoldable pub function_body : Rule (List Statement)
function_body = do
  expect signs.BraceOpen
  found ← block_in body_room false
  _ ← eat signs.Semicolon
  end
  pure_rule found

abbrev pub own_name_by : Kind → Rule (Option (List ℕ))
own_name_by (kinds.Name n) = Some <$> name_rule
own_name_by _ = pure_rule None

unfoldable pub own_name : Rule (Option (List ℕ))
own_name = λ ts. own_name_by (kind ts) ts

unfoldable pub second_parameter : Rule (Option Named)
second_parameter = do
  has_second ← eat signs.Comma
  if has_second then Some <$> named_rule else pure_rule None

-- what stands before the body
unfoldable pub head : Rule (Option (List ℕ) × Named × Option Named)
head = do
  expect_word words.Function
  own ← own_name
  expect signs.ParenOpen
  first ← named_rule
  other ← second_parameter
  expect signs.ParenClose
  pure_rule (own, first, other)

unfoldable pub program : Rule Program
program = do
  h ← head
  p ← here
  found ← function_body
  pure_rule (record { name = h.0; first = h.1; second = h.2; place = p; body = found })

-- ---- texts

abbrev pub max_len : ℕ
max_len = 65536

abbrev pub whole_program : Outcome Program → Result Program ParseFault
whole_program (Ok p) = Ok p.0
whole_program (Err e) = Err e

-- the program that a text is, or its first fault in the order of the text
unfoldable pub parsed : List ℕ → Result Program ParseFault
parsed text = if nat_lt max_len (length text) then Err (Bad (record { place = first_place; why = TooLong })) else whole_program (program (tokens_of text))

-- what a function that gives this ensures, unless memory fails
abbrev pub GivesParsed : {A : Type 0} → Result A ParseFault → Result A ParseFault → Type 0
GivesParsed found (Ok a) = found ≡ Ok a
GivesParsed found (Err e) = e ≢ Memory → found ≡ Err e
