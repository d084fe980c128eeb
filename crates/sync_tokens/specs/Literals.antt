-- Integers and texts in quotes.
use Rattle.std.specs.Prelude.{ℕ, ◌+◌, ◌-◌, ◌*◌, ◌%◌, ◌==◌, nat_le, nat_lt, min, Bool, false, ◌||◌, List, [], ◌∷◌, ◌++◌, fold, encode_utf8, Option, Some, None, if◌then◌else◌}
use Rattle.std.specs.Char.{is_ascii_digit, digit_value}
use lib.Utf8.{scalar}
use Rattle.sync_tokens.specs.declared.place.SyntaxWhy.TheVariants.{Range}
use Rattle.sync_tokens.specs.declared.token.Kind.{Kind}
use Rattle.sync_tokens.specs.declared.token.Kind.TheVariants as kinds
use Rattle.sync_tokens.specs.declared.literal.Inside.{Inside}
use Rattle.sync_tokens.specs.declared.literal.Inside.TheVariants.{Plain, Escape, Digits}
use Rattle.sync_tokens.specs.declared.literal.Step.{Step}
use Rattle.sync_tokens.specs.declared.literal.Step.TheVariants.{Goes, Gives, Closes, Fails}

-- ---- integers

abbrev pub max_integer : ℕ
max_integer = 9007199254740991

-- how many digits there are before the first character that is none
abbrev pub digits_len : List ℕ → ℕ
digits_len [] = 0
digits_len (c ∷ cs) = if is_ascii_digit c then 1 + digits_len cs else 0

-- the value of a digit, and 0 for any other character
abbrev pub digit : ℕ → ℕ
digit c = if nat_lt (digit_value c) 10 then digit_value c else 0

-- the number that digits write, or one above the greatest integer where it is above that
abbrev pub number : List ℕ → ℕ
number = fold (λ n c. min (10 * n + digit c) (max_integer + 1)) 0

-- whether a zero begins more than one digit
abbrev pub has_leading_zero : List ℕ → Bool
has_leading_zero [] = false
has_leading_zero (c ∷ []) = false
has_leading_zero (c ∷ d ∷ cs) = c == 48

-- a decimal without leading zeros up to the greatest integer
abbrev pub integer_kind : List ℕ → Kind
integer_kind digits = if has_leading_zero digits || nat_lt max_integer (number digits) then kinds.Bad Range else kinds.Integer (number digits)

-- ---- texts

-- the quote closes, a line feed may not stand in a text, and each other character but the backslash stands for itself
abbrev pub plain_step : ℕ → ℕ → Step
plain_step quote c = if c == quote then Closes else (if c == 10 then Fails else (if c == 92 then Goes Escape else Gives c))

-- `\\`, `\'`, `\"`, `\n`, `\t`, `\r` and `\uXXXX`
abbrev pub escape_step : ℕ → Step
escape_step c =
    if c == 92 || c == 39 || c == 34 then Gives c
    else (if c == 110 then Gives 10 else (if c == 116 then Gives 9 else (if c == 114 then Gives 13 else (if c == 117 then Goes (Digits 4 0) else Fails))))

-- a surrogate is no character
abbrev pub coded : ℕ → Step
coded code = if scalar code then Gives code else Fails

-- a hexadecimal digit of either case; behind the last one stands the character
abbrev pub digits_step : ℕ → ℕ → ℕ → Step
digits_step left code c =
    if nat_lt (digit_value c) 16 then (let more = code % 4096 * 16 + digit_value c in if nat_le left 1 then coded more else Goes (Digits (left - 1) more))
    else Fails

unfoldable pub text_step : ℕ → Inside → ℕ → Step
text_step quote Plain c = plain_step quote c
text_step quote Escape c = escape_step c
text_step quote (Digits left code) c = digits_step left code c

-- what a step does to the text so far, which the rest is read behind
abbrev pub after_step : Step → List ℕ → ℕ → (Inside → List ℕ → Option (List ℕ × ℕ)) → Option (List ℕ × ℕ)
after_step (Goes inside) text count rest = rest inside text
after_step (Gives c) text count rest = rest Plain (text ++ encode_utf8 c)
after_step Closes text count rest = Some (text, count + 1)
after_step Fails text count rest = None

-- a text that goes on with these characters, with what stands before them and how many of them there are
abbrev pub text_from : ℕ → Inside → List ℕ → ℕ → List ℕ → Option (List ℕ × ℕ)
text_from quote inside text count [] = None
text_from quote inside text count (c ∷ cs) =
    after_step (text_step quote inside c) text count (λ next longer. text_from quote next longer (count + 1) cs)

-- what a text behind its opening quote stands for, and how many characters it has with the quote that closes it
abbrev pub literal_at : ℕ → List ℕ → Option (List ℕ × ℕ)
literal_at quote = text_from quote Plain [] 0
