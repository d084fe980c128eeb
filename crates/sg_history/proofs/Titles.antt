-- the first lines of journals
use Rattle.std.proofs.Common.{◌≡◌, ◌≢◌, ℕ, ◌<◌, ◌^◌, true, false, List, [], ◌∷◌, ◌++◌, ◌-◌, drop, take, length, length-append, get_or, refl, sym, ap, ◌∙◌, subst, arith, inl, inr, codes, decimal, IsUtf8, MatchOption, IfNone, IfSome, Option, Some, None, Bor, ◌+◌, append_assoc}
use Rattle.std.specs.Prelude.{nat_le}
use Rattle.std.proofs.lemmas.Bool.{and_parts, leb-true, cases_Bool, false≢true}
use Rattle.std.specs.Str.{bytes_eq}
use Rattle.std.specs.Cmp.Lexicographic.{bytes_decides}
use Rattle.std.proofs.lemmas.Fmt.{IsAscii-decimal, decimal_injective}
use Rattle.std.proofs.lemmas.Str.{IsUtf8-from_ascii}
use Rattle.std.proofs.lemmas.List.{take-append-drop}
use Rattle.std.proofs.lemmas.List.Folds.{list_all-append}
use Rattle.std.proofs.Math.Seq.{drop-append_seam}
use Rattle.std.specs.Prelude.{nat_eq, not}
use Rattle.sg_names.proofs.PlainTexts.{plain_decimal, plain_lacks}
use Rattle.sg_names.specs.Grammar.{lacks}
use Rattle.sg_history.specs.declared.fault.Why.TheVariants as reason
use Rattle.sg_history.specs.BadLine.{IsBadJournal, IsTitle, journal_lines}
use Rattle.sg_history.specs.Files.{IsBadAmong}
use Rattle.sg_history.specs.Journal.{header_of, is_limit, title_of}
use Rattle.sg_history.specs.Pieces.{pieces}
use Rattle.sg_history.proofs.DecidedTexts.{Decided, number_below, same_text}
use Rattle.sg_history.proofs.PieceLemmas.{pieces-some}
use Rattle.sg_history.proofs.ReadLines.{other_title}

limit_small : (n : ℕ) → is_limit (Some n) ≡ true → n < 2 ^ 64
limit_small n h = omega (arith, leb-true n 1000 (and_parts (nat_le 20 n) (nat_le n 1000) h).1)

-- a first line has no line feed
pub title_whole : (limit : Option ℕ) → is_limit limit ≡ true → lacks 10 (title_of limit) ≡ true
title_whole None h = refl
title_whole (Some n) h =
    let rest : lacks 10 (decimal n) ≡ true = plain_lacks 10 (decimal n) (omega arith) (plain_decimal n (limit_small n h)) in
    list_all-append (λ b. not (nat_eq b 10)) (codes "sgjournal 2 ") (decimal n) ∙ rest

behind_same : (front a b : List ℕ) → front ++ a ≡ front ++ b → a ≡ b
behind_same [] a b e = e
behind_same (x ∷ front) a b e = behind_same front a b (cc)

limits_same : (n m : ℕ) → is_limit (Some n) ≡ true → is_limit (Some m) ≡ true → title_of (Some n) ≡ title_of (Some m) → n ≡ m
limits_same n m h g e =
    decimal_injective n m (limit_small n h) (limit_small m g) (behind_same (codes "sgjournal 2 ") (decimal n) (decimal m) e)

other_version : (n : ℕ) → codes "sgjournal 1" ≢ title_of (Some n)
other_version n e = omega (arith, ap (λ (l : List ℕ). get_or l 10 0) e)

-- a first line says one limit
pub title_one : (a b : Option ℕ) → is_limit a ≡ true → is_limit b ≡ true → title_of a ≡ title_of b → a ≡ b
title_one None None h g e = refl
title_one None (Some m) h g e = absurd (other_version m e)
title_one (Some n) None h g e = absurd (other_version n (sym e))
title_one (Some n) (Some m) h g e = ap Some (limits_same n m h g e)

title_by : (line : List ℕ) (limit : Option ℕ) → line ≢ codes "sgjournal 1" → ((n : ℕ) → is_limit (Some n) ≡ true → line ≢ title_of (Some n))
    → is_limit limit ≡ true → line ≢ title_of limit
title_by line None plain none h = plain
title_by line (Some n) plain none h = none n h

-- a line without the words of a first line
pub no_words : (line : List ℕ) → line ≢ codes "sgjournal 1" → ((rest : List ℕ) → line ≢ codes "sgjournal 2 " ++ rest) → ¬ (IsTitle line)
no_words line plain none title = title_by line title.0 plain (λ n h e. none (decimal n) e) title.1 title.2

-- a line with the words of a first line, and no limit behind them
pub no_limit : (line rest : List ℕ) → line ≢ codes "sgjournal 1" → line ≡ codes "sgjournal 2 " ++ rest
    → ((n : ℕ) → is_limit (Some n) ≡ true → rest ≢ decimal n) → ¬ (IsTitle line)
no_limit line rest plain is none title =
    title_by line title.0 plain (λ n h e. none n h (behind_same (codes "sgjournal 2 ") rest (decimal n) (sym is ∙ e))) title.1 title.2

-- a line is a first line, or it is not
pub title_decided : (line : List ℕ) → Decided (IsTitle line)
title_decided line = elim (same_text line (codes "sgjournal 1")) [
  | inl is ↦ inl (None, refl, is)
  | inr plain ↦ elim (number_below (2 ^ 64) (drop 12 line) (omega arith)) [
    | inr none ↦ inr (λ title. title_by line title.0 plain (λ n h e. none n (limit_small n h) (ap (drop 12) e)) title.1 title.2)
    | inl found ↦ elim (same_text line (title_of (Some found.0))) [
      | inr other ↦ inr (λ title. title_by line title.0 plain (λ n h e. other (e ∙ ap (λ (m : ℕ). title_of (Some m)) (same n found.0 h found.1 found.2 e))) title.1 title.2)
      | inl is ↦ elim (cases_Bool (is_limit (Some found.0))) [
        | inl fits ↦ inl (Some found.0, fits, is)
        | inr large ↦
            inr (λ title. title_by line title.0 plain
            (λ n h e. false≢true (sym large ∙ ap (λ (m : ℕ). is_limit (Some m)) (sym (same n found.0 h found.1 found.2 e)) ∙ h)) title.1 title.2)
      ]
    ]
  ]
]
  where
    same : (n m : ℕ) → is_limit (Some n) ≡ true → m < 2 ^ 64 → drop 12 line ≡ decimal m → line ≡ title_of (Some n) → n ≡ m
    same n m h small spelled e = decimal_injective n m (limit_small n h) small (sym (ap (drop 12) e) ∙ spelled)

-- what is left of a text without its first line
pub header_taken : (bytes lines taken header : List ℕ) (n : ℕ) → bytes ≡ header ++ lines → n ≡ length bytes - length lines → taken ≡ drop n bytes
    → bytes ≡ header ++ taken
header_taken bytes lines taken header n is passed left =
    let long : n ≡ length header = omega (arith, passed, ap length is, length-append header lines) in
    let behind : taken ≡ lines = left ∙ ap (drop n) is ∙ ap (λ (m : ℕ). drop m (header ++ lines)) long ∙ drop-append_seam header lines in
    is ∙ ap (λ (l : List ℕ). header ++ l) (sym behind)

-- the words of a first line, and what stands behind them
pub words_cut : (line words rest : List ℕ) → bytes_eq (take (length words) line) words ≡ true → rest ≡ drop (length words) line → line ≡ words ++ rest
words_cut line words rest same left =
    sym (take-append-drop (length words) line) ∙ ap (λ (l : List ℕ). l ++ drop (length words) line) ((bytes_decides (take (length words) line) words).0 same)
    ∙ ap (λ (l : List ℕ). words ++ l) (sym left)

take_front : (xs ys : List ℕ) → take (length xs) (xs ++ ys) ≡ xs
take_front [] ys = refl
take_front (x ∷ xs) ys = ap (λ (l : List ℕ). x ∷ l) (take_front xs ys)

pub no_cut : (line words : List ℕ) → bytes_eq (take (length words) line) words ≡ false → (rest : List ℕ) → line ≢ words ++ rest
no_cut line words other rest e =
    false≢true (sym other ∙ (bytes_decides (take (length words) line) words).1 (ap (take (length words)) e ∙ take_front words rest))

-- a text that is no text is no decimal
pub no_decimal : (text : List ℕ) → ¬ (IsUtf8 text) → (n : ℕ) → is_limit (Some n) ≡ true → text ≢ decimal n
no_decimal text none n h e = none (subst IsUtf8 (sym e) (IsUtf8-from_ascii (decimal n) (IsAscii-decimal n (limit_small n h))))

pub limit_of : (text : List ℕ) → ((n : ℕ) → n < 2 ^ 64 → text ≢ decimal n) → (n : ℕ) → is_limit (Some n) ≡ true → text ≢ decimal n
limit_of text none n h = none n (limit_small n h)

-- a number outside the range is no limit
pub no_range : (text : List ℕ) (found : ℕ) → found < 2 ^ 64 → text ≡ decimal found → is_limit (Some found) ≡ false → (n : ℕ) → is_limit (Some n) ≡ true → text ≢ decimal n
no_range text found small is outside n h e =
    let same : found ≡ n = decimal_injective found n small (limit_small n h) (sym is ∙ e) in
    false≢true (sym outside ∙ ap (λ (m : ℕ). is_limit (Some m)) same ∙ h)

-- what a search of the words answers
pub words_some : (r : Option (Bor (List ℕ))) (line words : List ℕ)
    → MatchOption r (bytes_eq (take (length words) line) words ≡ false)
    (λ x. (bytes_eq (take (length words) line) words ≡ true) × (x.now ≡ drop (length words) line) × (length x.now + length words ≡ length line))
    → IfSome r (λ x. line ≡ words ++ x.now)
words_some None line words cases = tt
words_some (Some x) line words cases = words_cut line words x.now cases.0 cases.1

pub words_none : (r : Option (Bor (List ℕ))) (line words : List ℕ)
    → MatchOption r (bytes_eq (take (length words) line) words ≡ false)
    (λ x. (bytes_eq (take (length words) line) words ≡ true) × (x.now ≡ drop (length words) line) × (length x.now + length words ≡ length line))
    → IfNone r ((rest : List ℕ) → line ≢ words ++ rest)
words_none None line words cases = no_cut line words cases
words_none (Some x) line words cases = tt

-- a first line without its line feed
pub title_ended : (line : List ℕ) (limit : Option ℕ) → pieces 10 line ≡ line ∷ [] → is_limit limit ≡ true → line ≡ title_of limit
    → IsBadJournal line (record { place = 1; why = reason.Ending })
title_ended line limit cut fits is =
    subst (λ (ls : List (List ℕ)). IsBadAmong journal_lines ls (record { place = 1; why = reason.Ending })) (sym cut) (refl, inl (refl, (limit, fits, is)))

-- another line without its line feed
pub title_other : (line : List ℕ) → pieces 10 line ≡ line ∷ [] → ¬ (IsTitle line) → IsBadJournal line (record { place = 1; why = reason.Head })
title_other line cut none =
    subst (λ (ls : List (List ℕ)). IsBadAmong journal_lines ls (record { place = 1; why = reason.Head })) (sym cut) (refl, inr (refl, none))

-- another first line before others
pub head_other : (bytes first lines : List ℕ) → pieces 10 bytes ≡ first ∷ pieces 10 lines → ¬ (IsTitle first) → IsBadJournal bytes (record { place = 1; why = reason.Head })
head_other bytes first lines cut none = other_title journal_lines bytes first (pieces 10 lines) cut (pieces-some 10 lines) none

-- a first line before others
pub header_is : (bytes line lines : List ℕ) (limit : Option ℕ) → bytes ≡ line ++ 10 ∷ lines → line ≡ title_of limit → bytes ≡ header_of limit ++ lines
header_is bytes line lines limit cut is =
    cut ∙ ap (λ (l : List ℕ). l ++ 10 ∷ lines) is ∙ sym (append_assoc (title_of limit) (10 ∷ []) lines)
