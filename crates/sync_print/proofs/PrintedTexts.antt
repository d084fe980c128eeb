-- The printed text of a program that a text is, and what it is read as.
use Rattle.std.proofs.Common.{◌≡◌, ℕ, ◌+◌, ◌^◌, ◌<◌, ◌≤◌, Bool, true, false, List, [], ◌∷◌, ◌++◌, length, Result, Ok, Err, OnOk, refl, sym, subst, arith}
use Rattle.std.specs.Prelude.{IsUtf8, codes, decimal, flat_map, chars, ◌==◌}
use Rattle.std.proofs.lemmas.Fmt.{IsAscii-decimal}
use Rattle.std.proofs.lemmas.Str.{IsUtf8-append, IsUtf8-encode, IsUtf8-from_ascii, IsUtf8-nil, scalars-chars}
use lib.Utf8.{scalar, scalars}
use Rattle.sync_tokens.specs.Scan.{tokens_of}
use Rattle.sync_tokens.specs.Spellable.{IsSpellable, AreSpellable, AreTokens, TextsHaveTokens}
use Rattle.sync_tokens.specs.declared.token.Kind.{Kind}
use Rattle.sync_tokens.specs.declared.token.Kind.TheVariants as kinds
use Rattle.sync_tokens.specs.declared.token.Token.{Token}
use Rattle.sync_tokens.specs.declared.token.Word.{Word}
use Rattle.sync_tokens.specs.declared.token.Word.TheVariants as words
use Rattle.sync_syntax.specs.declared.tree.Program.{Program}
use Rattle.sync_syntax.specs.Grammar.{IsProgram}
use Rattle.sync_syntax.specs.Laws.{ProgramsAreRead, GrammarIsUnambiguous, ReadIsProgram}
use Rattle.sync_syntax.specs.Statements.{max_len}
use Rattle.sync_syntax.specs.Texts.{HasText}
use Rattle.sync_print.specs.declared.printer.Last.{Last}
use Rattle.sync_print.specs.declared.printer.Last.TheVariants.{Opening}
use Rattle.sync_print.specs.Laws.{placeless, IsReadAlike, IsReadBack, PrintedIsReadBack, PrintedIsParsed}
use Rattle.sync_print.specs.Printing.{printed}
use Rattle.sync_print.specs.Spelling.{word_text, escaped, quoted, spelling, left_by, joins, gap}
use Rattle.sync_print.specs.Trees.{program}
use Rattle.sync_print.proofs.CutTokens.{text_from}
use Rattle.sync_print.proofs.CutTexts.{printed_text, printed_tokens}
use Rattle.sync_print.proofs.CutWords.{AllAscii, sign_ascii}
use Rattle.sync_print.proofs.ReadBack.{read_back}
use Rattle.sync_print.proofs.SpellsExpressions.{ascii_utf8, name_utf8}
use Rattle.sync_print.proofs.SpellsStatements.{program_spells}

-- ---- without the limits

record Back (p : Program) : Type 0 where
  tree : Program
  is : IsProgram (tokens_of (printed p)) tree
  same : placeless tree ≡ placeless p

back : (ts : List Token) (p : Program) → AreTokens ts → IsProgram ts p → length (printed p) + 2 < 2 ^ 64 → Back p
back ts p a d short =
    let r = read_back ts (tokens_of (printed p)) p d (printed_tokens p (program_spells d a) short) in record { tree = r.0; is = r.1; same = r.2 }

pub printed_is_read_back : TextsHaveTokens → PrintedIsReadBack
printed_is_read_back tokens text u p d short = let r = back (tokens_of text) p (tokens text u) d short in (r.tree, r.is, r.same)

-- ---- what is printed is UTF-8

word_ascii : (w : Word) → AllAscii (word_text w)
word_ascii words.Function = (refl, (refl, (refl, (refl, (refl, (refl, (refl, (refl, tt))))))))
word_ascii words.If = (refl, (refl, tt))
word_ascii words.Else = (refl, (refl, (refl, (refl, tt))))
word_ascii words.For = (refl, (refl, (refl, tt)))
word_ascii words.Var = (refl, (refl, (refl, tt)))
word_ascii words.Let = (refl, (refl, (refl, tt)))
word_ascii words.Const = (refl, (refl, (refl, (refl, (refl, tt)))))
word_ascii words.Of = (refl, (refl, tt))
word_ascii words.Return = (refl, (refl, (refl, (refl, (refl, (refl, tt))))))
word_ascii words.Throw = (refl, (refl, (refl, (refl, (refl, tt)))))
word_ascii words.Break = (refl, (refl, (refl, (refl, (refl, tt)))))
word_ascii words.Continue = (refl, (refl, (refl, (refl, (refl, (refl, (refl, (refl, tt))))))))
word_ascii words.Typeof = (refl, (refl, (refl, (refl, (refl, (refl, tt))))))
word_ascii words.True = (refl, (refl, (refl, (refl, tt))))
word_ascii words.False = (refl, (refl, (refl, (refl, (refl, tt)))))
word_ascii words.Null = (refl, (refl, (refl, (refl, tt))))
word_ascii words.Undefined = (refl, (refl, (refl, (refl, (refl, (refl, (refl, (refl, (refl, tt)))))))))
word_ascii words.Other = (refl, (refl, (refl, (refl, (refl, tt)))))

escaped_by : (a b d : Bool) (c : ℕ) → (c == 92) ≡ a → (c == 34) ≡ b → (c == 10) ≡ d → scalar c ≡ true → IsUtf8 (escaped c)
escaped_by true b d c p q r s = rw p (ascii_utf8 (codes "\\\\") (refl, (refl, tt)))
escaped_by false true d c p q r s = rw (p, q) (ascii_utf8 (codes "\\\"") (refl, (refl, tt)))
escaped_by false false true c p q r s = rw (p, q, r) (ascii_utf8 (codes "\\n") (refl, (refl, tt)))
escaped_by false false false c p q r s = rw (p, q, r) (IsUtf8-encode c s)

escaped_utf8 : (c : ℕ) → scalar c ≡ true → IsUtf8 (escaped c)
escaped_utf8 c s = escaped_by (c == 92) (c == 34) (c == 10) c refl refl refl s

scalar_first : (c : ℕ) (cs : List ℕ) → scalars (c ∷ cs) ≡ true → scalar c ≡ true
scalar_first c cs h = grind (arith, h)

scalar_rest : (c : ℕ) (cs : List ℕ) → scalars (c ∷ cs) ≡ true → scalars cs ≡ true
scalar_rest c cs h = grind (arith, h)

all_escaped : (cs : List ℕ) → scalars cs ≡ true → IsUtf8 (flat_map escaped cs)
all_escaped [] h = IsUtf8-nil
all_escaped (c ∷ cs) h = IsUtf8-append (escaped c) (flat_map escaped cs) (escaped_utf8 c (scalar_first c cs h)) (all_escaped cs (scalar_rest c cs h))

quote_utf8 : IsUtf8 (codes "\"")
quote_utf8 = ascii_utf8 (codes "\"") (refl, tt)

quoted_utf8 : (t : List ℕ) → IsUtf8 t → IsUtf8 (quoted t)
unfolding quoted
quoted_utf8 t u =
    IsUtf8-append (codes "\"") (flat_map escaped (chars t) ++ codes "\"") quote_utf8
    (IsUtf8-append (flat_map escaped (chars t)) (codes "\"") (all_escaped (chars t) (scalars-chars t u)) quote_utf8)

spelling_utf8 : (k : Kind) → IsSpellable k → IsUtf8 (spelling k)
spelling_utf8 (kinds.Name n) i = name_utf8 n i
spelling_utf8 (kinds.Integer n) h = IsUtf8-from_ascii (decimal n) (IsAscii-decimal n (omega (arith, h)))
spelling_utf8 (kinds.Text t) u = quoted_utf8 t u
spelling_utf8 (kinds.Word w) u = ascii_utf8 (word_text w) (word_ascii w)
spelling_utf8 (kinds.Sign s) u = ascii_utf8 _ (sign_ascii s)
spelling_utf8 kinds.End u = absurd u
spelling_utf8 (kinds.Bad why) u = absurd u

gap_utf8 : (b : Bool) → IsUtf8 (gap b)
gap_utf8 true = IsUtf8-nil
gap_utf8 false = ascii_utf8 (codes " ") (refl, tt)

text_utf8 : (ks : List Kind) → AreSpellable ks → (last : Last) → IsUtf8 (text_from last ks)
text_utf8 [] a last = IsUtf8-nil
text_utf8 (k ∷ ks) a last =
    IsUtf8-append (gap (joins last k)) (spelling k ++ text_from (left_by k) ks) (gap_utf8 (joins last k))
    (IsUtf8-append (spelling k) (text_from (left_by k) ks) (spelling_utf8 k a.0) (text_utf8 ks a.1 (left_by k)))

printed_utf8 : (p : Program) → AreSpellable (program p) → IsUtf8 (printed p)
printed_utf8 p a = subst IsUtf8 (sym (printed_text p)) (text_utf8 (program p) a Opening)

-- ---- within the limits

pub printed_is_parsed : TextsHaveTokens → ProgramsAreRead → GrammarIsUnambiguous → ReadIsProgram → PrintedIsParsed
printed_is_parsed tokens read unambiguous sound text u p d short =
    let a : AreTokens (tokens_of text) = tokens text u in
    let fits : length (printed p) + 2 < 2 ^ 64 = omega (arith, short) in
    let r : Back p = back (tokens_of text) p a d fits in
    let v : IsUtf8 (printed p) = printed_utf8 p (program_spells d a) in
    record {
      tree = r.tree;
      same = r.same;
      is = r.is;
      read = λ low. read (printed p) v short r.tree r.is low;
      alone = λ q h. unambiguous (printed p) v q r.tree (sound (printed p) q h) r.is;
    }

-- ---- what a text is

pub read_alike : PrintedIsReadBack → (p q : Program) (t : List ℕ) → HasText q → q ≡ p → t ≡ printed q → length t + 2 < 2 ^ 64 → IsReadAlike p
read_alike law p q t h same is short =
    subst IsReadAlike same (law h.text h.utf8 q h.is (subst (λ (z : List ℕ). length z + 2 < 2 ^ 64) is short))

pub back_within : PrintedIsParsed → (p q : Program) → HasText q → q ≡ p → length (printed p) ≤ max_len → IsReadBack p
back_within law p q h same = subst (λ r. length (printed r) ≤ max_len → IsReadBack r) same (law h.text h.utf8 q h.is)

pub on_ok : {A E P : Type 0} (r : Result A E) → P → OnOk r P
on_ok (Ok a) p = p
on_ok (Err e) p = tt
