-- A whole text that is printed is cut into the tokens that it was printed from.
use Rattle.std.proofs.Common.{◌≡◌, ◌≢◌, ℕ, suc, ◌+◌, ◌^◌, ◌<◌, ◌≤◌, Bool, true, false, if◌then◌else◌, ◌⊎◌, inl, inr, List, [], ◌∷◌, ◌++◌, length, Option, Some, None, refl, sym, subst, ap, ◌∙◌, append_assoc, append-nil, length-append, eqb-true, arith}
use Rattle.std.specs.Str.{chars}
use Rattle.std.specs.Prelude.{codes, decimal, encode_utf8, flat_map, IsUtf8, ◌==◌}
use Rattle.std.proofs.lemmas.Str.{chars-nil, chars-append, chars-encodes, scalars-chars, encodes-chars, length-encode, len_utf8_bounds}
use lib.Utf8.{scalars}
use Rattle.sync_tokens.specs.declared.place.Place.{Place}
use Rattle.sync_tokens.specs.Literals.{max_integer, plain_step, text_step, text_from, literal_at}
use Rattle.sync_tokens.specs.Places.{first_place, step}
use Rattle.sync_tokens.specs.Scan.{piece_at, integer_by, plus, tokens_of}
use Rattle.sync_tokens.specs.Words.{is_letter, utf8, reserved}
use Rattle.sync_tokens.specs.declared.token.Kind.{Kind}
use Rattle.sync_tokens.specs.declared.token.Kind.TheVariants as kinds
use Rattle.sync_tokens.specs.declared.token.Sign.{Sign}
use Rattle.sync_tokens.specs.declared.token.Sign.TheVariants as signs
use Rattle.sync_tokens.specs.declared.token.Word.{Word}
use Rattle.sync_tokens.specs.declared.token.Word.TheVariants as words
use Rattle.sync_print.specs.declared.printer.Last.{Last}
use Rattle.sync_print.specs.declared.printer.Last.TheVariants.{Opening, Callable, Other}
use Rattle.sync_print.specs.Spelling.{sign_text, word_text, escaped, quoted, spelling, left_by_sign, left_by, joins, gap}
use Rattle.sync_print.specs.Laws.{kinds_of}
use Rattle.sync_print.specs.Printing.{printed, nothing}
use Rattle.sync_tokens.specs.Spellable.{AllParts, IsIdentifier, IsSpellable, AreSpellable}
use Rattle.sync_print.specs.Trees.{program}
use Rattle.sync_syntax.specs.declared.tree.Program.{Program}
use Rattle.sync_print.proofs.CutTokens as x
use Rattle.sync_print.proofs.CutTokens.{Stops, Next, kinds_at, next_name, next_integer, next_text, next_sign, next_word, sign_piece, opening_piece}
use Rattle.sync_print.proofs.CutWords.{AllAscii, ascii_first, chars_ascii, sign_ascii, parts_ascii, letter_part, name_piece, keyword_piece, IntegerText, integer_text}

-- ---- words

record WordText (w : Word) : Type 0 where
  first : ℕ
  rest : List ℕ
  is : word_text w ≡ first ∷ rest
  letter : is_letter first ≡ true
  parts : AllParts rest
  reserves : reserved (first ∷ rest) ≡ Some w

word_spelled : (w : Word) → WordText w
unfolding reserved
word_spelled words.Function = record { first = 102; rest = codes "unction"; is = refl; letter = refl; parts = (refl, (refl, (refl, (refl, (refl, (refl, (refl, tt))))))); reserves = refl }
word_spelled words.If = record { first = 105; rest = codes "f"; is = refl; letter = refl; parts = (refl, tt); reserves = refl }
word_spelled words.Else = record { first = 101; rest = codes "lse"; is = refl; letter = refl; parts = (refl, (refl, (refl, tt))); reserves = refl }
word_spelled words.For = record { first = 102; rest = codes "or"; is = refl; letter = refl; parts = (refl, (refl, tt)); reserves = refl }
word_spelled words.Var = record { first = 118; rest = codes "ar"; is = refl; letter = refl; parts = (refl, (refl, tt)); reserves = refl }
word_spelled words.Let = record { first = 108; rest = codes "et"; is = refl; letter = refl; parts = (refl, (refl, tt)); reserves = refl }
word_spelled words.Const = record { first = 99; rest = codes "onst"; is = refl; letter = refl; parts = (refl, (refl, (refl, (refl, tt)))); reserves = refl }
word_spelled words.Of = record { first = 111; rest = codes "f"; is = refl; letter = refl; parts = (refl, tt); reserves = refl }
word_spelled words.Return = record { first = 114; rest = codes "eturn"; is = refl; letter = refl; parts = (refl, (refl, (refl, (refl, (refl, tt))))); reserves = refl }
word_spelled words.Throw = record { first = 116; rest = codes "hrow"; is = refl; letter = refl; parts = (refl, (refl, (refl, (refl, tt)))); reserves = refl }
word_spelled words.Break = record { first = 98; rest = codes "reak"; is = refl; letter = refl; parts = (refl, (refl, (refl, (refl, tt)))); reserves = refl }
word_spelled words.Continue = record { first = 99; rest = codes "ontinue"; is = refl; letter = refl; parts = (refl, (refl, (refl, (refl, (refl, (refl, (refl, tt))))))); reserves = refl }
word_spelled words.Typeof = record { first = 116; rest = codes "ypeof"; is = refl; letter = refl; parts = (refl, (refl, (refl, (refl, (refl, tt))))); reserves = refl }
word_spelled words.True = record { first = 116; rest = codes "rue"; is = refl; letter = refl; parts = (refl, (refl, (refl, tt))); reserves = refl }
word_spelled words.False = record { first = 102; rest = codes "alse"; is = refl; letter = refl; parts = (refl, (refl, (refl, (refl, tt)))); reserves = refl }
word_spelled words.Null = record { first = 110; rest = codes "ull"; is = refl; letter = refl; parts = (refl, (refl, (refl, tt))); reserves = refl }
word_spelled words.Undefined = record { first = 117; rest = codes "ndefined"; is = refl; letter = refl; parts = (refl, (refl, (refl, (refl, (refl, (refl, (refl, (refl, tt)))))))); reserves = refl }
word_spelled words.Other = record { first = 121; rest = codes "ield"; is = refl; letter = refl; parts = (refl, (refl, (refl, (refl, tt)))); reserves = refl }

-- ---- what may follow

follows_space : (bs : List ℕ) → Stops (chars (32 ∷ bs))
follows_space bs = subst Stops (sym (ascii_first 32 bs refl)) (x.at_space (chars bs))

stops_behind : (last : Last) → last ≡ Callable ⊎ last ≡ Other → (ks : List Kind) → Stops (chars (x.text_from last ks))
stops_behind Opening (inl h) ks = absurd cc
stops_behind Opening (inr h) ks = absurd cc
stops_behind last h [] = subst Stops (sym chars-nil) x.at_end
stops_behind Callable h (kinds.Sign signs.ParenClose ∷ ks) = subst Stops (sym (ascii_first 41 _ refl)) (x.at_paren_close _)
stops_behind Callable h (kinds.Sign signs.BracketClose ∷ ks) = subst Stops (sym (ascii_first 93 _ refl)) (x.at_bracket_close _)
stops_behind Callable h (kinds.Sign signs.Comma ∷ ks) = subst Stops (sym (ascii_first 44 _ refl)) (x.at_comma _)
stops_behind Callable h (kinds.Sign signs.Semicolon ∷ ks) = subst Stops (sym (ascii_first 59 _ refl)) (x.at_semicolon _)
stops_behind Callable h (kinds.Sign signs.Colon ∷ ks) = subst Stops (sym (ascii_first 58 _ refl)) (x.at_colon _)
stops_behind Callable h (kinds.Sign signs.Dot ∷ ks) = subst Stops (sym (ascii_first 46 _ refl)) (x.at_dot _)
stops_behind Callable h (kinds.Sign signs.ParenOpen ∷ ks) = subst Stops (sym (ascii_first 40 _ refl)) (x.at_paren_open _)
stops_behind Callable h (kinds.Sign signs.BracketOpen ∷ ks) = subst Stops (sym (ascii_first 91 _ refl)) (x.at_bracket_open _)
stops_behind Callable h (k ∷ ks) = follows_space _
stops_behind Other h (kinds.Sign signs.ParenClose ∷ ks) = subst Stops (sym (ascii_first 41 _ refl)) (x.at_paren_close _)
stops_behind Other h (kinds.Sign signs.BracketClose ∷ ks) = subst Stops (sym (ascii_first 93 _ refl)) (x.at_bracket_close _)
stops_behind Other h (kinds.Sign signs.Comma ∷ ks) = subst Stops (sym (ascii_first 44 _ refl)) (x.at_comma _)
stops_behind Other h (kinds.Sign signs.Semicolon ∷ ks) = subst Stops (sym (ascii_first 59 _ refl)) (x.at_semicolon _)
stops_behind Other h (kinds.Sign signs.Colon ∷ ks) = subst Stops (sym (ascii_first 58 _ refl)) (x.at_colon _)
stops_behind Other h (kinds.Sign signs.Dot ∷ ks) = subst Stops (sym (ascii_first 46 _ refl)) (x.at_dot _)
stops_behind Other h (k ∷ ks) = follows_space _

follow : (last : Last) (ks : List Kind) → (last ≡ Opening) ⊎ Stops (chars (x.text_from last ks))
follow Opening ks = inl refl
follow Callable ks = inr (stops_behind Callable (inl refl) ks)
follow Other ks = inr (stops_behind Other (inr refl) ks)

-- ---- texts

-- a character as it stands in quotes
abbrev pub in_quotes : ℕ → List ℕ
in_quotes c =
    if c == 92 then 92 ∷ 92 ∷ []
    else (if c == 34 then 92 ∷ 34 ∷ []
    else (if c == 10 then 92 ∷ 110 ∷ [] else c ∷ []))

one_char : (c : ℕ) (bs : List ℕ) → scalars (c ∷ []) ≡ true → chars (encode_utf8 c ++ bs) ≡ c ∷ chars bs
one_char c bs h =
    let whole : encode_utf8 c ++ [] ≡ encode_utf8 c = append-nil (encode_utf8 c) in
    let alone : chars (encode_utf8 c) ≡ c ∷ [] = ap chars (sym whole) ∙ chars-encodes (c ∷ []) h in
    chars-append (encode_utf8 c) bs (c ∷ [], (h, whole)) ∙ ap (λ z. z ++ chars bs) alone

escaped_char : (c : ℕ) (bs : List ℕ) (a b d : Bool) → (c == 92) ≡ a → (c == 34) ≡ b → (c == 10) ≡ d → scalars (c ∷ []) ≡ true → chars (escaped c ++ bs) ≡ in_quotes c ++ chars bs
escaped_char c bs true b d h i j s = rw h (chars_ascii (92 ∷ 92 ∷ []) bs (refl, (refl, tt)))
escaped_char c bs false true d h i j s = rw (h, i) (chars_ascii (92 ∷ 34 ∷ []) bs (refl, (refl, tt)))
escaped_char c bs false false true h i j s = rw (h, i, j) (chars_ascii (92 ∷ 110 ∷ []) bs (refl, (refl, tt)))
escaped_char c bs false false false h i j s = rw (h, i, j) (one_char c bs s)

scalar_first : (c : ℕ) (cs : List ℕ) → scalars (c ∷ cs) ≡ true → scalars (c ∷ []) ≡ true
scalar_first c cs h = grind (arith, h)

scalar_rest : (c : ℕ) (cs : List ℕ) → scalars (c ∷ cs) ≡ true → scalars cs ≡ true
scalar_rest c cs h = grind (arith, h)

pub escaped_chars : (cs bs : List ℕ) → scalars cs ≡ true → chars (flat_map escaped cs ++ bs) ≡ flat_map in_quotes cs ++ chars bs
escaped_chars [] bs h = refl
escaped_chars (c ∷ cs) bs h =
    ap chars (append_assoc (escaped c) (flat_map escaped cs) bs)
    ∙ escaped_char c (flat_map escaped cs ++ bs) (c == 92) (c == 34) (c == 10) refl refl refl (scalar_first c cs h)
    ∙ ap (λ z. in_quotes c ++ z) (escaped_chars cs bs (scalar_rest c cs h))
    ∙ sym (append_assoc (in_quotes c) (flat_map in_quotes cs) (chars bs))

by_bool : {P : Type 0} (b : Bool) → (b ≡ true → P) → (b ≡ false → P) → P
by_bool true f g = f refl
by_bool false f g = g refl

same_pair : {a b : List ℕ} {m k : ℕ} → a ≡ b → m ≡ k → ◌≡◌ {A = Option (List ℕ × ℕ)} (Some (a, m)) (Some (b, k))
same_pair {a} {b} {m} {k} p q = ap (λ z. Some (z, m)) p ∙ ap (λ z. Some (b, z)) q

text_loop : (i : _) → ((c : ℕ) → text_step 34 i c ≡ plain_step 34 c) → (cs rest acc : List ℕ) (n : ℕ)
    → text_from 34 i acc n (flat_map in_quotes cs ++ 34 ∷ rest) ≡ Some (acc ++ utf8 cs, n + length (flat_map in_quotes cs) + 1)
unfolding text_step
text_loop i plain [] rest acc n = rw (plain 34) (same_pair (sym (append-nil acc)) (omega arith))
text_loop i plain (c ∷ cs) rest acc n =
    by_bool (c == 92)
    (λ h. subst (λ d. text_from 34 i acc n (flat_map in_quotes (d ∷ cs) ++ 34 ∷ rest) ≡ Some (acc ++ utf8 (d ∷ cs), n + length (flat_map in_quotes (d ∷ cs)) + 1)) (sym (eqb-true c 92 h))
    (rw (plain 92) (text_loop _ (λ d. refl) cs rest (acc ++ encode_utf8 92) (n + 1 + 1) ∙ same_pair (append_assoc acc (encode_utf8 92) (utf8 cs)) (omega arith))))
    (λ h. by_bool (c == 34)
    (λ k. subst (λ d. text_from 34 i acc n (flat_map in_quotes (d ∷ cs) ++ 34 ∷ rest) ≡ Some (acc ++ utf8 (d ∷ cs), n + length (flat_map in_quotes (d ∷ cs)) + 1)) (sym (eqb-true c 34 k))
    (rw (plain 92) (text_loop _ (λ d. refl) cs rest (acc ++ encode_utf8 34) (n + 1 + 1) ∙ same_pair (append_assoc acc (encode_utf8 34) (utf8 cs)) (omega arith))))
    (λ k. by_bool (c == 10)
    (λ l. subst (λ d. text_from 34 i acc n (flat_map in_quotes (d ∷ cs) ++ 34 ∷ rest) ≡ Some (acc ++ utf8 (d ∷ cs), n + length (flat_map in_quotes (d ∷ cs)) + 1)) (sym (eqb-true c 10 l))
    (rw (plain 92) (text_loop _ (λ d. refl) cs rest (acc ++ encode_utf8 10) (n + 1 + 1) ∙ same_pair (append_assoc acc (encode_utf8 10) (utf8 cs)) (omega arith))))
    (λ l. rw (h, k, l) (rw (plain c, k, l, h) (text_loop _ (λ d. refl) cs rest (acc ++ encode_utf8 c) (n + 1) ∙ same_pair (append_assoc acc (encode_utf8 c) (utf8 cs)) (omega arith))))))

text_piece : (cs rest : List ℕ) → length (flat_map in_quotes cs) + 2 ≤ 18446744073709551615
    → piece_at (34 ∷ (flat_map in_quotes cs ++ 34 ∷ rest)) ≡ integer_by (kinds.Text (utf8 cs)) (length (flat_map in_quotes cs) + 2)
unfolding piece_at text_step
text_piece cs rest short =
    let f : literal_at 34 (flat_map in_quotes cs ++ 34 ∷ rest) ≡ Some (utf8 cs, 0 + length (flat_map in_quotes cs) + 1) = text_loop _ (λ d. refl) cs rest [] 0 in
    let n : plus (0 + length (flat_map in_quotes cs) + 1) 1 ≡ length (flat_map in_quotes cs) + 2 = omega (arith, short) in
    rw (f, n) refl

-- ---- a token

-- what a token that must stop at what follows it is followed by
stops : (l : Last) (bs : List ℕ) → l ≢ Opening → (l ≡ Opening) ⊎ Stops (chars bs) → Stops (chars bs)
stops l bs other (inl is) = absurd (other is)
stops l bs other (inr s) = s

at_chars : (k : Kind) (p : Place) (cs ds ys : List ℕ) → cs ≡ ds → Next k p ds ys → Next k p cs ys
at_chars k p cs ds ys same n = subst (λ z. Next k p z ys) (sym same) n

callable_other : Callable ≢ Opening
callable_other h = cc

other_other : Other ≢ Opening
other_other h = cc

name_next : (n : List ℕ) (bs : List ℕ) (p : Place) → IsIdentifier n → Stops (chars bs) → Next (kinds.Name n) p (chars (n ++ bs)) (chars bs)
name_next n bs p i s =
    let free : reserved (i.first ∷ i.rest) ≡ None = ap reserved (sym i.is) ∙ i.free in
    let ascii : AllAscii (i.first ∷ i.rest) = parts_ascii (i.first ∷ i.rest) (letter_part i.first i.letter, i.parts) in
    subst (λ m. Next (kinds.Name m) p (chars (m ++ bs)) (chars bs)) (sym i.is)
    (at_chars (kinds.Name (i.first ∷ i.rest)) p (chars ((i.first ∷ i.rest) ++ bs)) (i.first ∷ (i.rest ++ chars bs)) (chars bs) (chars_ascii (i.first ∷ i.rest) bs ascii)
    (next_name (i.first ∷ i.rest) i.first i.rest (chars bs) p (name_piece i.first i.rest (chars bs) i.letter i.parts free s)))

integer_next : (n : ℕ) (bs : List ℕ) (p : Place) → n ≤ max_integer → Stops (chars bs) → Next (kinds.Integer n) p (chars (decimal n ++ bs)) (chars bs)
integer_next n bs p h s =
    let i : IntegerText n = integer_text n h in
    subst (λ m. Next (kinds.Integer n) p (chars (m ++ bs)) (chars bs)) (sym i.is)
    (at_chars (kinds.Integer n) p (chars ((i.first ∷ i.rest) ++ bs)) (i.first ∷ (i.rest ++ chars bs)) (chars bs) (chars_ascii (i.first ∷ i.rest) bs i.ascii)
    (next_integer n i.first i.rest (chars bs) p (i.piece (chars bs) s)))

word_next : (w : Word) (bs : List ℕ) (p : Place) → Stops (chars bs) → Next (kinds.Word w) p (chars (word_text w ++ bs)) (chars bs)
word_next w bs p s =
    let i : WordText w = word_spelled w in
    let ascii : AllAscii (i.first ∷ i.rest) = parts_ascii (i.first ∷ i.rest) (letter_part i.first i.letter, i.parts) in
    subst (λ m. Next (kinds.Word w) p (chars (m ++ bs)) (chars bs)) (sym i.is)
    (at_chars (kinds.Word w) p (chars ((i.first ∷ i.rest) ++ bs)) (i.first ∷ (i.rest ++ chars bs)) (chars bs) (chars_ascii (i.first ∷ i.rest) bs ascii)
    (next_word w i.first i.rest (chars bs) p (keyword_piece w i.first i.rest (chars bs) i.letter i.parts i.reserves s)))

list_next : (s : Sign) (v ys : List ℕ) (p : Place) → v ≢ [] → piece_at (v ++ ys) ≡ integer_by (kinds.Sign s) (length v) → Next (kinds.Sign s) p (v ++ ys) ys
list_next s [] ys p some is = absurd (some refl)
list_next s (c ∷ w) ys p some is = next_sign s c w ys p is

sign_some : (s : Sign) → sign_text s ≢ []
sign_some signs.ParenOpen h = cc
sign_some _ h = cc

sign_is : (s : Sign) (cs : List ℕ) → (left_by_sign s ≡ Opening) ⊎ Stops cs → piece_at (sign_text s ++ cs) ≡ integer_by (kinds.Sign s) (length (sign_text s))
sign_is s cs (inl h) = opening_piece s cs h
sign_is s cs (inr h) = sign_piece s cs h

sign_next : (s : Sign) (bs : List ℕ) (p : Place) → (left_by_sign s ≡ Opening) ⊎ Stops (chars bs) → Next (kinds.Sign s) p (chars (sign_text s ++ bs)) (chars bs)
sign_next s bs p h =
    at_chars (kinds.Sign s) p (chars (sign_text s ++ bs)) (sign_text s ++ chars bs) (chars bs) (chars_ascii (sign_text s) bs (sign_ascii s))
    (list_next s (sign_text s) (chars bs) p (sign_some s) (sign_is s (chars bs) h))

shorter_char : (c : ℕ) → length (in_quotes c) ≤ length (escaped c)
shorter_char c =
    by_bool (c == 92) (λ h. rw h (omega arith)) (λ h. by_bool (c == 34) (λ k. rw (h, k) (omega arith)) (λ k. by_bool (c == 10) (λ l. rw (h, k, l) (omega arith))
    (λ l. rw (h, k, l) (omega (arith, length-encode c, (len_utf8_bounds c).0)))))

shorter_quotes : (cs : List ℕ) → length (flat_map in_quotes cs) ≤ length (flat_map escaped cs)
shorter_quotes [] = omega arith
shorter_quotes (c ∷ cs) =
    let a : length (in_quotes c ++ flat_map in_quotes cs) ≡ length (in_quotes c) + length (flat_map in_quotes cs) = length-append (in_quotes c) (flat_map in_quotes cs) in
    let b : length (escaped c ++ flat_map escaped cs) ≡ length (escaped c) + length (flat_map escaped cs) = length-append (escaped c) (flat_map escaped cs) in
    omega (arith, a, b, shorter_char c, shorter_quotes cs)

text_next : (t bs : List ℕ) (p : Place) → IsUtf8 t → length (quoted t) + 2 ≤ 18446744073709551615 → Next (kinds.Text t) p (chars (quoted t ++ bs)) (chars bs)
unfolding quoted
text_next t bs p u short =
    let cs : List ℕ = chars t in
    let es : List ℕ = flat_map escaped (chars t) in
    let qs : List ℕ = flat_map in_quotes (chars t) in
    let whole : utf8 (chars t) ≡ t = encodes-chars t u in
    let l : length (flat_map escaped (chars t) ++ 34 ∷ []) ≡ length (flat_map escaped (chars t)) + 1 = length-append (flat_map escaped (chars t)) (34 ∷ []) in
    let m : length (flat_map in_quotes (chars t) ++ 34 ∷ []) ≡ length (flat_map in_quotes (chars t)) + 1 = length-append (flat_map in_quotes (chars t)) (34 ∷ []) in
    let fits : length (flat_map in_quotes (chars t)) + 2 ≤ 18446744073709551615 = omega (arith, l, short, shorter_quotes (chars t)) in
    let seen : chars (quoted t ++ bs) ≡ 34 ∷ ((flat_map in_quotes (chars t) ++ 34 ∷ []) ++ chars bs) =
    ascii_first 34 ((flat_map escaped (chars t) ++ 34 ∷ []) ++ bs) refl
    ∙ ap (λ z. 34 ∷ chars z) (append_assoc (flat_map escaped (chars t)) (34 ∷ []) bs)
    ∙ ap (λ z. 34 ∷ z) (escaped_chars (chars t) (34 ∷ bs) (scalars-chars t u) ∙ ap (λ z. flat_map in_quotes (chars t) ++ z) (ascii_first 34 bs refl) ∙ sym (append_assoc (flat_map in_quotes (chars t)) (34 ∷ []) (chars bs))) in
    let size : length (flat_map in_quotes (chars t)) + 2 ≡ suc (length (flat_map in_quotes (chars t) ++ 34 ∷ [])) = omega (arith, m) in
    let piece : piece_at (34 ∷ ((flat_map in_quotes (chars t) ++ 34 ∷ []) ++ chars bs)) ≡ integer_by (kinds.Text (utf8 (chars t))) (suc (length (flat_map in_quotes (chars t) ++ 34 ∷ []))) =
    ap (λ z. piece_at (34 ∷ z)) (append_assoc (flat_map in_quotes (chars t)) (34 ∷ []) (chars bs))
    ∙ text_piece (chars t) (chars bs) fits ∙ ap (λ n. integer_by (kinds.Text (utf8 (chars t))) n) size in
    at_chars (kinds.Text t) p (chars (quoted t ++ bs)) (34 ∷ ((flat_map in_quotes (chars t) ++ 34 ∷ []) ++ chars bs)) (chars bs) seen
    (subst (λ z. Next (kinds.Text z) p (34 ∷ ((flat_map in_quotes (chars t) ++ 34 ∷ []) ++ chars bs)) (chars bs)) whole
    (next_text (utf8 (chars t)) 34 (flat_map in_quotes (chars t) ++ 34 ∷ []) (chars bs) p piece))

one : (k : Kind) → IsSpellable k → (bs : List ℕ) → (left_by k ≡ Opening) ⊎ Stops (chars bs) → length (spelling k) + 2 ≤ 18446744073709551615 → (p : Place) → Next k p (chars (spelling k ++ bs)) (chars bs)
one (kinds.Name n) i bs f short p = name_next n bs p i (stops Callable bs callable_other f)
one (kinds.Integer n) h bs f short p = integer_next n bs p h (stops Callable bs callable_other f)
one (kinds.Text t) u bs f short p = text_next t bs p u short
one (kinds.Word w) u bs f short p = word_next w bs p (stops Other bs other_other f)
one (kinds.Sign s) u bs f short p = sign_next s bs p f
one kinds.End u bs f short p = absurd u
one (kinds.Bad why) u bs f short p = absurd u

-- ---- all tokens

after_gap : (b : Bool) (bs : List ℕ) (ks : List Kind) → ((p : Place) → kinds_at 0 p (chars bs) ≡ ks) → (p : Place) → kinds_at 0 p (chars (gap b ++ bs)) ≡ ks
unfolding piece_at
after_gap true bs ks h p = h p
after_gap false bs ks h p = ap (kinds_at 0 p) (ascii_first 32 bs refl) ∙ h (step p 32)

pub all_tokens : (ks : List Kind) → AreSpellable ks → (last : Last) (p : Place) → length (x.text_from last ks) + 2 ≤ 18446744073709551615 → kinds_at 0 p (chars (x.text_from last ks)) ≡ ks ++ kinds.End ∷ []
all_tokens [] a last p short = ap (kinds_at 0 p) chars-nil
all_tokens (k ∷ ks) a last p short =
    let rest : List ℕ = x.text_from (left_by k) ks in
    let l : length (gap (joins last k) ++ (spelling k ++ x.text_from (left_by k) ks)) ≡ length (gap (joins last k)) + length (spelling k ++ x.text_from (left_by k) ks) =
    length-append (gap (joins last k)) (spelling k ++ x.text_from (left_by k) ks) in
    let m : length (spelling k ++ x.text_from (left_by k) ks) ≡ length (spelling k) + length (x.text_from (left_by k) ks) = length-append (spelling k) (x.text_from (left_by k) ks) in
    let here : length (spelling k) + 2 ≤ 18446744073709551615 = omega (arith, l, m, short) in
    let there : length (x.text_from (left_by k) ks) + 2 ≤ 18446744073709551615 = omega (arith, l, m, short) in
    after_gap (joins last k) (spelling k ++ x.text_from (left_by k) ks) (k ∷ (ks ++ kinds.End ∷ []))
    (λ q. let r : Next k q (chars (spelling k ++ x.text_from (left_by k) ks)) (chars (x.text_from (left_by k) ks)) = one k a.0 (x.text_from (left_by k) ks) (follow (left_by k) ks) here q in
    r.same ∙ ap (λ z. k ∷ z) (all_tokens ks a.1 (left_by k) r.place there)) p

-- ---- printed programs

pub printed_text : (p : Program) → printed p ≡ x.text_from Opening (program p)
unfolding printed
printed_text p = x.text_of (program p) nothing

pub printed_tokens : (p : Program) → AreSpellable (program p) → length (printed p) + 2 < 2 ^ 64 → kinds_of (tokens_of (printed p)) ≡ program p ++ kinds.End ∷ []
unfolding tokens_of
printed_tokens p a short =
    let small : length (printed p) + 2 ≤ 18446744073709551615 = omega (arith, short) in
    let fits : length (x.text_from Opening (program p)) + 2 ≤ 18446744073709551615 = subst (λ z. length z + 2 ≤ 18446744073709551615) (printed_text p) small in
    ap (λ z. kinds_at 0 first_place (chars z)) (printed_text p) ∙ all_tokens (program p) a Opening first_place fits
