-- What is printed is cut into the tokens that it was printed from.
use Rattle.std.proofs.Common.{◌≡◌, ℕ, suc, ◌-◌, List, [], ◌∷◌, ◌++◌, length, refl, sym, ap, ◌∙◌, append_assoc, append-nil, arith}
use Rattle.sync_tokens.specs.declared.place.Place.{Place}
use Rattle.sync_tokens.specs.declared.token.Kind.{Kind}
use Rattle.sync_tokens.specs.declared.token.Kind.TheVariants as kinds
use Rattle.sync_tokens.specs.declared.token.Sign.{Sign}
use Rattle.sync_tokens.specs.declared.token.Sign.TheVariants as signs
use Rattle.sync_tokens.specs.declared.token.Word.{Word}
use Rattle.sync_tokens.specs.Places.{step}
use Rattle.sync_tokens.specs.Signs.{sign_at}
use Rattle.sync_tokens.specs.Scan.{piece_at, laid, integer_by, tokens_from}
use Rattle.sync_print.specs.declared.printer.Last.{Last}
use Rattle.sync_print.specs.declared.printer.Last.TheVariants.{Opening}
use Rattle.sync_print.specs.declared.printer.Printer.{Printer}
use Rattle.sync_print.specs.Laws.{kinds_of}
use Rattle.sync_print.specs.Spelling.{sign_text, spelling, left_by_sign, left_by, joins, gap, put_text, put, put_all}

-- ---- the text, token by token

-- the text of these tokens behind what stands last
abbrev pub text_from : Last → List Kind → List ℕ
text_from last [] = []
text_from last (k ∷ ks) = gap (joins last k) ++ (spelling k ++ text_from (left_by k) ks)

pub text_of : (ks : List Kind) (o : Printer) → (put_all ks o).text ≡ o.text ++ text_from o.last ks
unfolding put_text
text_of [] o = sym (append-nil o.text)
text_of (k ∷ ks) o =
    text_of ks (put k o)
    ∙ append_assoc o.text (gap (joins o.last k) ++ spelling k) (text_from (left_by k) ks)
    ∙ ap (λ z. o.text ++ z) (append_assoc (gap (joins o.last k)) (spelling k) (text_from (left_by k) ks))

-- ---- one token

abbrev pub kinds_at : ℕ → Place → List ℕ → List Kind
kinds_at n p cs = kinds_of (tokens_from n p cs)

-- the tokens of the second text, from some place on
record Behind (n : ℕ) (p : Place) (cs ys : List ℕ) : Type 0 where
  place : Place
  same : tokens_from n p cs ≡ tokens_from 0 place ys

skipped : (xs ys : List ℕ) (p : Place) → Behind (length xs) p (xs ++ ys) ys
skipped [] ys p = record { place = p; same = refl }
skipped (x ∷ xs) ys p = let r : Behind (length xs) (step p x) (xs ++ ys) ys = skipped xs ys (step p x) in record { place = r.place; same = r.same }

pub record Next (k : Kind) (p : Place) (cs ys : List ℕ) : Type 0 where
  pub place : Place
  pub same : kinds_at 0 p cs ≡ k ∷ kinds_at 0 place ys

pub next_name : (n : List ℕ) (x : ℕ) (w ys : List ℕ) (p : Place) → piece_at (x ∷ (w ++ ys)) ≡ integer_by (kinds.Name n) (suc (length w)) → Next (kinds.Name n) p (x ∷ (w ++ ys)) ys
next_name n x w ys p is =
    let r : Behind (length w) (step p x) (w ++ ys) ys = skipped w ys (step p x) in
    let less : suc (length w) - 1 ≡ length w = omega arith in
    record {
      place = r.place;
      same =
          ap (λ z. kinds_of (laid p z (λ left. tokens_from left (step p x) (w ++ ys)))) is
          ∙ ap (λ n'. (kinds.Name n) ∷ kinds_of (tokens_from n' (step p x) (w ++ ys))) less
          ∙ ap (λ z. (kinds.Name n) ∷ kinds_of z) r.same;
    }

pub next_integer : (n : ℕ) (x : ℕ) (w ys : List ℕ) (p : Place) → piece_at (x ∷ (w ++ ys)) ≡ integer_by (kinds.Integer n) (suc (length w)) → Next (kinds.Integer n) p (x ∷ (w ++ ys)) ys
next_integer n x w ys p is =
    let r : Behind (length w) (step p x) (w ++ ys) ys = skipped w ys (step p x) in
    let less : suc (length w) - 1 ≡ length w = omega arith in
    record {
      place = r.place;
      same =
          ap (λ z. kinds_of (laid p z (λ left. tokens_from left (step p x) (w ++ ys)))) is
          ∙ ap (λ n'. (kinds.Integer n) ∷ kinds_of (tokens_from n' (step p x) (w ++ ys))) less
          ∙ ap (λ z. (kinds.Integer n) ∷ kinds_of z) r.same;
    }

pub next_text : (t : List ℕ) (x : ℕ) (w ys : List ℕ) (p : Place) → piece_at (x ∷ (w ++ ys)) ≡ integer_by (kinds.Text t) (suc (length w)) → Next (kinds.Text t) p (x ∷ (w ++ ys)) ys
next_text t x w ys p is =
    let r : Behind (length w) (step p x) (w ++ ys) ys = skipped w ys (step p x) in
    let less : suc (length w) - 1 ≡ length w = omega arith in
    record {
      place = r.place;
      same =
          ap (λ z. kinds_of (laid p z (λ left. tokens_from left (step p x) (w ++ ys)))) is
          ∙ ap (λ n'. (kinds.Text t) ∷ kinds_of (tokens_from n' (step p x) (w ++ ys))) less
          ∙ ap (λ z. (kinds.Text t) ∷ kinds_of z) r.same;
    }

pub next_sign : (s : Sign) (x : ℕ) (w ys : List ℕ) (p : Place) → piece_at (x ∷ (w ++ ys)) ≡ integer_by (kinds.Sign s) (suc (length w)) → Next (kinds.Sign s) p (x ∷ (w ++ ys)) ys
next_sign s x w ys p is =
    let r : Behind (length w) (step p x) (w ++ ys) ys = skipped w ys (step p x) in
    let less : suc (length w) - 1 ≡ length w = omega arith in
    record {
      place = r.place;
      same =
          ap (λ z. kinds_of (laid p z (λ left. tokens_from left (step p x) (w ++ ys)))) is
          ∙ ap (λ n'. (kinds.Sign s) ∷ kinds_of (tokens_from n' (step p x) (w ++ ys))) less
          ∙ ap (λ z. (kinds.Sign s) ∷ kinds_of z) r.same;
    }

pub next_word : (s : Word) (x : ℕ) (w ys : List ℕ) (p : Place) → piece_at (x ∷ (w ++ ys)) ≡ integer_by (kinds.Word s) (suc (length w)) → Next (kinds.Word s) p (x ∷ (w ++ ys)) ys
next_word s x w ys p is =
    let r : Behind (length w) (step p x) (w ++ ys) ys = skipped w ys (step p x) in
    let less : suc (length w) - 1 ≡ length w = omega arith in
    record {
      place = r.place;
      same =
          ap (λ z. kinds_of (laid p z (λ left. tokens_from left (step p x) (w ++ ys)))) is
          ∙ ap (λ n'. (kinds.Word s) ∷ kinds_of (tokens_from n' (step p x) (w ++ ys))) less
          ∙ ap (λ z. (kinds.Word s) ∷ kinds_of z) r.same;
    }

-- ---- what may follow a token that no space follows

pub data Stops : List ℕ → Type 0 where
  at_end : Stops []
  at_space : (cs : List ℕ) → Stops (32 ∷ cs)
  at_paren_close : (cs : List ℕ) → Stops (41 ∷ cs)
  at_bracket_close : (cs : List ℕ) → Stops (93 ∷ cs)
  at_comma : (cs : List ℕ) → Stops (44 ∷ cs)
  at_semicolon : (cs : List ℕ) → Stops (59 ∷ cs)
  at_colon : (cs : List ℕ) → Stops (58 ∷ cs)
  at_dot : (cs : List ℕ) → Stops (46 ∷ cs)
  at_paren_open : (cs : List ℕ) → Stops (40 ∷ cs)
  at_bracket_open : (cs : List ℕ) → Stops (91 ∷ cs)

pub sign_piece : (s : Sign) (cs : List ℕ) → Stops cs → piece_at (sign_text s ++ cs) ≡ integer_by (kinds.Sign s) (length (sign_text s))
unfolding piece_at sign_at
sign_piece signs.ParenOpen cs _ = refl
sign_piece signs.ParenClose cs _ = refl
sign_piece signs.BraceOpen cs _ = refl
sign_piece signs.BraceClose cs _ = refl
sign_piece signs.BracketOpen cs _ = refl
sign_piece signs.BracketClose cs _ = refl
sign_piece signs.Comma cs _ = refl
sign_piece signs.Semicolon cs _ = refl
sign_piece signs.Colon cs _ = refl
sign_piece signs.Dot cs _ = refl
sign_piece signs.Question cs _ = refl
sign_piece signs.Assign _ (at_end) = refl
sign_piece signs.Assign _ (at_space cs) = refl
sign_piece signs.Assign _ (at_paren_close cs) = refl
sign_piece signs.Assign _ (at_bracket_close cs) = refl
sign_piece signs.Assign _ (at_comma cs) = refl
sign_piece signs.Assign _ (at_semicolon cs) = refl
sign_piece signs.Assign _ (at_colon cs) = refl
sign_piece signs.Assign _ (at_dot cs) = refl
sign_piece signs.Assign _ (at_paren_open cs) = refl
sign_piece signs.Assign _ (at_bracket_open cs) = refl
sign_piece signs.PlusAssign cs _ = refl
sign_piece signs.MinusAssign cs _ = refl
sign_piece signs.Increment cs _ = refl
sign_piece signs.Decrement cs _ = refl
sign_piece signs.Plus _ (at_end) = refl
sign_piece signs.Plus _ (at_space cs) = refl
sign_piece signs.Plus _ (at_paren_close cs) = refl
sign_piece signs.Plus _ (at_bracket_close cs) = refl
sign_piece signs.Plus _ (at_comma cs) = refl
sign_piece signs.Plus _ (at_semicolon cs) = refl
sign_piece signs.Plus _ (at_colon cs) = refl
sign_piece signs.Plus _ (at_dot cs) = refl
sign_piece signs.Plus _ (at_paren_open cs) = refl
sign_piece signs.Plus _ (at_bracket_open cs) = refl
sign_piece signs.Minus _ (at_end) = refl
sign_piece signs.Minus _ (at_space cs) = refl
sign_piece signs.Minus _ (at_paren_close cs) = refl
sign_piece signs.Minus _ (at_bracket_close cs) = refl
sign_piece signs.Minus _ (at_comma cs) = refl
sign_piece signs.Minus _ (at_semicolon cs) = refl
sign_piece signs.Minus _ (at_colon cs) = refl
sign_piece signs.Minus _ (at_dot cs) = refl
sign_piece signs.Minus _ (at_paren_open cs) = refl
sign_piece signs.Minus _ (at_bracket_open cs) = refl
sign_piece signs.Star cs _ = refl
sign_piece signs.Not _ (at_end) = refl
sign_piece signs.Not _ (at_space cs) = refl
sign_piece signs.Not _ (at_paren_close cs) = refl
sign_piece signs.Not _ (at_bracket_close cs) = refl
sign_piece signs.Not _ (at_comma cs) = refl
sign_piece signs.Not _ (at_semicolon cs) = refl
sign_piece signs.Not _ (at_colon cs) = refl
sign_piece signs.Not _ (at_dot cs) = refl
sign_piece signs.Not _ (at_paren_open cs) = refl
sign_piece signs.Not _ (at_bracket_open cs) = refl
sign_piece signs.Or cs _ = refl
sign_piece signs.And cs _ = refl
sign_piece signs.Equal _ (at_end) = refl
sign_piece signs.Equal _ (at_space cs) = refl
sign_piece signs.Equal _ (at_paren_close cs) = refl
sign_piece signs.Equal _ (at_bracket_close cs) = refl
sign_piece signs.Equal _ (at_comma cs) = refl
sign_piece signs.Equal _ (at_semicolon cs) = refl
sign_piece signs.Equal _ (at_colon cs) = refl
sign_piece signs.Equal _ (at_dot cs) = refl
sign_piece signs.Equal _ (at_paren_open cs) = refl
sign_piece signs.Equal _ (at_bracket_open cs) = refl
sign_piece signs.NotEqual _ (at_end) = refl
sign_piece signs.NotEqual _ (at_space cs) = refl
sign_piece signs.NotEqual _ (at_paren_close cs) = refl
sign_piece signs.NotEqual _ (at_bracket_close cs) = refl
sign_piece signs.NotEqual _ (at_comma cs) = refl
sign_piece signs.NotEqual _ (at_semicolon cs) = refl
sign_piece signs.NotEqual _ (at_colon cs) = refl
sign_piece signs.NotEqual _ (at_dot cs) = refl
sign_piece signs.NotEqual _ (at_paren_open cs) = refl
sign_piece signs.NotEqual _ (at_bracket_open cs) = refl
sign_piece signs.Same cs _ = refl
sign_piece signs.NotSame cs _ = refl
sign_piece signs.Less _ (at_end) = refl
sign_piece signs.Less _ (at_space cs) = refl
sign_piece signs.Less _ (at_paren_close cs) = refl
sign_piece signs.Less _ (at_bracket_close cs) = refl
sign_piece signs.Less _ (at_comma cs) = refl
sign_piece signs.Less _ (at_semicolon cs) = refl
sign_piece signs.Less _ (at_colon cs) = refl
sign_piece signs.Less _ (at_dot cs) = refl
sign_piece signs.Less _ (at_paren_open cs) = refl
sign_piece signs.Less _ (at_bracket_open cs) = refl
sign_piece signs.LessOrEqual cs _ = refl
sign_piece signs.Greater _ (at_end) = refl
sign_piece signs.Greater _ (at_space cs) = refl
sign_piece signs.Greater _ (at_paren_close cs) = refl
sign_piece signs.Greater _ (at_bracket_close cs) = refl
sign_piece signs.Greater _ (at_comma cs) = refl
sign_piece signs.Greater _ (at_semicolon cs) = refl
sign_piece signs.Greater _ (at_colon cs) = refl
sign_piece signs.Greater _ (at_dot cs) = refl
sign_piece signs.Greater _ (at_paren_open cs) = refl
sign_piece signs.Greater _ (at_bracket_open cs) = refl
sign_piece signs.GreaterOrEqual cs _ = refl

-- behind a sign that opens anything may stand
pub opening_piece : (s : Sign) (cs : List ℕ) → left_by_sign s ≡ Opening → piece_at (sign_text s ++ cs) ≡ integer_by (kinds.Sign s) (length (sign_text s))
unfolding piece_at sign_at
opening_piece signs.ParenOpen cs is = refl
opening_piece signs.BracketOpen cs is = refl
opening_piece signs.Dot cs is = refl
opening_piece _ cs is = absurd cc
