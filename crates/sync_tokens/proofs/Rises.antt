-- The tokens of a text stand one behind the other.
use Rattle.std.proofs.Common.{◌≡◌, ◌⊎◌, inl, inr, ℕ, zero, suc, ◌+◌, ◌-◌, ◌^◌, ◌<◌, Bool, true, false, List, [], ◌∷◌, length, refl, sym, subst, ◌∙◌, arith}
use Rattle.std.specs.Prelude.{◌==◌}
use Rattle.std.specs.Str.{chars}
use Rattle.sync_tokens.specs.declared.place.Place.{Place}
use Rattle.sync_tokens.specs.declared.token.Token.{Token}
use Rattle.sync_tokens.specs.declared.scan.Piece.{Piece}
use Rattle.sync_tokens.specs.declared.scan.Piece.TheVariants as pieces
use Rattle.sync_tokens.specs.Places.{step, first_place, IsBefore}
use Rattle.sync_tokens.specs.Scan.{piece_at, laid, tokens_from, tokens_in, tokens_of}
use Rattle.sync_tokens.specs.Rising.{Rise, TokensRise}

both_before : (p q r : Place) → IsBefore p q → IsBefore q r → IsBefore p r
both_before p q r (inl a) (inl b) = inl (omega arith)
both_before p q r (inl a) (inr b) = inl (omega (arith, b.0))
both_before p q r (inr a) (inl b) = inl (omega (arith, a.0))
both_before p q r (inr a) (inr b) = inr (a.0 ∙ b.0, omega (arith, a.1, b.1))

-- here, or behind
abbrev From : Place → Place → Type 0
From p q = (p ≡ q) ⊎ IsBefore p q

from_before : (p q r : Place) → IsBefore p q → From q r → IsBefore p r
from_before p q r a (inl same) = subst (λ z. IsBefore p z) same a
from_before p q r a (inr b) = both_before p q r a b

-- the first token stands here or behind, and the others rise
abbrev RiseFrom : Place → List Token → Type 0
RiseFrom p [] = ⊥
RiseFrom p (t ∷ ts) = From p t.place × Rise (t ∷ ts)

later : (p q : Place) (ts : List Token) → IsBefore p q → RiseFrom q ts → RiseFrom p ts
later p q [] a h = absurd h
later p q (t ∷ ts) a h = (inr (from_before p q t.place a h.0), h.1)

behind : (p q : Place) (t : Token) (ts : List Token) → t.place ≡ p → IsBefore p q → RiseFrom q ts → RiseFrom p (t ∷ ts)
behind p q t [] is a h = absurd h
behind p q t (u ∷ ts) is a h = (inl (sym is), (subst (λ z. IsBefore z u.place) (sym is) (from_before p q u.place a h.0), h.1))

-- so many characters more can be counted
record Counts (p : Place) (n : ℕ) : Type 0 where
  lines : p.line + n + 1 < 2 ^ 32
  columns : p.column + n + 1 < 2 ^ 32

step_by : (p : Place) (c n : ℕ) (b : Bool) → (c == 10) ≡ b → Counts p (suc n) → IsBefore p (step p c) × Counts (step p c) n
step_by p c n true is h = rw is (inl (omega (arith, h.lines)), record { lines = omega (arith, h.lines); columns = omega (arith, h.columns) })
step_by p c n false is h = rw is (inr (refl, omega (arith, h.columns)), record { lines = omega (arith, h.lines); columns = omega (arith, h.columns) })

laid_rises : (p q : Place) (piece : Piece) (rest : ℕ → List Token) → IsBefore p q → ((n : ℕ) → RiseFrom q (rest n)) → RiseFrom p (laid p piece rest)
laid_rises p q (pieces.Blank len) rest a h = later p q (rest (len - 1)) a (h (len - 1))
laid_rises p q (pieces.Token kind len) rest a h = behind p q (record { place = p; kind = kind }) (rest (len - 1)) refl a (h (len - 1))
laid_rises p q (pieces.Last kind) rest a h = (inl refl, tt)

from_rises : (left : ℕ) (p : Place) (cs : List ℕ) → Counts p (length cs) → RiseFrom p (tokens_from left p cs)
from_rises left p [] h = (inl refl, tt)
from_rises (suc left) p (c ∷ cs) h = let s = step_by p c (length cs) (c == 10) refl h in later p (step p c) (tokens_from left (step p c) cs) s.0 (from_rises left (step p c) cs s.1)
from_rises zero p (c ∷ cs) h =
    let s = step_by p c (length cs) (c == 10) refl h in
    laid_rises p (step p c) (piece_at (c ∷ cs)) (λ left. tokens_from left (step p c) cs) s.0 (λ n. from_rises n (step p c) cs s.1)

rising : (p : Place) (ts : List Token) → RiseFrom p ts → Rise ts
rising p [] h = absurd h
rising p (t ∷ ts) h = h.1

pub tokens_rise : TokensRise
unfolding tokens_of
tokens_rise text short = rising first_place (tokens_in (chars text)) (from_rises 0 first_place (chars text) (record { lines = omega (arith, short); columns = omega (arith, short) }))
