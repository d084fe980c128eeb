-- The tokens of a program are read as it, wherever they stand.
use Rattle.std.proofs.Common.{◌≡◌, List, [], ◌∷◌, ◌++◌, refl}
use Rattle.sync_tokens.specs.declared.token.Kind.{Kind}
use Rattle.sync_tokens.specs.declared.token.Kind.TheVariants as kinds
use Rattle.sync_syntax.specs.Reading.{Tokens, kind, next}
use Rattle.sync_print.specs.Laws.{kinds_of, TokensAreReadBack}
use Rattle.sync_print.specs.Trees.{program}
use Rattle.sync_print.proofs.Shown.{Shows}
use Rattle.sync_print.proofs.PrintsStatements.{program_prints}

record Ended (ks : List Kind) (ts : Tokens) : Type 0 where
  last : Tokens
  shows : Shows ks ts last
  is : kind last ≡ kinds.End

shown : (ks : List Kind) (ts : Tokens) → kinds_of ts ≡ ks ++ kinds.End ∷ [] → Ended ks ts
unfolding kind next
shown [] [] e = absurd cc
shown [] (t ∷ ts) e = let is : t.kind ≡ kinds.End = cc in record { last = t ∷ ts; shows = refl; is = is }
shown (k ∷ ks) [] e = absurd cc
shown (k ∷ []) (t ∷ []) e = absurd cc
shown (k ∷ l ∷ ks) (t ∷ []) e = absurd cc
shown (k ∷ ks) (t ∷ u ∷ ts) e =
    let is : t.kind ≡ k = cc in
    let more : kinds_of (u ∷ ts) ≡ ks ++ kinds.End ∷ [] = cc in
    let r : Ended ks (u ∷ ts) = shown ks (u ∷ ts) more in
    record { last = r.last; shows = (is, r.shows); is = r.is }

pub read_back : TokensAreReadBack
read_back all ts p is e = let r : Ended (program p) ts = shown (program p) ts e in program_prints all p is ts r.last r.shows r.is
