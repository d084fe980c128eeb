-- a file, and the texts of its items
use Rattle.std.proofs.Common.{◌≡◌, ℕ, true, List, [], ◌∷◌, ◌++◌, reverse, sym, ap, ◌∙◌, subst}
use Rattle.std.specs.List.{join_with_byte}
use Rattle.sg_names.specs.Grammar.{lacks}
use Rattle.sg_history.specs.Files.{LineGrammar, AreAmong, Begins, IsFileOf}
use Rattle.sg_history.specs.Pieces.{pieces}
use Rattle.sg_history.proofs.LineTexts.{joined_pieces}
use Rattle.sg_history.proofs.PieceLemmas.{pieces-cut, pieces-some}
use Rattle.sg_history.proofs.ReadLines.{begins_first}

module _ {X : Type 0} (g : LineGrammar X) (text : X → List ℕ) (texts : List X → List ℕ) (none : texts [] ≡ [])
    (more_text : (x : X) (xs : List X) → texts (x ∷ xs) ≡ text x ++ 10 ∷ texts xs) where
  -- where a line that says an item is the item's text, lines that say items are the items' texts
  pub said_text : (spells : (older : List X) (line : List ℕ) (x : X) → g.Says older line x → line ≡ text x) (older xs : List X) (lines : List (List ℕ))
      → Begins g older lines xs ([] ∷ []) → join_with_byte 10 lines ≡ texts xs
  said_text spells older [] lines h = ap (join_with_byte 10) h ∙ sym none
  said_text spells older (x ∷ xs) [] h = absurd h
  said_text spells older (x ∷ xs) (end ∷ []) h = absurd h
  said_text spells older (x ∷ xs) (line ∷ next ∷ more) h =
      let one = spells older line x h.0 in
      let rest = said_text spells (x ∷ older) xs (next ∷ more) h.1 in
      (λ i. one i ++ 10 ∷ rest i) ∙ sym (more_text x xs)

  -- a first line, and the texts of items behind it
  abbrev pub IsTextOf : List ℕ → List X → Type 0
  IsTextOf bytes xs = (first : List ℕ) × g.IsTitle first × (bytes ≡ first ++ 10 ∷ texts xs)

  among_text : (spells : (older : List X) (line : List ℕ) (x : X) → g.Says older line x → line ≡ text x) (lines : List (List ℕ)) (xs : List X)
      → AreAmong g lines xs → IsTextOf (join_with_byte 10 lines) xs
  among_text spells [] xs h = absurd h
  among_text spells (first ∷ []) [] h = absurd (cc (h.1.0))
  among_text spells (first ∷ []) (x ∷ xs) h = absurd h.1.0
  among_text spells (first ∷ next ∷ more) xs h =
      let rest = said_text spells [] xs (next ∷ more) h.1.0 in
      (first, h.0, ap (λ (l : List ℕ). first ++ 10 ∷ l) rest)

  pub file_text : (spells : (older : List X) (line : List ℕ) (x : X) → g.Says older line x → line ≡ text x) (bytes : List ℕ) (xs : List X)
      → IsFileOf g bytes xs → IsTextOf bytes xs
  file_text spells bytes xs is =
      let among = among_text spells (pieces 10 bytes) xs is in
      (among.0, among.1, sym (joined_pieces 10 bytes) ∙ among.2)

  -- what holds of items that may follow each other holds of those that lines say
  pub said_are : (Are : List X → List X → Type 0) (base : (older : List X) → Are older [])
      (step : (older : List X) (line : List ℕ) (x : X) (xs : List X) → g.Says older line x → Are (x ∷ older) xs → Are older (x ∷ xs))
      (older xs : List X) (lines left : List (List ℕ)) → Begins g older lines xs left → Are older xs
  said_are Are base step older [] lines left h = base older
  said_are Are base step older (x ∷ xs) [] left h = absurd h
  said_are Are base step older (x ∷ xs) (end ∷ []) left h = absurd h
  said_are Are base step older (x ∷ xs) (line ∷ next ∷ more) left h =
      step older line x xs h.0 (said_are Are base step (x ∷ older) xs (next ∷ more) left h.1)

  pub file_are : (Are : List X → List X → Type 0) (base : (older : List X) → Are older [])
      (step : (older : List X) (line : List ℕ) (x : X) (xs : List X) → g.Says older line x → Are (x ∷ older) xs → Are older (x ∷ xs))
      (lines : List (List ℕ)) (xs : List X) → AreAmong g lines xs → Are [] xs
  file_are Are base step [] xs h = absurd h
  file_are Are base step (first ∷ lines) xs h = said_are Are base step [] xs lines ([] ∷ []) h.1.0

  -- the texts of items that may follow each other say them
  lines_say : (Are : List X → List X → Type 0)
      (next : (older : List X) (x : X) (xs : List X) → Are older (x ∷ xs) → (lacks 10 (text x) ≡ true) × g.Says older (text x) x × Are (x ∷ older) xs)
      (older xs : List X) → Are older xs → Begins g older (pieces 10 (texts xs)) xs ([] ∷ [])
  lines_say Are next older [] are = ap (pieces 10) none
  lines_say Are next older (x ∷ xs) are =
      let first = next older x xs are in
      let cut = ap (pieces 10) (more_text x xs) ∙ pieces-cut 10 (text x) (texts xs) first.0 in
      subst (λ ls. Begins g older ls (x ∷ xs) ([] ∷ [])) (sym cut)
      (begins_first g older (text x) (pieces 10 (texts xs)) x xs ([] ∷ []) (pieces-some 10 (texts xs)) first.1 (lines_say Are next (x ∷ older) xs first.2))

  pub file_said : (Are : List X → List X → Type 0)
      (next : (older : List X) (x : X) (xs : List X) → Are older (x ∷ xs) → (lacks 10 (text x) ≡ true) × g.Says older (text x) x × Are (x ∷ older) xs)
      (bytes first : List ℕ) (xs : List X) → bytes ≡ first ++ 10 ∷ texts xs → g.IsTitle first → lacks 10 first ≡ true → Are [] xs → g.may_end (reverse xs) ≡ true
      → IsFileOf g bytes xs
  file_said Are next bytes first xs is title whole are ends =
      let cut = ap (pieces 10) is ∙ pieces-cut 10 first (texts xs) whole in
      subst (λ ls. AreAmong g ls xs) (sym cut) (title, (lines_say Are next [] xs are, ends))
