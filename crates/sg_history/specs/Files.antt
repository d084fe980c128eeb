-- Files of lines: a first line, and further lines, each read by a grammar after those before it. Each line ends with a line
-- feed.
use Rattle.std.specs.Prelude.{◌≡◌, ◌⊎◌, ℕ, ◌+◌, Bool, List, [], ◌∷◌, length, reverse, IsTrue}
use Rattle.sg_history.specs.declared.fault.BadLine.{BadLine}
use Rattle.sg_history.specs.declared.fault.Why.{Why}
use Rattle.sg_history.specs.declared.fault.Why.TheVariants.{Head, Ending}
use Rattle.sg_history.specs.Pieces.{pieces}

-- a grammar of lines: which is a first line; what a further line says after these items, the newest first, and what is wrong with it, its line feed apart; and whether a file may end there
pub record LineGrammar (X : Type 0) : Type 1 where
  pub IsTitle : List ℕ → Type 0
  pub Says : List X → List ℕ → X → Type 0
  pub Fails : List X → List ℕ → Why → Type 0
  pub may_end : List X → Bool

-- of a text that is cut at its line feeds, the first lines say these items, and this is left
abbrev pub Begins : {X : Type 0} → LineGrammar X → List X → List (List ℕ) → List X → List (List ℕ) → Type 0
Begins g older lines [] left = lines ≡ left
Begins g older [] (x ∷ xs) left = ⊥
Begins g older (end ∷ []) (x ∷ xs) left = ⊥
Begins g older (line ∷ next ∷ more) (x ∷ xs) left = g.Says older line x × Begins g (x ∷ older) (next ∷ more) xs left

-- what is wrong with the first of these lines: it has no line feed and is not the end of a file, or else what is wrong with the line
abbrev pub Stops : {X : Type 0} → LineGrammar X → List X → List (List ℕ) → Why → Type 0
Stops g older [] why = ⊥
Stops g older (end ∷ []) why = (why ≡ Ending) × ¬ ((end ≡ []) × IsTrue (g.may_end older))
Stops g older (line ∷ next ∷ more) why = g.Fails older line why

-- lines that say items, which may be none, and then a line with this fault
pub record IsBadBehind {X : Type 0} (g : LineGrammar X) (lines : List (List ℕ)) (bad : BadLine) : Type 0 where
  pub items : List X
  pub left : List (List ℕ)
  pub begun : Begins g [] lines items left
  pub place : bad.place ≡ length items + 2
  pub fault : Stops g (reverse items) left bad.why

-- what is wrong with a first line that has no line feed
abbrev pub IsTitleFault : (List ℕ → Type 0) → List ℕ → Why → Type 0
IsTitleFault IsTitle first why = ((why ≡ Ending) × IsTitle first) ⊎ ((why ≡ Head) × ¬ (IsTitle first))

-- the first bad line of a text that is cut at its line feeds
abbrev pub IsBadAmong : {X : Type 0} → LineGrammar X → List (List ℕ) → BadLine → Type 0
IsBadAmong g [] bad = ⊥
IsBadAmong g (first ∷ []) bad = (bad.place ≡ 1) × IsTitleFault g.IsTitle first bad.why
IsBadAmong g (first ∷ next ∷ more) bad =
    ((bad.place ≡ 1) × (bad.why ≡ Head) × ¬ (g.IsTitle first)) ⊎ (g.IsTitle first × IsBadBehind g (next ∷ more) bad)

-- the text is no file of this grammar, and this is its first bad line
abbrev pub IsBadFile : {X : Type 0} → LineGrammar X → List ℕ → BadLine → Type 0
IsBadFile g bytes bad = IsBadAmong g (pieces 10 bytes) bad

-- the lines say these items, behind which a file may end
abbrev pub AreSaid : {X : Type 0} → LineGrammar X → List (List ℕ) → List X → Type 0
AreSaid g lines items = Begins g [] lines items ([] ∷ []) × IsTrue (g.may_end (reverse items))

-- the first line, and lines that say these items
abbrev pub AreAmong : {X : Type 0} → LineGrammar X → List (List ℕ) → List X → Type 0
AreAmong g [] items = ⊥
AreAmong g (first ∷ lines) items = g.IsTitle first × AreSaid g lines items

-- the text is the file of these items
abbrev pub IsFileOf : {X : Type 0} → LineGrammar X → List ℕ → List X → Type 0
IsFileOf g bytes items = AreAmong g (pieces 10 bytes) items

-- a line says one item at most, one thing at most is wrong with it, and nothing where it says an item
pub record IsLawful {X : Type 0} (g : LineGrammar X) : Type 0 where
  pub one : (older : List X) (line : List ℕ) (x y : X) → g.Says older line x → g.Says older line y → x ≡ y
  pub one_fault : (older : List X) (line : List ℕ) (a b : Why) → g.Fails older line a → g.Fails older line b → a ≡ b
  pub apart : (older : List X) (line : List ℕ) (x : X) (why : Why) → g.Says older line x → ¬ (g.Fails older line why)

-- each line is a first line or is not, and each says an item, or something is wrong with it
pub record IsDecided {X : Type 0} (g : LineGrammar X) : Type 0 where
  pub title : (line : List ℕ) → g.IsTitle line ⊎ ¬ (g.IsTitle line)
  pub either : (older : List X) (line : List ℕ) → ((x : X) × g.Says older line x) ⊎ ((why : Why) × g.Fails older line why)
