-- What is wrong with the fields of a line, of which the first is its kind: that, else their number, else the first field outside
-- its grammar. The grammars are any, and so are the kinds.
use Rattle.std.specs.Prelude.{◌≡◌, ◌≢◌, ℕ, zero, suc, ◌-◌, ◌≤◌, List, [], ◌∷◌, length, Option, Some, None}
use Rattle.sg_history.specs.declared.fault.Why.{Why}
use Rattle.sg_history.specs.declared.fault.Why.TheVariants as reason

-- each text is in the grammar at its place, and there are as many
abbrev pub FitAll : {G : Type 0} → (G → List ℕ → Type 0) → List G → List (List ℕ) → Type 0
FitAll Fits [] [] = Unit {0}
FitAll Fits [] (text ∷ texts) = ⊥
FitAll Fits (grammar ∷ grammars) [] = ⊥
FitAll Fits (grammar ∷ grammars) (text ∷ texts) = Fits grammar text × FitAll Fits grammars texts

-- this many texts are in their grammars, and the next one is not in its own
abbrev pub IsFirstUnfit : {G : Type 0} → (G → List ℕ → Type 0) → List G → List (List ℕ) → ℕ → Type 0
IsFirstUnfit Fits [] texts n = ⊥
IsFirstUnfit Fits (grammar ∷ grammars) [] n = ⊥
IsFirstUnfit Fits (grammar ∷ grammars) (text ∷ texts) zero = ¬ (Fits grammar text)
IsFirstUnfit Fits (grammar ∷ grammars) (text ∷ texts) (suc n) = Fits grammar text × IsFirstUnfit Fits grammars texts n

-- what is wrong with texts that are to be in these grammars: there are not as many, or the first one outside its grammar, where the kind is field 1
abbrev pub IsTextsFault : {G : Type 0} → (G → List ℕ → Type 0) → List G → List (List ℕ) → Why → Type 0
IsTextsFault Fits grammars texts reason.Head = ⊥
IsTextsFault Fits grammars texts reason.Ending = ⊥
IsTextsFault Fits grammars texts reason.Kind = ⊥
IsTextsFault Fits grammars texts reason.Fields = length texts ≢ length grammars
IsTextsFault Fits grammars texts (reason.Field n) = (length texts ≡ length grammars) × (2 ≤ n) × IsFirstUnfit Fits grammars texts (n - 2)
IsTextsFault Fits grammars texts (reason.Rule n) = ⊥
IsTextsFault Fits grammars texts reason.Long = ⊥
IsTextsFault Fits grammars texts (reason.Config path why) = ⊥

-- what is wrong with texts under a kind, which may be none
abbrev pub IsKindFault : {G : Type 0} → (G → List ℕ → Type 0) → Option (List G) → List (List ℕ) → Why → Type 0
IsKindFault Fits None texts why = why ≡ reason.Kind
IsKindFault Fits (Some grammars) texts why = IsTextsFault Fits grammars texts why

-- what is wrong with the fields of a line: the first is no kind, or else what follows it
abbrev pub IsFieldsFault : {G : Type 0} → (G → List ℕ → Type 0) → (List ℕ → Option (List G)) → List (List ℕ) → Why → Type 0
IsFieldsFault Fits kinds [] why = why ≡ reason.Kind
IsFieldsFault Fits kinds (kind ∷ texts) why = IsKindFault Fits (kinds kind) texts why

-- the texts that follow a kind, which must be one
abbrev pub FitKind : {G : Type 0} → (G → List ℕ → Type 0) → Option (List G) → List (List ℕ) → Type 0
FitKind Fits None texts = ⊥
FitKind Fits (Some grammars) texts = FitAll Fits grammars texts

-- the fields of a line of which nothing is wrong: a kind, and as many texts as follow it, each in its grammar
abbrev pub AreFit : {G : Type 0} → (G → List ℕ → Type 0) → (List ℕ → Option (List G)) → List (List ℕ) → Type 0
AreFit Fits kinds [] = ⊥
AreFit Fits kinds (kind ∷ texts) = FitKind Fits (kinds kind) texts
