-- Walks over items, and what a cut of a text says.
use Rattle.std.proofs.Common.{◌≡◌, ℕ, Bool, true, false, not, IsTrue, List, [], ◌∷◌, ◌++◌, Option, Some, None, refl, sym, ap, ◌∙◌, eqb, ◌&&◌, rules, Bor}
use Rattle.std.specs.Prelude.{option_map, cond, IfSome, IfNone}
use Rattle.sg_names.specs.Grammar.{lacks}
use Rattle.ws_door.specs.Items.{parted_at, or_else, first_given}

-- an item that gives nothing is passed over
pub passed_over : {A : Type 0} (given : List ℕ → Option A) (items : List (List ℕ)) (item : List ℕ) (later : List (List ℕ))
    → items ≡ item ∷ later → given item ≡ None → first_given given items ≡ first_given given later
passed_over given items item later e none = ap (first_given given) e ∙ ap (λ o. or_else o (first_given given later)) none

-- an item that gives something is taken
pub taken_first : {A : Type 0} (given : List ℕ → Option A) (items : List (List ℕ)) (item : List ℕ) (later : List (List ℕ)) (value : A)
    → items ≡ item ∷ later → given item ≡ Some value → first_given given items ≡ Some value
taken_first given items item later value e some = ap (first_given given) e ∙ ap (λ o. or_else o (first_given given later)) some

or_none : {A : Type 0} (o : Option A) → or_else o None ≡ o
or_none None = refl
or_none (Some value) = refl

-- of one item
pub given_by_one : {A : Type 0} (given : List ℕ → Option A) (items : List (List ℕ)) (item : List ℕ)
    → items ≡ item ∷ [] → first_given given items ≡ given item
given_by_one given items item e = ap (first_given given) e ∙ or_none (given item)

lacks_head : (b : Bool) (rest : Bool) → IsTrue (not b && rest) → (b ≡ false) × IsTrue rest
lacks_head true rest h = cc
lacks_head false rest h = (refl, h)

pub parted_between : (mark : ℕ) (front back : List ℕ) → IsTrue (lacks mark front) → parted_at mark (front ++ mark ∷ back) ≡ Some (front, back)
parted_between mark [] back h =
    let same : eqb mark mark ≡ true = search rules in
    ap (λ (t : Bool). cond {A = Option (List ℕ × List ℕ)} t (Some ([], back)) (option_map (λ (parts : List ℕ × List ℕ). (mark ∷ parts.0, parts.1)) (parted_at mark back))) same
parted_between mark (b ∷ front) back h =
    let apart = lacks_head (eqb b mark) (lacks mark front) h in
    ap (λ (t : Bool). cond {A = Option (List ℕ × List ℕ)} t (Some ([], front ++ mark ∷ back)) (option_map (λ (parts : List ℕ × List ℕ). (b ∷ parts.0, parts.1)) (parted_at mark (front ++ mark ∷ back)))) apart.0
    ∙ ap (option_map (λ (parts : List ℕ × List ℕ). (b ∷ parts.0, parts.1))) (parted_between mark front back apart.1)

pub parted_nowhere : (mark : ℕ) (bytes : List ℕ) → IsTrue (lacks mark bytes) → parted_at mark bytes ≡ None
parted_nowhere mark [] h = refl
parted_nowhere mark (b ∷ bytes) h =
    let apart = lacks_head (eqb b mark) (lacks mark bytes) h in
    ap (λ (t : Bool). cond {A = Option (List ℕ × List ℕ)} t (Some ([], bytes)) (option_map (λ (parts : List ℕ × List ℕ). (b ∷ parts.0, parts.1)) (parted_at mark bytes))) apart.0
    ∙ ap (option_map (λ (parts : List ℕ × List ℕ). (b ∷ parts.0, parts.1))) (parted_nowhere mark bytes apart.1)

-- what a cut says
pub parted_by : (mark : ℕ) (cut : Option (Bor (List ℕ) × Bor (List ℕ))) (bytes : List ℕ)
    → IfSome cut (λ p. (bytes ≡ p.0.now ++ mark ∷ p.1.now) × IsTrue (lacks mark p.0.now)) → IfNone cut (IsTrue (lacks mark bytes))
    → option_map (λ (p : Bor (List ℕ) × Bor (List ℕ)). (p.0.now, p.1.now)) cut ≡ parted_at mark bytes
parted_by mark None bytes some none = sym (parted_nowhere mark bytes none)
parted_by mark (Some p) bytes some none = sym (ap (parted_at mark) some.0 ∙ parted_between mark p.0.now p.1.now some.1)
