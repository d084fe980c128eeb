-- texts of lists, and lists that rise
use Rattle.std.specs.Prelude.{◌≡◌, ◌≢◌, ℕ, Bool, true, ◌&&◌, List, [], ◌∷◌, map, nat_eq, IsTrue}
use Rattle.std.specs.List.{join_with_byte, list_all, slice_split}
use Rattle.std.specs.Ordering.{is_lt}
use Rattle.std.specs.declared.cmp.Ordering.{Ordering}
use Rattle.sg_names.specs.Grammar.{lacks}

-- `-` for none, else the items' texts joined by commas
abbrev pub list_text : List (List ℕ) → List ℕ
list_text [] = 45 ∷ []
list_text (text ∷ texts) = join_with_byte 44 (text ∷ texts)

-- each item comes strictly before the next
abbrev pub rises : {X : Type 0} → (X → X → Ordering) → List X → Bool
rises order [] = true
rises order (x ∷ []) = true
rises order (x ∷ y ∷ more) = is_lt (order x y) && rises order (y ∷ more)

-- items of a grammar can be distinguished in a list: a text has no comma, is not `-`, and is that of one item
pub record AreApart {X : Type 0} (text : X → List ℕ) (admits : X → Bool) : Type 0 where
  pub lacks_comma : (x : X) → IsTrue (admits x) → IsTrue (lacks 44 (text x))
  pub is_no_dash : (x : X) → IsTrue (admits x) → text x ≢ 45 ∷ []
  pub has_one_text : (x y : X) → IsTrue (admits x) → IsTrue (admits y) → text x ≡ text y → x ≡ y

-- a text is that of an item
pub record HasItem {X : Type 0} (text : X → List ℕ) (admits : X → Bool) (part : List ℕ) : Type 0 where
  pub item : X
  pub admitted : admits item ≡ true
  pub spelled : part ≡ text item

-- the parts of a text between commas are those of items
pub record HasItems {X : Type 0} (text : X → List ℕ) (admits : X → Bool) (whole : List ℕ) : Type 0 where
  pub items : List X
  pub admitted : list_all admits items ≡ true
  pub parts : slice_split (λ b. nat_eq b 44) whole ≡ map text items

-- a text begins with this part, behind which there is nothing or a comma
pub record StartsWith (part whole : List ℕ) : Type 0 where
  pub others : List (List ℕ)
  pub parts : slice_split (λ b. nat_eq b 44) whole ≡ part ∷ others
