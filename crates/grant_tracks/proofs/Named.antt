-- the roles among what is held, and the names that are kept of them
use Rattle.std.proofs.Common.{◌≡◌, ◌≤◌, ◌+◌, ℕ, nat_cmp, refl, sym, ◌∙◌, ap, subst, arith, Bool, true, false, List, [], ◌∷◌, String, Option, Some, None, string_bytes, if◌then◌else◌}
use Rattle.std.specs.Prelude.{option_map}
use Rattle.std.specs.Global.{Global}
use Rattle.std.specs.Map.{lookup}
use Rattle.std.specs.BTreeMap.{get_by_text, is_at}
use Rattle.std.specs.Cmp.Lexicographic.{bytes_decides, slice_cmp}
use Rattle.std.specs.Str.{bytes_eq}
use Rattle.std.proofs.lemmas.Map.Entries.{lookup_head, lookup_tail}
use Rattle.std.proofs.lemmas.Map.Text.{is_eq-slice_cmp}
use Rattle.std.proofs.lemmas.Option.{none-some}
use Rattle.grant_tracks.specs.declared.things.What.{What}
use Rattle.grant_tracks.specs.declared.things.What.TheVariants as what
use Rattle.grant_tracks.specs.declared.held.Held.{Held}
use Rattle.grant_tracks.specs.Changed.{AreNamesSettled, AreSettled, EachName, IsSettled, changed_by, names_changed, role_changed, roles_changed}
use Rattle.grant_tracks.specs.Holdings.{Holders, place_of}
use Rattle.grant_tracks.specs.Reads.{gives_channel, role_channel}
use Rattle.grant_tracks.specs.What.{same_what}
use Rattle.grant_tracks.proofs.Same.{whats, what_itself}

abbrev Names : Type 0
Names = List (String Global × ℕ)

abbrev at : List ℕ → String Global → Bool
at r = is_at (λ k. slice_cmp nat_cmp r (string_bytes k))

at_is : (r : List ℕ) (k : String Global) → at r k ≡ bytes_eq r (string_bytes k)
at_is r k = is_eq-slice_cmp r (string_bytes k)

at_itself : (k : String Global) → at (string_bytes k) k ≡ true
at_itself k = at_is (string_bytes k) k ∙ (bytes_decides (string_bytes k) (string_bytes k)).1 refl

-- what holds of each role that has a place holds of each of the names, and of each role among what is held
module _ (P : List ℕ → Type 0) where
  abbrev IfRole : What → Type 0
  IfRole what.Exists = Unit {0}
  IfRole (what.Channel c) = Unit {0}
  IfRole (what.Role r) = P r

  abbrev EachRole : List Held → Type 0
  EachRole [] = Unit {0}
  EachRole (h ∷ hs) = IfRole h.what × EachRole hs

  of_named : (es : Names) → EachName P es → (r : List ℕ) (i : ℕ) → lookup (at r) es ≡ Some i → P r
  of_named [] all r i is = absurd (none-some i is)
  of_named (e ∷ es) all r i is = by (at r e.0) refl (of_named es all.1 r i)
    where
      by : (b : Bool) → at r e.0 ≡ b → (lookup (at r) es ≡ Some i → P r) → P r
      by true here rest = subst P (sym ((bytes_decides r (string_bytes e.0)).0 (sym (at_is r e.0) ∙ here))) all.0
      by false other rest = rest (sym (lookup_tail (at r) e es other) ∙ is)

  each_named : (es : Names) → ((r : List ℕ) (i : ℕ) → lookup (at r) es ≡ Some i → P r) → EachName P es
  each_named [] f = tt
  each_named (e ∷ es) f = (f (string_bytes e.0) e.1 (lookup_head (at (string_bytes e.0)) e es (at_itself e.0)), each_named es (λ r i is. by r i is (at r e.0) refl))
    where
      by : (r : List ℕ) (i : ℕ) → lookup (at r) es ≡ Some i → (b : Bool) → at r e.0 ≡ b → P r
      by r i is true here = f r e.1 (lookup_head (at r) e es here)
      by r i is false other = f r i (lookup_tail (at r) e es other ∙ is)

  of_role : (w : What) (r : List ℕ) → w ≡ what.Role r → IfRole w → P r
  of_role w r is holds = subst IfRole is holds

  of_placed : (list : List Held) → EachRole list → (r : List ℕ) (i : ℕ) → place_of list (what.Role r) ≡ Some i → P r
  of_placed [] all r i is = absurd (none-some i is)
  of_placed (h ∷ hs) all r i is = by (same_what h.what (what.Role r)) refl (of_placed hs all.1 r)
    where
      next : (o : Option ℕ) → place_of hs (what.Role r) ≡ o → option_map (λ (n : ℕ). n + 1) o ≡ Some i → ((n : ℕ) → place_of hs (what.Role r) ≡ Some n → P r) → P r
      next None is p rest = absurd (none-some i p)
      next (Some n) is p rest = rest n is

      by : (b : Bool) → same_what h.what (what.Role r) ≡ b → ((n : ℕ) → place_of hs (what.Role r) ≡ Some n → P r) → P r
      by true here rest = of_role h.what r (whats h.what (what.Role r) here) all.0
      by false other rest = next (place_of hs (what.Role r)) refl (sym (ap (λ (b : Bool). if b then Some 0 else option_map (λ (n : ℕ). n + 1) (place_of hs (what.Role r))) other) ∙ is) rest

  each_placed : (list : List Held) → ((r : List ℕ) (i : ℕ) → place_of list (what.Role r) ≡ Some i → P r) → EachRole list
  each_placed [] f = tt
  each_placed (h ∷ hs) f = (first h.what refl, each_placed hs (λ r i is. by r i is (same_what h.what (what.Role r)) refl))
    where
      choice : List ℕ → Bool → Option ℕ
      choice r b = if b then Some 0 else option_map (λ (n : ℕ). n + 1) (place_of hs (what.Role r))

      first : (w : What) → h.what ≡ w → IfRole w
      first what.Exists is = tt
      first (what.Channel c) is = tt
      first (what.Role r) is = f r 0 (ap (choice r) (ap (λ (w : What). same_what w (what.Role r)) is ∙ what_itself (what.Role r)))

      by : (r : List ℕ) (i : ℕ) → place_of hs (what.Role r) ≡ Some i → (b : Bool) → same_what h.what (what.Role r) ≡ b → P r
      by r i is true here = f r 0 (ap (choice r) here)
      by r i is false other = f r (i + 1) (ap (choice r) other ∙ ap (λ (o : Option ℕ). option_map (λ (n : ℕ). n + 1) o) is)

module _ (roles : Holders) where
  abbrev last : List ℕ → ℕ
  last r = changed_by (get_by_text roles r)

  within_names : (es : Names) (m : ℕ) → EachName (λ r. last r ≤ m) es → names_changed roles es ≤ m
  within_names [] m all = omega arith
  within_names (e ∷ es) m all = omega (arith, all.0, within_names es m all.1)

  names_within : (es : Names) (m : ℕ) → names_changed roles es ≤ m → EachName (λ r. last r ≤ m) es
  names_within [] m le = tt
  names_within (e ∷ es) m le = (omega (arith, le), names_within es m (omega (arith, le)))

  within_roles : (list : List Held) (m : ℕ) → EachRole (λ r. last r ≤ m) list → roles_changed roles list ≤ m
  within_roles [] m all = omega arith
  within_roles (h ∷ hs) m all = omega (arith, first h.what all.0, within_roles hs m all.1)
    where
      first : (w : What) → IfRole (λ r. last r ≤ m) w → role_changed roles w ≤ m
      first what.Exists holds = omega arith
      first (what.Channel c) holds = omega arith
      first (what.Role r) holds = holds

  roles_within : (list : List Held) (m : ℕ) → roles_changed roles list ≤ m → EachRole (λ r. last r ≤ m) list
  roles_within [] m le = tt
  roles_within (h ∷ hs) m le = (first h.what (omega (arith, le)), roles_within hs m (omega (arith, le)))
    where
      first : (w : What) → role_changed roles w ≤ m → IfRole (λ r. last r ≤ m) w
      first what.Exists low = tt
      first (what.Channel c) low = tt
      first (what.Role r) low = low

  -- where the names' places are those of the roles
  module _ (es : Names) (list : List Held) (are : (r : List ℕ) → lookup (at r) es ≡ place_of list (what.Role r)) where
    pub same_last : names_changed roles es ≡ roles_changed roles list
    same_last = omega (arith, low, high)
      where
        low : names_changed roles es ≤ roles_changed roles list
        low = within_names es (roles_changed roles list) (each_named (λ r. last r ≤ roles_changed roles list) es (λ r i is. of_placed (λ r. last r ≤ roles_changed roles list) list (roles_within list (roles_changed roles list) (omega arith)) r i (sym (are r) ∙ is)))

        high : roles_changed roles list ≤ names_changed roles es
        high = within_roles list (names_changed roles es) (each_placed (λ r. last r ≤ names_changed roles es) list (λ r i is. of_named (λ r. last r ≤ names_changed roles es) es (names_within es (names_changed roles es) (omega arith)) r i (are r ∙ is)))

    pub same_settled : (n : ℕ) → AreNamesSettled roles es n → AreSettled roles list n
    same_settled n all = each list (each_placed Holds list (λ r i is. of_named Holds es all r i (are r ∙ is)))
      where
        Holds : List ℕ → Type 0
        Holds r = (x : List ℕ) → IsSettled n (λ k. role_channel roles r k x)

        first : (w : What) → IfRole Holds w → (x : List ℕ) → IsSettled n (λ k. gives_channel roles w k x)
        first what.Exists holds x = λ j k le more. refl
        first (what.Channel c) holds x = λ j k le more. refl
        first (what.Role r) holds x = holds x

        each : (list : List Held) → EachRole Holds list → AreSettled roles list n
        each [] all = tt
        each (h ∷ hs) all = (first h.what all.0, each hs all.1)
